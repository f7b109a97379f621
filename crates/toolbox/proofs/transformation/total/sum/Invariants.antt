use Rattle.std.proofs.Common.{◌≡◌, ◌≤◌, ◌+◌, ◌*◌, ◌^◌, drop}
use Rattle.std.specs.List.{sum}
use Rattle.std.specs.Option.{option_map}
use Rattle.toolbox.specs.Lines.{bytes_of}
use Rattle.toolbox.specs.Transformation.Total.{numbers}
use Rattle.toolbox.proofs.transformation.total.sum.Given as goal

abbrev pub invariant-loop-line : goal.invariant-loop-line
invariant-loop-line l =
    (option_map (λ ns. l.total + sum ns) (numbers (bytes_of (drop l.line-index l.lines))) ≡ option_map (λ ns. sum ns) (numbers (bytes_of l.lines)))
    × (l.total ≤ l.line-index * 10 ^ 18)
