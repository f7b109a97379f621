use Rattle.std.proofs.Common.{◌≡◌, ◌++◌, List, ℕ, [], drop, take, Bor}
use Rattle.std.specs.BTreeSet.{contains}
use Rattle.toolbox.specs.Lines.{bytes_of, written}
use Rattle.toolbox.specs.Transformation.Distinct.{is_among, new_lines}
use Rattle.toolbox.proofs.LinesLemmas.{line_cmp}
use Rattle.toolbox.proofs.transformation.distinct.distinct_lines.Given as goal

abbrev pub invariant-loop-line : goal.invariant-loop-line
invariant-loop-line l = record {
  seen : (line : Bor (List ℕ)) → contains line_cmp l.seen line ≡ is_among (bytes_of (take l.line-index l.lines)) line.now;
  text : l.text.items ++ written (new_lines (bytes_of (take l.line-index l.lines)) (bytes_of (drop l.line-index l.lines))) ≡ written (new_lines [] (bytes_of l.lines));
}
