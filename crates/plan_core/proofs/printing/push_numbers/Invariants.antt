use Rattle.std.proofs.Common.{◌≡◌, ◌++◌, drop, map, string_bytes}
use Rattle.std.specs.Fmt.{decimal}
use Rattle.plan_core.specs.code.Printing.{spaced}
use Rattle.plan_core.proofs.printing.push_numbers.Given as goal

abbrev pub invariant-loop-number : goal.invariant-loop-number
invariant-loop-number l = string_bytes l.text ++ spaced (map decimal (drop l.number-index l.numbers)) ≡ string_bytes l.fn.text ++ spaced (map decimal l.numbers)
