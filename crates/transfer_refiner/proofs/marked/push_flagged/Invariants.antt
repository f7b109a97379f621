use Rattle.std.proofs.Common.{◌≡◌, ◌++◌, drop}
use Rattle.transfer_refiner.specs.code.Marked.{flagged_by}
use Rattle.transfer_refiner.proofs.marked.push_flagged.Given as goal

abbrev pub invariant-loop-output : goal.invariant-loop-output
invariant-loop-output l = l.files.items ++ flagged_by (drop l.output-index l.outputs) ≡ l.fn.files.items ++ flagged_by l.outputs
