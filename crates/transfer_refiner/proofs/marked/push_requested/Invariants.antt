use Rattle.std.proofs.Common.{◌≡◌, ◌++◌, drop}
use Rattle.transfer_refiner.specs.code.Marked.{requested_by}
use Rattle.transfer_refiner.proofs.marked.push_requested.Given as goal

abbrev pub invariant-loop-output : goal.invariant-loop-output
invariant-loop-output l = l.files.items ++ requested_by (drop l.output-index l.outputs) ≡ l.fn.files.items ++ requested_by l.outputs
