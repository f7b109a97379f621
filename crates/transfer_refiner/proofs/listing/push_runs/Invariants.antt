use Rattle.std.proofs.Common.{◌≡◌, ◌++◌, map, drop}
use Rattle.transfer_refiner.specs.Tasks.{run}
use Rattle.transfer_refiner.specs.code.View.{draft_of}
use Rattle.transfer_refiner.proofs.listing.push_runs.Given as goal

abbrev pub invariant-loop-part : goal.invariant-loop-part
invariant-loop-part l = l.kinds.items ++ map (run (draft_of l.view)) (drop l.part-index l.view.parts.now) ≡ l.fn.kinds.items ++ map (run (draft_of l.view)) l.view.parts.now
