use Rattle.std.proofs.Common.{◌≡◌, ◌++◌, map, drop}
use Rattle.transfer_refiner.specs.Tasks.{transfer}
use Rattle.transfer_refiner.specs.code.View.{draft_of}
use Rattle.transfer_refiner.proofs.listing.push_transfers.Given as goal

abbrev pub invariant-loop-place : goal.invariant-loop-place
invariant-loop-place l = l.kinds.items ++ map (transfer (draft_of l.view)) (drop l.place-index l.moved) ≡ l.fn.kinds.items ++ map (transfer (draft_of l.view)) l.moved
