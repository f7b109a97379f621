use Rattle.std.proofs.Common.{◌≡◌, ◌++◌, map, drop}
use Rattle.transfer_refiner.specs.Tasks.{delivery}
use Rattle.transfer_refiner.specs.code.View.{draft_of}
use Rattle.transfer_refiner.proofs.listing.push_deliveries.Given as goal

abbrev pub invariant-loop-file : goal.invariant-loop-file
invariant-loop-file l = l.kinds.items ++ map (delivery (draft_of l.view)) (drop l.file-index l.tables.requested.items) ≡ l.fn.kinds.items ++ map (delivery (draft_of l.view)) l.tables.requested.items
