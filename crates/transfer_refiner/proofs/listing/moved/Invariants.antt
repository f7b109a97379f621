use Rattle.std.proofs.Common.{◌≡◌}
use Rattle.transfer_refiner.specs.Draft.{moves}
use Rattle.transfer_refiner.specs.Tasks.{grid, count_execution_sites}
use Rattle.transfer_refiner.specs.code.View.{draft_of}
use Rattle.transfer_refiner.proofs.listing.moved.Given as goal

abbrev pub invariant-loop-file : goal.invariant-loop-file
invariant-loop-file l = l.moved.items ≡ grid l.file (count_execution_sites (draft_of l.view)) (moves (draft_of l.view))
