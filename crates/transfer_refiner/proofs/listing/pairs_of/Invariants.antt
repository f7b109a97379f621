use Rattle.std.proofs.Common.{◌≡◌, map}
use Rattle.transfer_refiner.specs.Draft.{stands}
use Rattle.transfer_refiner.specs.Tasks.{pair_of, grid, count_files}
use Rattle.transfer_refiner.specs.code.View.{draft_of}
use Rattle.transfer_refiner.proofs.listing.pairs_of.Given as goal

abbrev pub invariant-loop-site : goal.invariant-loop-site
invariant-loop-site l = l.pairs.items ≡ map pair_of (grid l.site (count_files (draft_of l.view)) (stands (draft_of l.view)))
