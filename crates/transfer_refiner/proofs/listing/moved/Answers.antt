use Rattle.transfer_refiner.specs.Draft.{moves}
use Rattle.transfer_refiner.specs.Tasks.{count_execution_sites}
use Rattle.transfer_refiner.specs.code.View.{draft_of}
use Rattle.transfer_refiner.proofs.GridLemmas.{more_rows}
use Rattle.transfer_refiner.proofs.listing.moved.Goals as goal

pub loop-file-preserved : goal.loop-file-preserved
loop-file-preserved c = more_rows c.loop-file.file (count_execution_sites (draft_of c.args.view.now)) (moves (draft_of c.args.view.now)) c.loop-file.moved.items c.push_moves.new.moved.items c.loop-file.invariant c.in_ok-push_moves.ensures
