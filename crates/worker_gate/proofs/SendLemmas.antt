-- A book crosses threads: each of its parts does. Its trees are of a recursive type, past which the prover looks by itself no further.
use denote.RattleType.{RattleType}
use denote.Param.Send.{IsSend, IsSync, sendable}
use denote.Struct.Tuple.{TupleAt, type_at}
use mir.Syntax.{Sym}
use mathlib.Core.List.{[], ◌∷◌}
use denote.Param.SendFields.{as_row_sync, declared_send, declared_sync}
use denote.Struct.Field.{row_field}
use Rattle.std.proofs.Crossing.{crosses}
use Rattle.peak_tree.proofs.node.Node.TheLaws.TheKnot as Tree
use Rattle.values.proofs.numbers.TaskId.TheSendSync as TaskId
use Rattle.place_peaks.specs.contracts.peaks.Peaks as Peaks
use Rattle.place_peaks.proofs.links.Links.TheSendSync as Links
use Rattle.place_peaks.proofs.ready.Ready.TheSendSync as Ready
use Rattle.place_peaks.proofs.seating.Seating.TheSendSync as Seating
use Rattle.storage_simulation.proofs.standing.Standing.TheSendSync as Standing
use Rattle.peak_tree.specs.contracts.tree.PeakTree as PeakTree
use Rattle.lease_book.specs.contracts.state.RunState as RunState
use Rattle.lease_book.specs.contracts.book.Book as Book
use Rattle.plan_core.proofs.plan.Plan.TheSendSync as Plan
use Rattle.run_record.proofs.history.Record.TheSendSync as Record
use Rattle.lease_book.proofs.trial.Trial.TheSendSync as Trial
use Rattle.storage_simulation.proofs.bench.Bench.TheSendSync as Bench
use Rattle.std.proofs.marker.PhantomData.TheSendSync as PhantomData
use Rattle.outside.specs.declared.host.Host as host
use Rattle.outside.specs.declared.parts.ReadPart as read
use Rattle.outside.specs.declared.parts.WritePart as write
use Rattle.outside.specs.declared.tool.Tool as tool
use Rattle.site_yard.proofs.delivered.Delivered.TheSendSync as Delivered
use Rattle.site_yard.specs.contracts.yard.Yard as Yard

pub tree_send : IsSend PeakTree.the_row
tree_send = search (sendable, crosses, Tree.crosses) depth 30

pub peaks_send : IsSend Peaks.the_row
peaks_send = declared_send Peaks.the_type (
  search (sendable, crosses, Seating.the_send) depth 30,
  (
    search (sendable, crosses) depth 30,
    (
      search (sendable, crosses) depth 30,
      (
        search (sendable, crosses) depth 30,
        (
          search (sendable, crosses, TaskId.the_send) depth 30,
          (
            search (sendable, crosses) depth 30,
            (
              search (sendable, crosses, tree_send) depth 30,
              (
                search (sendable, crosses) depth 30,
                (search (sendable, Ready.the_send) depth 30, tt),
              ),
            ),
          ),
        ),
      ),
    ),
  ),
)

pub state_send : IsSend RunState.the_row
state_send = declared_send RunState.the_type (
  search (sendable, crosses) depth 30,
  (
    search (sendable, crosses, Standing.the_send) depth 30,
    (
      search (sendable, crosses) depth 30,
      (
        search (sendable, crosses) depth 30,
        (
          search (sendable, crosses) depth 30,
          (
            search (sendable, crosses) depth 30,
            (
              search (sendable, peaks_send) depth 30,
              (
                search (sendable, Links.the_send) depth 30,
                (search (sendable, crosses) depth 30, tt),
              ),
            ),
          ),
        ),
      ),
    ),
  ),
)

pub book_send : IsSend Book.the_row
book_send = declared_send Book.the_type (
  search (sendable, crosses, Plan.the_send) depth 30,
  (
    search (sendable, crosses, TaskId.the_send) depth 30,
    (
      search (sendable, crosses, Record.the_send) depth 30,
      (
        search (sendable, state_send) depth 30,
        (
          search (sendable, Trial.the_send) depth 30,
          (search (sendable, Bench.the_send) depth 30, tt),
        ),
      ),
    ),
  ),
)

-- and so does a yard whose host does
pub yard_send : (H T R D : RattleType) (h : host.Ghosts H.Denot R.Denot D.Denot) (r : read.Ghosts R.Denot) (w : write.Ghosts D.Denot) (t : tool.Ghosts T.Denot) → IsSend H → IsSend (Yard.the_row H T R D h r w t)
yard_send H T R D h r w t s = declared_send (Yard.the_type H T R D h r w t) (
  search (sendable, crosses) depth 30,
  (
    search (sendable, book_send) depth 30,
    (
      search (sendable, s) depth 30,
      (
        search (sendable, crosses) depth 30,
        (
          search (sendable, crosses) depth 30,
          (
            search (sendable, crosses) depth 30,
            (
              search (sendable, crosses, Delivered.the_send) depth 30,
              (search (sendable, PhantomData.the_send) depth 30, tt),
            ),
          ),
        ),
      ),
    ),
  ),
)

-- what a closure that borrows four values shares
pub four_sync : (name : Sym) (A B C D : RattleType) → IsSync A → IsSync B → IsSync C → IsSync D → IsSync (TupleAt name (A ∷ B ∷ C ∷ D ∷ []))
four_sync name A B C D a b c d = declared_sync (type_at name (A ∷ B ∷ C ∷ D ∷ [])) (as_row_sync (row_field A) a, (as_row_sync (row_field B) b, (as_row_sync (row_field C) c, (as_row_sync (row_field D) d, tt))))
