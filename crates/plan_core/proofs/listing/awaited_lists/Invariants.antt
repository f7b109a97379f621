use Rattle.std.proofs.Common.{◌≡◌, ◌<◌, ℕ, length}
use Rattle.std.specs.Prelude.{slice_get}
use Rattle.digraph.specs.code.Adjacency.{lists_of}
use Rattle.digraph.specs.Adjacency.{neighbours}
use Rattle.plan_core.specs.code.Listing.{awaited}
use Rattle.plan_core.proofs.listing.awaited_lists.Given as goal

abbrev pub invariant-loop-t : goal.invariant-loop-t
invariant-loop-t l = (length l.all.items ≡ l.t) × ((k : ℕ) → k < l.t → neighbours (lists_of l.all.items) k ≡ awaited (lists_of l.writers) (lists_of l.readers) (slice_get l.plan.tasks k))
