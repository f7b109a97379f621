use Rattle.std.proofs.Common.{◌≡◌, ◌<◌, ℕ, length}
use Rattle.digraph.specs.code.Adjacency.{lists_of}
use Rattle.digraph.specs.Adjacency.{neighbours}
use Rattle.plan_core.specs.Words.{parents}
use Rattle.storage_simulation.proofs.front.parent_lists.Given as goal

abbrev pub invariant-loop-task : goal.invariant-loop-task
invariant-loop-task l = (length l.lists.items ≡ l.task) × ((t : ℕ) → t < l.task → neighbours (lists_of l.lists.items) t ≡ parents l.plan t)
