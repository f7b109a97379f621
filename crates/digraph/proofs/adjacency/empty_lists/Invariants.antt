use Rattle.std.proofs.Common.{◌≡◌, ℕ, [], length}
use Rattle.digraph.specs.code.Adjacency.{lists_of}
use Rattle.digraph.specs.Adjacency.{neighbours}
use Rattle.digraph.proofs.adjacency.empty_lists.Given as goal

abbrev pub invariant-loop : goal.invariant-loop
invariant-loop l = (length l.lists.items ≡ l.counter) × ((k : ℕ) → neighbours (lists_of l.lists.items) k ≡ [])
