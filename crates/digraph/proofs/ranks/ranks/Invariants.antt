use Rattle.std.proofs.Common.{ℕ, ◌<◌, ◌≡◌, length}
use Rattle.std.specs.List.{All}
use Rattle.std.specs.Prelude.{Some}
use Rattle.digraph.specs.code.Adjacency.{comes, lists_of}
use Rattle.digraph.specs.code.Distances.{distance_at}
use Rattle.digraph.specs.code.Ranks.{AreRanks}
use Rattle.digraph.proofs.ranks.ranks.Given as goal

abbrev pub invariant-loop-rank : goal.invariant-loop-rank
invariant-loop-rank l = All (λ n. n < length l.predecessors) l.ordered.items × (length l.table.items ≡ length l.predecessors) × AreRanks (comes (lists_of l.predecessors)) l.table.items × ((c x : ℕ) → distance_at l.table.items c ≡ Some x → x < l.rank)
