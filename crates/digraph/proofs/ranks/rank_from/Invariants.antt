use Rattle.std.proofs.Common.{◌+◌, ◌≡◌, length}
use Rattle.digraph.proofs.RanksLemmas.{AreRanksBut}
use Rattle.digraph.specs.code.Adjacency.{lists_of}
use Rattle.digraph.specs.code.Search.{unknown}
use Rattle.digraph.proofs.ranks.rank_from.Given as goal

abbrev pub invariant-loop-alloc : goal.invariant-loop-alloc
invariant-loop-alloc l = (length l.table.items ≡ length l.predecessors) × AreRanksBut (lists_of l.predecessors) l.rank l.frontier.items l.table.items

abbrev pub decreases-loop-alloc : goal.decreases-loop-alloc
decreases-loop-alloc l = unknown l.table.items + length l.frontier.items
