use Rattle.std.proofs.Common.{◌≡◌, ◌≤◌, ◌-◌, ◌*◌, ◌^◌, ℕ, length}
use Rattle.digraph.specs.code.Adjacency.{lists_of}
use Rattle.list_schedule.specs.Estimates.{Estimates}
use Rattle.list_schedule.specs.Ranks.{rank}
use Rattle.list_schedule.specs.code.Tables.{AreCosts}
use Rattle.list_schedule.proofs.RankLemmas.{AreRankedFrom}
use Rattle.list_schedule.proofs.ranks.rank_all.Given as goal

abbrev pub invariant-loop-done : goal.invariant-loop-done
invariant-loop-done l = record {
  ranked : (e : Estimates) → AreCosts l.graph l.kept e (lists_of l.times) (lists_of l.moves) → AreRankedFrom l.graph l.kept e l.ranks (length l.ordered - l.done);
  small : (a : ℕ) → rank l.ranks a ≤ l.done * 2 ^ 65;
  long : length l.ranks ≡ length l.kept;
}
