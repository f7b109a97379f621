use Rattle.std.proofs.Common.{◌≡◌, ℕ, ◌*◌, ◌^◌, false, List, length, take, vec_len}
use Rattle.digraph.specs.Adjacency.{has_node}
use Rattle.digraph.specs.code.Adjacency.{lists_of}
use Rattle.dependency_graph.specs.Graph.{numbers}
use Rattle.list_schedule.specs.Estimates.{Estimates}
use Rattle.list_schedule.specs.Ranks.{AreRanks, IsRankOrder}
use Rattle.list_schedule.specs.code.Tables.{AreCosts, AreCandidates}
use Rattle.list_schedule.specs.code.Board.{AreSmall, IsLong, ArePlaced, IsUntouched}
use Rattle.list_schedule.proofs.placing.place_all.Given as goal

abbrev pub invariant-loop-job : goal.invariant-loop-job
invariant-loop-job l = record {
  long : IsLong l.board (length l.kept);
  free : length l.board.free.items ≡ vec_len l.initial.board.free;
  small : AreSmall l.board (l.job-index * 2 ^ 65);
  placed : (e : Estimates) (ranks : List ℕ) → AreCosts l.graph l.kept e (lists_of l.times) (lists_of l.moves) → AreCandidates l.kept e (lists_of l.candidates)
      → AreRanks l.graph l.kept e ranks → IsRankOrder l.kept ranks (numbers l.order) → ArePlaced l.graph l.kept e l.board l.order l.job-index;
  others : (a : ℕ) → has_node a (take l.job-index (numbers l.order)) ≡ false → IsUntouched l.board a;
}
