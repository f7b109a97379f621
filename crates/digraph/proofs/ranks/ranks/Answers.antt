use Rattle.std.proofs.Common.{◌≡◌, ◌<◌, ◌≤◌, ◌∙◌, ℕ, Bool, List, length, sym, ap, subst, arith}
use Rattle.std.specs.List.{All}
use Rattle.std.proofs.lemmas.List.Elements.{All-pop}
use Rattle.digraph.proofs.AdjacencyLemmas.{same_edges}
use Rattle.digraph.specs.code.Adjacency.{comes, lists_of}
use Rattle.digraph.specs.code.Distances.{distance_at}
use Rattle.digraph.specs.code.Ranks.{AreRanks}
use Rattle.digraph.proofs.ranks.ranks.Goals as goal
use Rattle.digraph.proofs.ranks.ranks.Goals.{in-Some+in_ok-rank_from, in_default}

pub loop-rank-preserved : goal.loop-rank-preserved
loop-rank-preserved c =
    let rest : All (λ (n : ℕ). n < length c.args.predecessors.now) c.pop.new.self.items = (All-pop (λ (n : ℕ). n < length c.args.predecessors.now) c.loop-rank.ordered.items c.pop.new.self.items c.pop.result c.pop.ensures.items c.loop-rank.invariant.0).0 in
    elim c.match-pop.branch [
      | in-Some+in_ok-rank_from w ↦
          (let new : c.match-pop.table.items ≡ w.rank_from.new.table.items = ap (λ v. v.items) w.table-is in (
            rest,
            ap length new ∙ w.in_ok-rank_from.ensures.long ∙ c.loop-rank.invariant.1,
            subst (AreRanks (comes (lists_of c.args.predecessors.now))) (sym new) w.in_ok-rank_from.ensures.ranks,
            λ a x at. let low : x ≤ c.loop-rank.rank = w.in_ok-rank_from.ensures.most a x (ap (λ t. distance_at t a) (sym new) ∙ at) in omega (arith, low),
          ))
      | in_default w ↦
          (let same : c.match-pop.table.items ≡ c.loop-rank.table.items = ap (λ v. v.items) w.table-is in (
            rest,
            ap length same ∙ c.loop-rank.invariant.1,
            subst (AreRanks (comes (lists_of c.args.predecessors.now))) (sym same) c.loop-rank.invariant.2,
            λ a x at. let low : x < c.loop-rank.rank = c.loop-rank.invariant.3 a x (ap (λ t. distance_at t a) (sym same) ∙ at) in omega (arith, low),
          ))
    ]

pub returns-clause-ranks : goal.returns-clause-ranks
returns-clause-ranks c = subst (λ (e : ℕ → ℕ → Bool). AreRanks e c.loop-rank.table.items) (same_edges (lists_of c.args.predecessors.now) (lists_of c.args.successors.now) c.requires.linked) c.loop-rank.invariant.2
