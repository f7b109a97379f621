use Rattle.std.proofs.Common.{◌≡◌, ◌≢◌, ◌+◌, ◌<◌, ◌∷◌, [], ◌∙◌, ℕ, List, length, get_or, vec_len, sym, subst, arith}
use Rattle.std.specs.List.{All}
use Rattle.std.proofs.lemmas.List.{nil_from_length}
use Rattle.std.proofs.lemmas.Bool.{eqb-false, eqb-true}
use Rattle.digraph.proofs.RanksLemmas.{all_ranks, first_ranks, last_in, more_ranks}
use Rattle.digraph.specs.code.Adjacency.{lists_of}
use Rattle.digraph.specs.code.Search.{IsMarked, IsSpread}
use Rattle.digraph.proofs.ranks.rank_from.Goals as goal

pub spread-requires-clause-frontier : goal.spread-requires-clause-frontier
spread-requires-clause-frontier c = λ k d h.
    let all : All (λ (j : ℕ). j < length c.loop-alloc.table.items) c.deref.result.now = subst (λ (x : List ℕ). All (λ (j : ℕ). j < length c.loop-alloc.table.items) x) (sym c.deref.ensures.value) (last_in (lists_of c.args.predecessors.now) c.args.rank c.loop-alloc.frontier.items c.loop-alloc.table.items c.loop-alloc.invariant.1) in
    let low : get_or c.deref.result.now k d < length c.loop-alloc.table.items = all k d h in
    omega (arith, low, c.loop-alloc.invariant.0)

pub loop-alloc-preserved : goal.loop-alloc-preserved
loop-alloc-preserved c = (
  c.in_ok-frontier.ensures.long ∙ c.loop-alloc.invariant.0,
  more_ranks (lists_of c.args.predecessors.now) c.loop-alloc.table.items c.spread.new.table.items c.args.rank c.loop-alloc.frontier.items c.in_ok-frontier.frontier.items c.loop-alloc.invariant.1
      (subst (λ (x : List ℕ). IsSpread (lists_of c.args.predecessors.now) c.loop-alloc.table.items c.spread.new.table.items x c.in_ok-frontier.frontier.items c.args.rank) c.deref.ensures.value c.in_ok-frontier.ensures.spread),
)
