use Rattle.std.proofs.Common.{ℕ, ◌≡◌, ◌<◌, ◌∙◌, length, get_or, List, sym, subst, arith, refl}
use Rattle.std.specs.List.{All}
use Rattle.digraph.proofs.AdjacencyLemmas.{neighbours_at}
use Rattle.digraph.proofs.ScatterLemmas.{turned_more}
use Rattle.digraph.specs.code.Adjacency.{lists_of}
use Rattle.digraph.specs.Adjacency.{neighbours}
use Rattle.digraph.specs.code.Scatter.{IsScattered}
use Rattle.digraph.proofs.adjacency.transposed.Goals as goal

pub loop-i-preserved : goal.loop-i-preserved
loop-i-preserved c =
    let list : List ℕ = c.deref.result.now in
    let here : list ≡ neighbours (lists_of c.args.lists.now) c.loop-i.i = c.deref.ensures.value ∙ sym (neighbours_at c.args.lists.now c.loop-i.i c.index-lists-i.result c.loop-i-test.true c.index-lists-i.is) in (
      c.in_ok-scatter.ensures.long ∙ c.loop-i.invariant.0,
      turned_more (lists_of c.args.lists.now) (lists_of c.loop-i.turned.items) (lists_of c.scatter.new.lists.items) c.loop-i.i (c.loop-i.i) refl c.loop-i.invariant.1
          (subst (λ (x : List ℕ). IsScattered (lists_of c.loop-i.turned.items) (lists_of c.scatter.new.lists.items) (c.loop-i.i) x) here c.in_ok-scatter.ensures.added),
    )

pub scatter-requires-clause-in_range : goal.scatter-requires-clause-in_range
scatter-requires-clause-in_range c =
    let list : List ℕ = c.deref.result.now in
    let here : list ≡ neighbours (lists_of c.args.lists.now) c.loop-i.i = c.deref.ensures.value ∙ sym (neighbours_at c.args.lists.now c.loop-i.i c.index-lists-i.result c.loop-i-test.true c.index-lists-i.is) in
    let all : All (λ (j : ℕ). j < length c.args.lists.now) list = subst (λ (x : List ℕ). All (λ (j : ℕ). j < length c.args.lists.now) x) (sym here) (c.requires.in_range c.loop-i.i) in
    λ k d h. let low : (get_or list k d) < length c.args.lists.now = all k d h in omega (arith, low, c.loop-i.invariant.0)
