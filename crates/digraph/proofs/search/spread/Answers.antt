use Rattle.std.proofs.Common.{ℕ, ◌≡◌, ◌<◌, ◌∙◌, List, length, take, get_or, sym, subst, arith}
use Rattle.std.specs.List.{All}
use Rattle.std.proofs.lemmas.List.{take_more}
use Rattle.digraph.proofs.AdjacencyLemmas.{neighbours_at}
use Rattle.digraph.proofs.SearchLemmas.{spread_more}
use Rattle.digraph.specs.code.Adjacency.{lists_of}
use Rattle.digraph.specs.Adjacency.{neighbours}
use Rattle.digraph.specs.code.Search.{IsMarked}
use Rattle.digraph.proofs.search.spread.Goals as goal

pub mark-requires : goal.mark-requires
mark-requires c =
    let node : ℕ = get_or c.args.frontier.now c.loop-node.node-index 0 in
    let low : node < length c.args.predecessors.now = c.requires.frontier c.loop-node.node-index 0 c.loop-node-test.true in
    let here : neighbours (lists_of c.args.predecessors.now) node ≡ c.deref.result.now = neighbours_at c.args.predecessors.now node c.index-predecessors-node.result low c.index-predecessors-node.is ∙ sym c.deref.ensures.value in
    let all : All (λ (j : ℕ). j < length c.args.predecessors.now) c.deref.result.now = subst (λ (x : List ℕ). All (λ (j : ℕ). j < length c.args.predecessors.now) x) here (c.requires.in_range node) in
    λ k d h. let l : (get_or c.deref.result.now k d) < length c.args.predecessors.now = all k d h in omega (arith, l, c.loop-node.invariant.0, c.requires.long)

pub loop-node-preserved : goal.loop-node-preserved
loop-node-preserved c =
    let node : ℕ = get_or c.args.frontier.now c.loop-node.node-index 0 in
    let low : node < length c.args.predecessors.now = c.requires.frontier c.loop-node.node-index 0 c.loop-node-test.true in
    let here : neighbours (lists_of c.args.predecessors.now) node ≡ c.deref.result.now = neighbours_at c.args.predecessors.now node c.index-predecessors-node.result low c.index-predecessors-node.is ∙ sym c.deref.ensures.value in
    let marked : IsMarked c.loop-node.table.items c.mark.new.table.items c.loop-node.next.items c.mark.new.next.items (neighbours (lists_of c.args.predecessors.now) node) c.args.distance = subst (λ (x : List ℕ). IsMarked c.loop-node.table.items c.mark.new.table.items c.loop-node.next.items c.mark.new.next.items x c.args.distance) (sym here) c.in_ok-mark.ensures.marked in (
      c.in_ok-mark.ensures.long ∙ c.loop-node.invariant.0,
      rw (take_more c.args.frontier.now c.loop-node.node-index 0 c.loop-node-test.true)
          (spread_more (lists_of c.args.predecessors.now) c.args.table.now.items c.loop-node.table.items c.mark.new.table.items (take c.loop-node.node-index c.args.frontier.now) c.loop-node.next.items c.mark.new.next.items node c.args.distance c.loop-node.invariant.1 marked),
    )
