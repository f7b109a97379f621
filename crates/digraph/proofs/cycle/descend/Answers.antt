use Rattle.std.proofs.Common.{ℕ, ◌≡◌, ◌-◌, ◌<◌, ◌∙◌, List, length, sym, subst, arith}
use Rattle.std.specs.Prelude.{Some, None}
use Rattle.std.proofs.lemmas.List.Elements.{All-push}
use Rattle.digraph.proofs.AdjacencyLemmas.{neighbours_at}
use Rattle.digraph.proofs.CycleLemmas.{descend_all, descend_more, next_is, not_there, some_next, there}
use Rattle.digraph.proofs.SearchLemmas.{distance_in}
use Rattle.digraph.specs.Adjacency.{IsRising, neighbours}
use Rattle.digraph.specs.code.Adjacency.{leads, lists_of}
use Rattle.digraph.specs.code.Nearest.{IsLeastAt}
use Rattle.digraph.proofs.cycle.descend.Goals as goal

pub least_at-requires : goal.least_at-requires
least_at-requires c =
    let low : c.loop-node.node < length c.args.table.now = distance_in c.args.table.now c.loop-node.node c.loop-node.left c.loop-node.invariant.0 in
    let here : neighbours (lists_of c.args.successors.now) c.loop-node.node ≡ c.deref.result.now = neighbours_at c.args.successors.now c.loop-node.node c.index-successors-node.result (omega (arith, low, c.requires.long)) c.index-successors-node.is ∙ sym c.deref.ensures.value in
    subst IsRising here (c.requires.rising c.loop-node.node)

pub unreachable-requires : goal.unreachable-requires
unreachable-requires c =
    let low : c.loop-node.node < length c.args.table.now = distance_in c.args.table.now c.loop-node.node c.loop-node.left c.loop-node.invariant.0 in
    let here : neighbours (lists_of c.args.successors.now) c.loop-node.node ≡ c.deref.result.now = neighbours_at c.args.successors.now c.loop-node.node c.index-successors-node.result (omega (arith, low, c.requires.long)) c.index-successors-node.is ∙ sym c.deref.ensures.value in
    let some : 0 < c.loop-node.left = not_there (lists_of c.args.successors.now) c.args.start c.loop-node.node c.loop-node.left c.args.table.now c.requires.table c.loop-node.invariant.0 c.loop-node-test.true in
    some_next (lists_of c.args.successors.now) c.args.start c.loop-node.node c.loop-node.left c.args.table.now c.requires.table c.loop-node.invariant.0 some
    (subst (λ (x : List ℕ). IsLeastAt c.args.table.now x (c.loop-node.left - 1) None) (sym here) c.in-None.ensures)

pub loop-node-preserved : goal.loop-node-preserved
loop-node-preserved c =
    let low : c.loop-node.node < length c.args.table.now = distance_in c.args.table.now c.loop-node.node c.loop-node.left c.loop-node.invariant.0 in
    let here : neighbours (lists_of c.args.successors.now) c.loop-node.node ≡ c.deref.result.now = neighbours_at c.args.successors.now c.loop-node.node c.index-successors-node.result (omega (arith, low, c.requires.long)) c.index-successors-node.is ∙ sym c.deref.ensures.value in
    let some : 0 < c.loop-node.left = not_there (lists_of c.args.successors.now) c.args.start c.loop-node.node c.loop-node.left c.args.table.now c.requires.table c.loop-node.invariant.0 c.loop-node-test.true in
    let found : IsLeastAt c.args.table.now (neighbours (lists_of c.args.successors.now) c.loop-node.node) (c.loop-node.left - 1) (Some c.in-Some.successor) = subst (λ (x : List ℕ). IsLeastAt c.args.table.now x (c.loop-node.left - 1) (Some c.in-Some.successor)) (sym here) c.in-Some.ensures in
    let next = next_is (lists_of c.args.successors.now) c.args.start c.loop-node.node (c.loop-node.left - 1) c.args.table.now c.in-Some.successor c.requires.table found in
    let pushed = c.in_ok-push.ensures.items in
    rw pushed (
      found.1,
      descend_more (leads (lists_of c.args.successors.now)) c.args.start c.args.distance c.args.first c.loop-node.left c.loop-node.node c.in-Some.successor c.loop-node.nodes.items some c.loop-node.invariant.1 next,
      All-push (λ (j : ℕ). j < length c.args.successors.now) c.loop-node.nodes.items c.loop-node.node c.loop-node.invariant.2 (omega (arith, low, c.requires.long)),
    )

pub returns-clause-descends : goal.returns-clause-descends
returns-clause-descends c =
    descend_all (leads (lists_of c.args.successors.now)) c.args.start c.args.distance c.args.first c.loop-node.left c.loop-node.node c.loop-node.nodes.items
    (there (lists_of c.args.successors.now) c.args.start c.loop-node.node c.loop-node.left c.args.table.now c.requires.table c.loop-node.invariant.0 c.loop-node-test.false) c.loop-node.invariant.1
