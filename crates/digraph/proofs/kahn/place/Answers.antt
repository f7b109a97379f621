use Rattle.std.proofs.Common.{◌≡◌, ◌+◌, ◌<◌, ◌≤◌, ◌∙◌, ℕ, List, length, get_or, sym, ap, subst, arith}
use Rattle.std.specs.List.{All}
use Rattle.digraph.proofs.AdjacencyLemmas.{length_lists_of, neighbours_at}
use Rattle.digraph.proofs.KahnLemmas.{enough, placed_all, placed_first, placed_in, placed_more}
use Rattle.digraph.specs.code.Adjacency.{lists_of}
use Rattle.digraph.specs.Adjacency.{neighbours, times}
use Rattle.digraph.specs.code.Kahn.{IsReleased, free, waiting, waits_for}
use Rattle.digraph.proofs.kahn.place.Goals as goal

pub loop-head-init : goal.loop-head-init
loop-head-init c =
    let same = c.deref.ensures.value in
    placed_first c.args.predecessors.now c.in_ok-ordered.ordered.items c.in_ok-counts.counts.items c.in_ok-counts.ensures
    (λ b. c.in_ok-ordered.ensures.placed b ∙ ap (λ (x : List ℕ). free x b) same)
    (subst (λ (x : List ℕ). waiting x + length c.in_ok-ordered.ordered.items ≡ length x) same c.in_ok-ordered.ensures.kept)
    (subst (λ (x : List ℕ). All (λ (j : ℕ). waits_for x j ≡ 0) c.in_ok-ordered.ordered.items) same c.in_ok-ordered.ensures.done)

pub bounds-successors-node : goal.bounds-successors-node
bounds-successors-node c =
    let below : c.loop-head.head < length c.loop-head.ordered.items = omega (arith, c.loop-head-test.true, c.len.ensures, c.loop-head.ordered.ok) in
    let low : c.index-node.result.now < length (lists_of c.args.predecessors.now) = placed_in (lists_of c.args.predecessors.now) c.loop-head.head c.loop-head.ordered.items c.loop-head.counts.items c.loop-head.invariant c.loop-head.head c.index-node.result.now below (sym c.index-node.ensures) in
    omega (arith, low, c.requires.linked.long, length_lists_of c.args.successors.now)

pub release-requires-clause-in_range : goal.release-requires-clause-in_range
release-requires-clause-in_range c =
    let below : c.loop-head.head < length c.loop-head.ordered.items = omega (arith, c.loop-head-test.true, c.len.ensures, c.loop-head.ordered.ok) in
    let low : c.index-node.result.now < length (lists_of c.args.predecessors.now) = placed_in (lists_of c.args.predecessors.now) c.loop-head.head c.loop-head.ordered.items c.loop-head.counts.items c.loop-head.invariant c.loop-head.head c.index-node.result.now below (sym c.index-node.ensures) in
    let within : c.index-node.result.now < length c.args.successors.now = omega (arith, low, c.requires.linked.long, length_lists_of c.args.successors.now) in
    let here : neighbours (lists_of c.args.successors.now) c.index-node.result.now ≡ c.deref-in-loop-head.result.now = neighbours_at c.args.successors.now c.index-node.result.now c.index-successors-node.result within c.index-successors-node.is ∙ sym c.deref-in-loop-head.ensures.value in
    let all : All (λ (j : ℕ). j < length (lists_of c.args.predecessors.now)) c.deref-in-loop-head.result.now = subst (λ (x : List ℕ). All (λ (j : ℕ). j < length (lists_of c.args.predecessors.now)) x) here (c.requires.linked.successors_in c.index-node.result.now) in
    λ k d h. let l : (get_or c.deref-in-loop-head.result.now k d) < length (lists_of c.args.predecessors.now) = all k d h in omega (arith, l, c.loop-head.invariant.long)

pub release-requires-clause-enough : goal.release-requires-clause-enough
release-requires-clause-enough c =
    let below : c.loop-head.head < length c.loop-head.ordered.items = omega (arith, c.loop-head-test.true, c.len.ensures, c.loop-head.ordered.ok) in
    let low : c.index-node.result.now < length (lists_of c.args.predecessors.now) = placed_in (lists_of c.args.predecessors.now) c.loop-head.head c.loop-head.ordered.items c.loop-head.counts.items c.loop-head.invariant c.loop-head.head c.index-node.result.now below (sym c.index-node.ensures) in
    let within : c.index-node.result.now < length c.args.successors.now = omega (arith, low, c.requires.linked.long, length_lists_of c.args.successors.now) in
    let here : neighbours (lists_of c.args.successors.now) c.index-node.result.now ≡ c.deref-in-loop-head.result.now = neighbours_at c.args.successors.now c.index-node.result.now c.index-successors-node.result within c.index-successors-node.is ∙ sym c.deref-in-loop-head.ensures.value in
    subst (λ (x : List ℕ). (b : ℕ) → times b x ≤ waits_for c.loop-head.counts.items b) here (enough (lists_of c.args.predecessors.now) (lists_of c.args.successors.now) c.loop-head.head c.loop-head.ordered.items c.loop-head.counts.items c.requires.linked c.loop-head.invariant c.index-node.result.now below (sym c.index-node.ensures))

pub loop-head-preserved : goal.loop-head-preserved
loop-head-preserved c =
    let below : c.loop-head.head < length c.loop-head.ordered.items = omega (arith, c.loop-head-test.true, c.len.ensures, c.loop-head.ordered.ok) in
    let low : c.index-node.result.now < length (lists_of c.args.predecessors.now) = placed_in (lists_of c.args.predecessors.now) c.loop-head.head c.loop-head.ordered.items c.loop-head.counts.items c.loop-head.invariant c.loop-head.head c.index-node.result.now below (sym c.index-node.ensures) in
    let within : c.index-node.result.now < length c.args.successors.now = omega (arith, low, c.requires.linked.long, length_lists_of c.args.successors.now) in
    let here : neighbours (lists_of c.args.successors.now) c.index-node.result.now ≡ c.deref-in-loop-head.result.now = neighbours_at c.args.successors.now c.index-node.result.now c.index-successors-node.result within c.index-successors-node.is ∙ sym c.deref-in-loop-head.ensures.value in
    placed_more (lists_of c.args.predecessors.now) (lists_of c.args.successors.now) c.loop-head.head c.loop-head.ordered.items c.release.new.ordered.items c.loop-head.counts.items c.release.new.counts.items c.requires.linked c.loop-head.invariant c.index-node.result.now below (sym c.index-node.ensures)
    c.in_ok-release.ensures.long (subst (λ (x : List ℕ). IsReleased c.loop-head.counts.items c.release.new.counts.items c.loop-head.ordered.items c.release.new.ordered.items x) (sym here) c.in_ok-release.ensures.released)

pub returns : goal.returns
returns c =
    placed_all (lists_of c.args.predecessors.now) (lists_of c.args.successors.now) c.loop-head.head c.loop-head.ordered.items c.loop-head.counts.items c.requires.linked c.loop-head.invariant (omega (arith, c.loop-head-test.false, c.len.ensures, c.loop-head.ordered.ok))
