use Rattle.std.proofs.Common.{◌≡◌, ◌<◌, ◌∷◌, ◌∙◌, ℕ, Bool, List, length, sym, ap, subst, arith}
use Rattle.std.specs.Prelude.{Option, Some, None}
use Rattle.std.specs.List.{All}
use Rattle.std.proofs.lemmas.List.Elements.{All-cons}
use Rattle.digraph.proofs.AdjacencyLemmas.{length_lists_of, neighbours_at, same_edges}
use Rattle.digraph.proofs.CycleLemmas.{looked, no_cycle, some_cycle}
use Rattle.digraph.specs.Adjacency.{IsRising, neighbours}
use Rattle.digraph.specs.code.Adjacency.{leads, lists_of}
use Rattle.digraph.specs.code.Nearest.{IsLeastAt, IsNearest}
use Rattle.digraph.specs.code.Search.{IsDistanceTable}
use Rattle.digraph.proofs.cycle.cycle_from.Goals as goal

pub returns-in-None-clause-cycle : goal.returns-in-None-clause-cycle
returns-in-None-clause-cycle c =
    let within : c.args.start < length c.args.successors.now = omega (arith, c.requires.start, c.requires.linked.long, length_lists_of c.args.successors.now, length_lists_of c.args.predecessors.now) in
    let here : neighbours (lists_of c.args.successors.now) c.args.start ≡ c.deref-2.result.now = neighbours_at c.args.successors.now c.args.start c.index-successors-start.result within c.index-successors-start.is ∙ sym c.deref-2.ensures.value in
    let right : IsDistanceTable (leads (lists_of c.args.successors.now)) c.args.start c.in_ok-table.table.items = subst (λ (e : ℕ → ℕ → Bool). IsDistanceTable e c.args.start c.in_ok-table.table.items) (same_edges (lists_of c.args.predecessors.now) (lists_of c.args.successors.now) c.requires.linked) c.in_ok-table.ensures.table in
    no_cycle (lists_of c.args.successors.now) c.args.start c.in_ok-table.table.items right (looked (λ t r. IsNearest t r None) c.deref.ensures.value (sym here) c.in-None.ensures)

pub least_at-requires : goal.least_at-requires
least_at-requires c =
    let within : c.args.start < length c.args.successors.now = omega (arith, c.requires.start, c.requires.linked.long, length_lists_of c.args.successors.now, length_lists_of c.args.predecessors.now) in
    let here : neighbours (lists_of c.args.successors.now) c.args.start ≡ c.deref-4.result.now = neighbours_at c.args.successors.now c.args.start c.index-successors-start.result within c.index-successors-start.is ∙ sym c.deref-4.ensures.value in
    subst IsRising here (c.requires.linked.successors_rising c.args.start)

pub descend-requires-clause-table : goal.descend-requires-clause-table
descend-requires-clause-table c =
    let right : IsDistanceTable (leads (lists_of c.args.successors.now)) c.args.start c.in_ok-table.table.items = subst (λ (e : ℕ → ℕ → Bool). IsDistanceTable e c.args.start c.in_ok-table.table.items) (same_edges (lists_of c.args.predecessors.now) (lists_of c.args.successors.now) c.requires.linked) c.in_ok-table.ensures.table in
    subst (λ (x : List (Option ℕ)). IsDistanceTable (leads (lists_of c.args.successors.now)) c.args.start x) (sym c.deref-5.ensures.value) right

pub returns-clause-cycle : goal.returns-clause-cycle
returns-clause-cycle c =
    let within : c.args.start < length c.args.successors.now = omega (arith, c.requires.start, c.requires.linked.long, length_lists_of c.args.successors.now, length_lists_of c.args.predecessors.now) in
    let right : IsDistanceTable (leads (lists_of c.args.successors.now)) c.args.start c.in_ok-table.table.items = subst (λ (e : ℕ → ℕ → Bool). IsDistanceTable e c.args.start c.in_ok-table.table.items) (same_edges (lists_of c.args.predecessors.now) (lists_of c.args.successors.now) c.requires.linked) c.in_ok-table.ensures.table in
    let here : c.index-successors-start.result.items ≡ neighbours (lists_of c.args.successors.now) c.args.start = sym (neighbours_at c.args.successors.now c.args.start c.index-successors-start.result within c.index-successors-start.is) in
    let near : IsNearest c.in_ok-table.table.items (neighbours (lists_of c.args.successors.now) c.args.start) (Some c.in-Some.distance) = looked (λ t r. IsNearest t r (Some c.in-Some.distance)) c.deref.ensures.value (c.deref-2.ensures.value ∙ here) c.in-Some.ensures in
    let least : IsLeastAt c.in_ok-table.table.items (neighbours (lists_of c.args.successors.now) c.args.start) c.in-Some.distance (Some c.in-Some-least_at.successor) = looked (λ t r. IsLeastAt t r c.in-Some.distance (Some c.in-Some-least_at.successor)) c.deref-3.ensures.value (c.deref-4.ensures.value ∙ here) c.in-Some-least_at.ensures in
    some_cycle (lists_of c.args.successors.now) c.args.start c.in_ok-table.table.items c.in-Some.distance c.in-Some-least_at.successor c.in_ok-rest.rest.items _ right near least c.in_ok-rest.ensures.descends
    (c.in_ok-with_first.ensures ∙ ap (λ (js : List ℕ). c.args.start ∷ js) c.deref-6.ensures.value)

pub returns-clause-in_range : goal.returns-clause-in_range
returns-clause-in_range c =
    let within : c.args.start < length c.args.successors.now = omega (arith, c.requires.start, c.requires.linked.long, length_lists_of c.args.successors.now, length_lists_of c.args.predecessors.now) in
    subst (λ (js : List ℕ). All (λ (j : ℕ). j < length c.args.successors.now) js) (sym (c.in_ok-with_first.ensures ∙ ap (λ (js : List ℕ). c.args.start ∷ js) c.deref-6.ensures.value))
    (All-cons (λ (j : ℕ). j < length c.args.successors.now) c.args.start c.in_ok-rest.rest.items within c.in_ok-rest.ensures.in_range)
