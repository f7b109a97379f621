use Rattle.std.proofs.Common.{◌≡◌, ◌≢◌, ◌+◌, ◌<◌, ◌∷◌, [], ◌∙◌, ℕ, List, length, get_or, vec_len, sym, ap, subst, arith}
use Rattle.std.specs.Prelude.{Option, None, replicate}
use Rattle.std.specs.List.{All}
use Rattle.std.proofs.lemmas.List.{nil_from_length}
use Rattle.std.proofs.lemmas.Bool.{eqb-false, eqb-true}
use Rattle.digraph.proofs.AdjacencyLemmas.{length_lists_of}
use Rattle.digraph.proofs.SearchLemmas.{frontier_in, searched_all, searched_first, searched_more}
use Rattle.digraph.specs.code.Adjacency.{lists_of}
use Rattle.digraph.specs.code.Search.{IsMarked, IsSpread}
use Rattle.digraph.proofs.search.search.Goals as goal

pub loop-alloc-init : goal.loop-alloc-init
loop-alloc-init c =
    searched_first (lists_of c.args.predecessors.now) c.args.start c.in_ok-table.table.items c.mark.new.table.items c.mark.new.next.items
    (c.in_ok-table.ensures ∙ ap (λ (n : ℕ). replicate {A = Option ℕ} n None) (sym (length_lists_of c.args.predecessors.now))) (omega (arith, c.requires.start, length_lists_of c.args.predecessors.now)) c.in_ok-mark.ensures.long
    (subst (λ (x : List ℕ). IsMarked c.in_ok-table.table.items c.mark.new.table.items x c.mark.new.next.items (c.args.start ∷ []) 0) c.new-frontier.ensures.items c.in_ok-mark.ensures.marked)

pub overflow_add-distance : goal.overflow_add-distance
overflow_add-distance c =
    let differ : vec_len c.loop-alloc.frontier ≢ 0 = eqb-false (vec_len c.loop-alloc.frontier) 0 (sym c.is_empty.ensures ∙ c.loop-alloc-test.true) in
    let small : c.loop-alloc.distance < length c.args.predecessors.now = omega (arith, differ, c.loop-alloc.frontier.ok, c.loop-alloc.invariant.small, length_lists_of c.args.predecessors.now) in
    omega (arith, small, c.requires.few)

pub spread-requires-clause-long : goal.spread-requires-clause-long
spread-requires-clause-long c = c.loop-alloc.invariant.long ∙ length_lists_of c.args.predecessors.now

pub spread-requires-clause-frontier : goal.spread-requires-clause-frontier
spread-requires-clause-frontier c =
    let all : All (λ (j : ℕ). j < length (lists_of c.args.predecessors.now)) c.deref.result.now = subst (λ (x : List ℕ). All (λ (j : ℕ). j < length (lists_of c.args.predecessors.now)) x) (sym c.deref.ensures.value) (frontier_in (lists_of c.args.predecessors.now) c.args.start c.loop-alloc.distance c.loop-alloc.frontier.items c.loop-alloc.table.items c.loop-alloc.invariant) in
    λ k d h. let l : (get_or c.deref.result.now k d) < length (lists_of c.args.predecessors.now) = all k d h in omega (arith, l, length_lists_of c.args.predecessors.now)

pub loop-alloc-preserved : goal.loop-alloc-preserved
loop-alloc-preserved c =
    let here : c.deref.result.now ≡ c.loop-alloc.frontier.items = c.deref.ensures.value in
    let differ : vec_len c.loop-alloc.frontier ≢ 0 = eqb-false (vec_len c.loop-alloc.frontier) 0 (sym c.is_empty.ensures ∙ c.loop-alloc-test.true) in
    let some : 0 < length c.loop-alloc.frontier.items = omega (arith, differ, c.loop-alloc.frontier.ok) in
    searched_more (lists_of c.args.predecessors.now) c.args.start c.loop-alloc.distance c.loop-alloc.frontier.items c.in_ok-frontier.frontier.items c.loop-alloc.table.items c.spread.new.table.items c.loop-alloc.invariant c.in_ok-frontier.ensures.long some
    (subst (λ (x : List ℕ). IsSpread (lists_of c.args.predecessors.now) c.loop-alloc.table.items c.spread.new.table.items x c.in_ok-frontier.frontier.items (c.loop-alloc.distance + 1)) here c.in_ok-frontier.ensures.spread)

pub returns-clause-table : goal.returns-clause-table
returns-clause-table c =
    let none : vec_len c.loop-alloc.frontier ≡ 0 = eqb-true (vec_len c.loop-alloc.frontier) 0 (sym c.is_empty.ensures ∙ c.loop-alloc-test.false) in
    searched_all (lists_of c.args.predecessors.now) c.args.start c.loop-alloc.distance c.loop-alloc.frontier.items c.loop-alloc.table.items c.loop-alloc.invariant (nil_from_length c.loop-alloc.frontier.items (omega (arith, none, c.loop-alloc.frontier.ok)))
