use Rattle.std.proofs.Common.{ℕ, ◌≡◌, ◌+◌, ◌++◌, ◌∷◌, [], ◌∙◌, length, take, get_or, List, sym, ap, subst}
use Rattle.std.proofs.lemmas.List.{take_more}
use Rattle.std.specs.Prelude.{Vec}
use Rattle.std.specs.declared.alloc.Global.{Global}
use Rattle.digraph.proofs.AdjacencyLemmas.{neighbours_at, within}
use Rattle.digraph.proofs.ScatterLemmas.{scatter_add, scatter_skip}
use Rattle.digraph.specs.code.Adjacency.{lists_of}
use Rattle.digraph.specs.Adjacency.{neighbours}
use Rattle.digraph.specs.code.Scatter.{IsScattered, ends_with}
use Rattle.digraph.proofs.adjacency.scatter.Goals as goal
use Rattle.digraph.proofs.adjacency.scatter.Goals.{then-not-ends_with+in_ok-add, else-not-ends_with}

pub loop-place-preserved : goal.loop-place-preserved
loop-place-preserved c =
    let place : ℕ = get_or c.args.places.now c.loop-place.place-index 0 in
    let old : List (List ℕ) = lists_of c.args.lists.now.items in
    let cur : List (List ℕ) = lists_of c.loop-place.lists.items in
    let before : List ℕ = take c.loop-place.place-index c.args.places.now in
    let more : take (c.loop-place.place-index + 1) c.args.places.now ≡ before ++ place ∷ [] = take_more c.args.places.now c.loop-place.place-index 0 c.loop-place-test.true in
    let stood : ends_with c.args.node (neighbours cur place) ≡ c.ends_with.result = ap (ends_with c.args.node) (neighbours_at c.loop-place.lists.items place c.index.result.now (within c.args.places.now c.loop-place.place-index 0 (length c.args.lists.now.items) (length c.loop-place.lists.items) c.loop-place.invariant.0 c.loop-place-test.true c.requires.in_range) c.index.ensures ∙ sym c.deref.ensures.value) ∙ sym c.ends_with.ensures in
    let step : List ℕ → List (List ℕ) → Type 0 = λ ps new. IsScattered old new c.args.node ps in
    elim c.if-not-ends_with.branch [
      | then-not-ends_with+in_ok-add w ↦ (
        ap (λ (v : Vec (Vec ℕ Global) Global). length v.items) w.lists-is ∙ w.in_ok-add.ensures.long ∙ c.loop-place.invariant.0,
        rw w.lists-is (subst (λ (ps : List ℕ). step ps (lists_of w.add.new.lists.items)) (sym more) (scatter_add old cur (lists_of w.add.new.lists.items) c.args.node place before c.requires.below c.loop-place.invariant.1 (stood ∙ w.if-not-ends_with.true) w.in_ok-add.ensures.added)),
      )
      | else-not-ends_with w ↦ (
        ap (λ (v : Vec (Vec ℕ Global) Global). length v.items) w.lists-is ∙ c.loop-place.invariant.0,
        rw w.lists-is (subst (λ (ps : List ℕ). step ps cur) (sym more) (scatter_skip old cur c.args.node place before c.requires.below c.loop-place.invariant.1 (stood ∙ w.if-not-ends_with.false))),
      )
    ]
