use Rattle.std.proofs.Common.{◌≡◌, ◌+◌, ◌-◌, ◌<◌, ◌++◌, ◌∷◌, [], ◌∙◌, ℕ, Bool, true, false, cond, nat_eq, List, length, take, get_or, sym, ap, subst, arith}
use Rattle.std.specs.Prelude.{slice_set}
use Rattle.std.proofs.lemmas.List.{take_more, length-set, get_or_default}
use Rattle.std.proofs.lemmas.Bool.{ne_eqb}
use Rattle.digraph.proofs.KahnLemmas.{release_more, waits_still}
use Rattle.digraph.specs.code.Kahn.{IsReleased, waits_for}
use Rattle.digraph.proofs.kahn.release.Goals as goal
use Rattle.digraph.proofs.kahn.release.Goals.{then-left-eq0+in_ok-push, else-left-eq0}

pub overflow_sub-left : goal.overflow_sub-left
overflow_sub-left c =
    let successor : ℕ = get_or c.args.successors.now c.loop-successor.successor-index 0 in
    let low : successor < length c.args.counts.now.items = c.requires.in_range c.loop-successor.successor-index 0 c.loop-successor-test.true in
    let same : c.index.result.now ≡ waits_for c.loop-successor.counts.items successor = c.index.ensures ∙ get_or_default c.loop-successor.counts.items successor c.index.result.now 1 (omega (arith, low, c.loop-successor.invariant.0)) in
    let is : get_or c.args.successors.now c.loop-successor.successor-index successor ≡ successor = get_or_default c.args.successors.now c.loop-successor.successor-index successor 0 c.loop-successor-test.true in
    let some : 0 < waits_for c.loop-successor.counts.items successor = waits_still c.args.counts.now.items c.loop-successor.counts.items c.args.ordered.now.items c.loop-successor.ordered.items c.args.successors.now c.loop-successor.successor-index successor c.loop-successor.invariant.1 c.requires.enough c.loop-successor-test.true is in
    omega (arith, some, same)

pub loop-successor-preserved : goal.loop-successor-preserved
loop-successor-preserved c =
    let successor : ℕ = get_or c.args.successors.now c.loop-successor.successor-index 0 in
    let cur : List ℕ = c.loop-successor.counts.items in
    let low : successor < length c.args.counts.now.items = c.requires.in_range c.loop-successor.successor-index 0 c.loop-successor-test.true in
    let within : successor < length c.loop-successor.counts.items = omega (arith, low, c.loop-successor.invariant.0) in
    let same : c.index.result.now ≡ waits_for c.loop-successor.counts.items successor = c.index.ensures ∙ get_or_default c.loop-successor.counts.items successor c.index.result.now 1 within in
    let is : get_or c.args.successors.now c.loop-successor.successor-index successor ≡ successor = get_or_default c.args.successors.now c.loop-successor.successor-index successor 0 c.loop-successor-test.true in
    let some : 0 < waits_for c.loop-successor.counts.items successor = waits_still c.args.counts.now.items c.loop-successor.counts.items c.args.ordered.now.items c.loop-successor.ordered.items c.args.successors.now c.loop-successor.successor-index successor c.loop-successor.invariant.1 c.requires.enough c.loop-successor-test.true is in
    let more : take (c.loop-successor.successor-index + 1) c.args.successors.now ≡ take c.loop-successor.successor-index c.args.successors.now ++ successor ∷ [] = take_more c.args.successors.now c.loop-successor.successor-index 0 c.loop-successor-test.true in
    let new : List ℕ = slice_set c.loop-successor.counts.items successor (c.index.result.now - 1) in
    let new_is : slice_set c.loop-successor.counts.items successor (c.index.result.now - 1) ≡ slice_set c.loop-successor.counts.items successor (waits_for c.loop-successor.counts.items successor - 1) = ap (λ (n : ℕ). slice_set c.loop-successor.counts.items successor (n - 1)) same in
    let step : (b : Bool) → nat_eq (waits_for c.loop-successor.counts.items successor - 1) 0 ≡ b → IsReleased c.args.counts.now.items new c.args.ordered.now.items (cond b (c.loop-successor.ordered.items ++ successor ∷ []) c.loop-successor.ordered.items) (take (c.loop-successor.successor-index + 1) c.args.successors.now) =
    λ b e. subst (λ (x : List ℕ). IsReleased c.args.counts.now.items new c.args.ordered.now.items (cond b (c.loop-successor.ordered.items ++ successor ∷ []) c.loop-successor.ordered.items) x) (sym more)
    (release_more c.args.counts.now.items c.loop-successor.counts.items c.args.ordered.now.items c.loop-successor.ordered.items (take c.loop-successor.successor-index c.args.successors.now) successor c.loop-successor.invariant.1 within some new new_is b e) in (
      length-set c.loop-successor.counts.items successor (c.index.result.now - 1) ∙ c.loop-successor.invariant.0,
      elim c.if-left-eq0.branch [
        | then-left-eq0+in_ok-push w ↦ subst (λ (js : List ℕ). IsReleased c.args.counts.now.items new c.args.ordered.now.items js (take (c.loop-successor.successor-index + 1) c.args.successors.now)) (sym (ap (λ v. v.items) w.ordered-is ∙ w.in_ok-push.ensures.items)) (step true (ap (λ (n : ℕ). nat_eq (n - 1) 0) (sym same) ∙ ap (λ (n : ℕ). nat_eq n 0) w.if-left-eq0.true))
        | else-left-eq0 w ↦ subst (λ (js : List ℕ). IsReleased c.args.counts.now.items new c.args.ordered.now.items js (take (c.loop-successor.successor-index + 1) c.args.successors.now)) (sym (ap (λ v. v.items) w.ordered-is)) (step false (ap (λ (n : ℕ). nat_eq (n - 1) 0) (sym same) ∙ ne_eqb (c.index.result.now - 1) 0 w.if-left-eq0.false))
      ],
    )
