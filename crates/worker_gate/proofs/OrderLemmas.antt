-- A worker alone begins tasks in the order that was left, and one that is tried again at once.
use Rattle.std.proofs.Common.{◌≡◌, ℕ, ◌⊎◌, Bool, true, false, cond, eqb, not, List, [], ◌∷◌, length, take, inl, inr, refl, sym, ap, subst, ◌∙◌, arith}
use Rattle.std.specs.Prelude.{Option, Some, None}
use Rattle.plan_core.specs.declared.plan.Plan.{Plan}
use Rattle.plan_core.proofs.TestLemmas.{by_bool}
use Rattle.storage_simulation.specs.Following.{AreOnce}
use Rattle.run_record.specs.Events.{Event, Grant, Arrive, End, Clean, Fail, Again, Regrant}
use Rattle.lease_rules.specs.code.Law.{IsConsistent}
use Rattle.lease_rules.specs.Legal.{IsOpen, LegalFrom}
use Rattle.lease_rules.specs.State.{State, after, without}
use Rattle.lease_rules.proofs.ListLemmas.{without_absent, without_gone, without_head}
use Rattle.worker_gate.specs.code.Alone.{NoneOpen, TakeFirst, begun, is_repeat, without_repeats}
use Rattle.worker_gate.specs.code.Law.{HasLeaseLaws}
use Rattle.worker_gate.proofs.StateLemmas.{granted_only, none_after, none_only, same_number, still_open_arrive, still_open_end, still_open_fail, still_open_again}

-- the tasks that are left without the one that was begun last
abbrev pub left : Option ℕ → List ℕ → List ℕ
left None ts = ts
left (Some t) ts = without t ts

-- Only the task that was begun last is open; it isn't left any more, or is the first that is.
pub record IsLast (s : State) (last : Option ℕ) : Type 0 where
  pub open_is : (w t : ℕ) → IsOpen s w t → last ≡ Some t
  pub place : (u : ℕ) → last ≡ Some u → (without u s.rest ≡ s.rest) ⊎ (u ∷ [] ≡ take 1 s.rest)

pub at_first : (s : State) → NoneOpen s → IsLast s None
at_first s none = record { open_is = λ w t o. absurd (none w t o); place = λ u e. absurd cc }

some_is : (t u : ℕ) → Some t ≡ Some u → t ≡ u
some_is t u e = cc

twice : (t : ℕ) (ts : List ℕ) → without t (without t ts) ≡ without t ts
twice t ts = without_absent t (without t ts) (without_gone t ts)

skipped : (t : ℕ) (ts : List ℕ) → without t (t ∷ ts) ≡ without t ts
skipped t ts = ap (λ (b : Bool). cond (not b) (t ∷ without t ts) (without t ts)) (same_number t)

first_is : (t : ℕ) (xs : List ℕ) → t ∷ [] ≡ take 1 xs → (ts : List ℕ) × (xs ≡ t ∷ ts)
first_is t [] e = absurd cc
first_is t (x ∷ xs) e = (xs, let same : t ≡ x = cc in ap (λ y. y ∷ xs) (sym same))

-- the first of what is left, and the others
next_is : (t : ℕ) (xs : List ℕ) → AreOnce xs → t ∷ [] ≡ take 1 xs → xs ≡ t ∷ without t xs
next_is t xs once first =
    let cut = first_is t xs first in
    cut.1 ∙ ap (λ l. t ∷ l) (sym (ap (without t) cut.1 ∙ without_head t cut.0 (subst AreOnce cut.1 once)))

-- where another task is first, the one that was begun last isn't left
left_all : (last : Option ℕ) (t : ℕ) (xs : List ℕ) → ((u : ℕ) → last ≡ Some u → (without u xs ≡ xs) ⊎ (u ∷ [] ≡ take 1 xs)) → t ∷ [] ≡ take 1 xs → is_repeat last t ≡ false → left last xs ≡ xs
left_all None t xs place first off = refl
left_all (Some u) t xs place first off = elim (place u refl) [
  | inl gone ↦ gone
  | inr at ↦ absurd (let two : u ∷ [] ≡ t ∷ [] = at ∙ sym first in let same : u ≡ t = cc in let on : is_repeat (Some u) t ≡ true = subst (λ v. eqb u v ≡ true) same (same_number u) in let no : true ≡ false = sym on ∙ off in cc)
]

repeated : (last : Option ℕ) (t : ℕ) → is_repeat last t ≡ true → last ≡ Some t
repeated None t e = absurd cc
repeated (Some u) t e = let same : u ≡ t = grind (arith, e) in ap Some same

-- After the first of what is left was begun, only it can be open, and it isn't left.
begun_last : (s next : State) (t : ℕ) → next.rest ≡ without t s.rest → ((w u : ℕ) → IsOpen next w u → u ≡ t) → IsLast next (Some t)
begun_last s next t rest only = record {
  open_is = λ w u o. ap Some (sym (only w u o));
  place = λ u e. inl (ap (without u) rest ∙ subst (λ v. without v (without t s.rest) ≡ without t s.rest) (some_is t u e) (twice t s.rest) ∙ sym rest);
}

-- what is begun next stands first, whether it was begun last or not
begins : (last : Option ℕ) (t : ℕ) (bs rest : List ℕ) → AreOnce rest → ((u : ℕ) → last ≡ Some u → (without u rest ≡ rest) ⊎ (u ∷ [] ≡ take 1 rest)) → t ∷ [] ≡ take 1 rest
    → without_repeats (Some t) bs ≡ take (length (without_repeats (Some t) bs)) (without t (without t rest))
    → without_repeats last (t ∷ bs) ≡ take (length (without_repeats last (t ∷ bs))) (left last rest)
begins last t bs rest once place first so = by_bool (is_repeat last t)
    (λ on.
    let same = repeated last t on in
    subst (λ l. without_repeats l (t ∷ bs) ≡ take (length (without_repeats l (t ∷ bs))) (left l rest)) (sym same)
    (subst (λ b. cond b (without_repeats (Some t) bs) (t ∷ without_repeats (Some t) bs) ≡ take (length (cond b (without_repeats (Some t) bs) (t ∷ without_repeats (Some t) bs))) (without t rest)) (sym (same_number t))
    (so ∙ ap (take (length (without_repeats (Some t) bs))) (twice t rest))))
    (λ off.
    let whole = left_all last t rest place first off ∙ next_is t rest once first in
    let new = without_repeats (Some t) bs in
    subst (λ b. cond b (without_repeats last bs) (t ∷ new) ≡ take (length (cond b (without_repeats last bs) (t ∷ new))) (left last rest)) (sym off)
    (ap (λ l. t ∷ l) (so ∙ ap (take (length new)) (twice t rest)) ∙ ap (take (length (t ∷ new))) (sym whole)))

-- an entry that leaves what is left, and opens nothing
settled : (s next : State) (last : Option ℕ) → next.rest ≡ s.rest → ((w u : ℕ) → IsOpen next w u → IsOpen s w u) → IsLast s last → IsLast next last
settled s next last rest fewer at = record {
  open_is = λ w u o. at.open_is w u (fewer w u o);
  place = λ u e. subst (λ l. (without u l ≡ l) ⊎ (u ∷ [] ≡ take 1 l)) (sym rest) (at.place u e);
}

-- the task that was open waits again, first of all
waits_again : (s next : State) (t : ℕ) (last : Option ℕ) → next.rest ≡ t ∷ without t s.rest → ((w u : ℕ) → IsOpen next w u → IsOpen s w u) → last ≡ Some t → IsLast s last → IsLast next last
waits_again s next t last rest fewer is at = record {
  open_is = λ w u o. at.open_is w u (fewer w u o);
  place = λ u e. inr (let same : t ≡ u = some_is t u (sym is ∙ e) in subst (λ v. v ∷ [] ≡ take 1 next.rest) same (sym (ap (take 1) rest)));
}

pub in_order_from : (p : Plan) (s : State) (xs : List Event) (last : Option ℕ) → HasLeaseLaws p → IsConsistent p s → LegalFrom p s xs → TakeFirst p s xs → IsLast s last → without_repeats last (begun xs) ≡ take (length (without_repeats last (begun xs))) (left last s.rest)
in_order_from p s [] last laws consistent legal first at = refl
in_order_from p s (Grant w t ∷ xs) last laws consistent legal first at =
    begins last t (begun xs) s.rest consistent.sound.safe.once at.place first.0.1
    (in_order_from p (after p s (Grant w t)) xs (Some t) laws (laws.consistent s (Grant w t) consistent legal.0) legal.1 first.1
    (begun_last s (after p s (Grant w t)) t refl (granted_only p s w t first.0.0)))
in_order_from p s (Clean w t ∷ xs) last laws consistent legal first at =
    begins last t (begun xs) s.rest consistent.sound.safe.once at.place first.0.1
    (in_order_from p (after p s (Clean w t)) xs (Some t) laws (laws.consistent s (Clean w t) consistent legal.0) legal.1 first.1
    (begun_last s (after p s (Clean w t)) t refl (λ v u o. absurd (none_after p s t (Clean w t) (none_only s t first.0.0) refl v u o))))
in_order_from p s (Regrant w t ∷ xs) last laws consistent legal first at = absurd first.0
in_order_from p s (Again w t c ns ∷ xs) last laws consistent legal first at = elim first.0 [
  | inl opened ↦
      let is = at.open_is w t opened in
      let so = in_order_from p (after p s (Again w t c ns)) xs last laws (laws.consistent s (Again w t c ns) consistent legal.0) legal.1 first.1 (waits_again s (after p s (Again w t c ns)) t last refl (still_open_again p s w t c ns) is at) in
      so ∙ ap (take (length (without_repeats last (begun xs)))) (subst (λ l. left l (t ∷ without t s.rest) ≡ left l s.rest) (sym is) (skipped t (without t s.rest) ∙ twice t s.rest))
  | inr next ↦
      let same : t ∷ without t s.rest ≡ s.rest = sym (next_is t s.rest consistent.sound.safe.once next.1) in
      let so = in_order_from p (after p s (Again w t c ns)) xs last laws (laws.consistent s (Again w t c ns) consistent legal.0) legal.1 first.1 (settled s (after p s (Again w t c ns)) last same (still_open_again p s w t c ns) at) in
      so ∙ ap (λ l. take (length (without_repeats last (begun xs))) (left last l)) same
]
in_order_from p s (Arrive w t n ∷ xs) last laws consistent legal first at = in_order_from p (after p s (Arrive w t n)) xs last laws (laws.consistent s (Arrive w t n) consistent legal.0) legal.1 first.1 (settled s (after p s (Arrive w t n)) last refl (still_open_arrive p s w t n) at)
in_order_from p s (End w t ns ∷ xs) last laws consistent legal first at = in_order_from p (after p s (End w t ns)) xs last laws (laws.consistent s (End w t ns) consistent legal.0) legal.1 first.1 (settled s (after p s (End w t ns)) last refl (still_open_end p s w t ns) at)
in_order_from p s (Fail w t c ns ∷ xs) last laws consistent legal first at = in_order_from p (after p s (Fail w t c ns)) xs last laws (laws.consistent s (Fail w t c ns) consistent legal.0) legal.1 first.1 (settled s (after p s (Fail w t c ns)) last refl (still_open_fail p s w t c ns) at)
