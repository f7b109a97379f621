-- Marks of tasks.
use Rattle.std.proofs.Common.{◌≡◌, ℕ, zero, suc, ◌+◌, ◌<◌, ◌||◌, Bool, true, false, List, [], ◌∷◌, length, take, get_or, refl, sym, ap, ◌∙◌, nat_eq}
use Rattle.std.specs.Prelude.{set, replicate}
use Rattle.std.proofs.lemmas.Bool.{eqb-true, eqb-false}
use Rattle.std.proofs.lemmas.List.{get_or-set_same, get_or-set_other}
use Rattle.std.proofs.lemmas.List.Folds.{list_any-append}
use Rattle.plan_core.specs.Numbers.{has}
use Rattle.storage_simulation.specs.code.Following.{AreMarked, is_marked}
use Rattle.storage_simulation.proofs.FollowingLemmas.{front_more}

pub mark_more : (marks : List Bool) (u t : ℕ) → u < length marks → is_marked (set marks u true) t ≡ (nat_eq u t || is_marked marks t)
mark_more marks u t low = by (nat_eq u t) refl
  where
    by : (b : Bool) → nat_eq u t ≡ b → is_marked (set marks u true) t ≡ (b || is_marked marks t)
    by true e = ap (is_marked (set marks u true)) (sym (eqb-true u t e)) ∙ get_or-set_same marks u true false low
    by false e = get_or-set_other marks u t true false (λ k. eqb-false u t e (sym k))

pub no_mark : (n t : ℕ) → is_marked (replicate n false) t ≡ false
no_mark zero t = refl
no_mark (suc n) zero = refl
no_mark (suc n) (suc t) = no_mark n t

or_last : (a b c : Bool) → a ≡ b → (c || a) ≡ (b || (c || false))
or_last true true c e = by c
  where
    by : (c : Bool) → (c || true) ≡ true
    by true = refl
    by false = refl
or_last true false c e = absurd cc
or_last false true c e = absurd cc
or_last false false true e = refl
or_last false false false e = refl

pub marked_more : (old new : List Bool) (xs : List ℕ) (k : ℕ) → k < length xs → AreMarked old (take k xs) → ((t : ℕ) → is_marked new t ≡ (nat_eq (get_or xs k 0) t || is_marked old t)) → AreMarked new (take (k + 1) xs)
marked_more old new xs k l marked each t =
    each t ∙ or_last (is_marked old t) (has (take k xs) t) (nat_eq (get_or xs k 0) t) (marked t)
    ∙ sym (ap (λ (ys : List ℕ). has ys t) (front_more xs k l) ∙ list_any-append (λ y. nat_eq y t) (take k xs) (get_or xs k 0 ∷ []))
