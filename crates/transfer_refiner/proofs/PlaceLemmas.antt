-- What stands at a place of a list.
use Rattle.std.proofs.Common.{◌≡◌, ℕ, zero, suc, ◌||◌, Bool, true, false, List, [], ◌∷◌, refl, ap, ◌∙◌}
use Rattle.std.specs.Prelude.{Some, slice_get}
use Rattle.std.specs.List.{list_any}
use Rattle.plan_core.proofs.TestLemmas.{or_left, or_right}

-- an element that passes, by its place, and back
pub any_place : {A : Type 0} (test : A → Bool) (xs : List A) → list_any test xs ≡ true → (i : ℕ) × (x : A) × (slice_get xs i ≡ Some x) × (test x ≡ true)
any_place test [] h = absurd cc
any_place test (x ∷ xs) h = by (test x) refl h (λ k. any_place test xs k)
  where
    by : (b : Bool) → test x ≡ b → (b || list_any test xs) ≡ true → (list_any test xs ≡ true → (i : ℕ) × (y : _) × (slice_get xs i ≡ Some y) × (test y ≡ true)) → (i : ℕ) × (y : _) × (slice_get (x ∷ xs) i ≡ Some y) × (test y ≡ true)
    by true e k rest = (0, x, refl, e)
    by false e k rest = let found = rest k in (suc found.0, found.1, found.2, found.3)

pub place_any : {A : Type 0} (test : A → Bool) (xs : List A) (i : ℕ) (x : A) → slice_get xs i ≡ Some x → test x ≡ true → list_any test xs ≡ true
place_any test [] i x e h = absurd cc
place_any test (y ∷ xs) zero x e h = or_left (test y) (list_any test xs) (let s : y ≡ x = cc in ap test s ∙ h)
place_any test (y ∷ xs) (suc i) x e h = or_right (test y) (list_any test xs) (place_any test xs i x e h)
