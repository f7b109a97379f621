-- Fronts of a list in which no element passes a test.
use Rattle.std.proofs.Common.{◌≡◌, ℕ, ◌+◌, ◌≤◌, ◌<◌, Bool, true, false, cond, nat_eq, List, [], ◌∷◌, ◌++◌, length, take, get_or, refl, sym, ap, ◌∙◌, arith}
use Rattle.std.specs.Prelude.{filter}
use Rattle.std.proofs.lemmas.List.{take_more}
use Rattle.place_peaks.specs.declared.peaks.Peaks.{Peaks}
use Rattle.place_peaks.specs.Peaks.{HasPassed, is_left, left_of, line_of}
use Rattle.place_peaks.proofs.ChoosingLemmas.{filter_both, take_past}

pub none_passed : (f : ℕ → Bool) (xs : List ℕ) → filter f (take 0 xs) ≡ []
none_passed f [] = refl
none_passed f (x ∷ xs) = refl

-- one more
pub passed_more : (f : ℕ → Bool) (xs : List ℕ) (k t : ℕ) → k < length xs → t ≡ get_or xs k 0 → f t ≡ false
    → filter f (take k xs) ≡ [] → filter f (take (k + 1) xs) ≡ []
passed_more f xs k t l is off h =
    ap (filter f) (take_more xs k 0 l)
    ∙ filter_both f (take k xs) (get_or xs k 0 ∷ [])
    ∙ ap (λ (ys : List ℕ). ys ++ filter f (get_or xs k 0 ∷ [])) h
    ∙ ap (λ (b : Bool). cond b (get_or xs k 0 ∷ []) []) (ap f (sym is) ∙ off)

-- all
pub passed_all : (f : ℕ → Bool) (xs : List ℕ) (k n : ℕ) → n ≡ length xs → n ≤ k → filter f (take k xs) ≡ [] → filter f (take n xs) ≡ []
passed_all f xs k n end l h =
    ap (filter f) (take_past xs n (omega (arith, end)) ∙ sym (take_past xs k (omega (arith, end, l)))) ∙ h

-- fewer that pass
still_passed : (f g : ℕ → Bool) (xs : List ℕ) → ((u : ℕ) → f u ≡ false → g u ≡ false) → filter f xs ≡ [] → filter g xs ≡ []
still_passed f g [] less h = refl
still_passed f g (x ∷ xs) less h = by_test (f x) refl (still_passed f g xs less) h
  where
    by_test : (b : Bool) → f x ≡ b → (filter f xs ≡ [] → filter g xs ≡ []) → cond b (x ∷ filter f xs) (filter f xs) ≡ [] → filter g (x ∷ xs) ≡ []
    by_test true e rest k = absurd cc
    by_test false e rest k = ap (λ (b : Bool). cond b (x ∷ filter g xs) (filter g xs)) (less x e) ∙ rest k

unmarked_off : (b left : Bool) → left ≡ false → cond b false left ≡ false
unmarked_off true left e = refl
unmarked_off false left e = e

pub marked_off : (b : Peaks) (marks : List Bool) (t : ℕ) → ((u : ℕ) → is_left marks u ≡ cond (nat_eq t u) false (left_of b u))
    → HasPassed b → filter (is_left marks) (take b.first (line_of b)) ≡ []
marked_off b marks t each h =
    still_passed (left_of b) (is_left marks) (take b.first (line_of b))
    (λ u e. each u ∙ unmarked_off (nat_eq t u) (left_of b u) e) h
