-- What stands at a place of a list.
use Rattle.std.proofs.Common.{◌≡◌, ◌≢◌, ℕ, zero, suc, ◌+◌, ◌-◌, ◌<◌, ◌≤◌, Bool, true, false, ◌||◌, List, [], ◌∷◌, ◌++◌, length, map, refl, sym, ap, ◌∙◌, nat_eq, arith, ◌⊎◌, inl, inr}
use Rattle.std.specs.Prelude.{Some, None, option_map, slice_get}
use Rattle.std.specs.List.{list_any}
use Rattle.plan_core.specs.Numbers.{below}
use Rattle.transfer_refiner.specs.Tasks.{grid}
use Rattle.plan_core.proofs.TestLemmas.{same_number, other_number, or_left, or_right}
use Rattle.plan_core.proofs.NumbersLemmas.{below_has, has_below}

-- a place in two lists put together
pub place_in : {A : Type 0} (xs ys : List A) (i : ℕ) (x : A) → slice_get (xs ++ ys) i ≡ Some x → (slice_get xs i ≡ Some x) ⊎ ((length xs ≤ i) × (slice_get ys (i - length xs) ≡ Some x))
place_in [] ys i x h = inr (omega arith, let e : i - 0 ≡ i = omega arith in ap (slice_get ys) e ∙ h)
place_in (y ∷ xs) ys zero x h = inl h
place_in (y ∷ xs) ys (suc i) x h = by (place_in xs ys i x h)
  where
    by : (slice_get xs i ≡ Some x) ⊎ ((length xs ≤ i) × (slice_get ys (i - length xs) ≡ Some x)) → (slice_get (y ∷ xs) (suc i) ≡ Some x) ⊎ ((length (y ∷ xs) ≤ suc i) × (slice_get ys (suc i - length (y ∷ xs)) ≡ Some x))
    by (inl k) = inl k
    by (inr k) = let l : length xs ≤ i = k.0 in let e : suc i - length (y ∷ xs) ≡ i - length xs = omega arith in inr (omega arith, ap (slice_get ys) e ∙ k.1)

pub place_left : {A : Type 0} (xs ys : List A) (i : ℕ) (x : A) → slice_get xs i ≡ Some x → slice_get (xs ++ ys) i ≡ Some x
place_left [] ys i x h = absurd cc
place_left (y ∷ xs) ys zero x h = h
place_left (y ∷ xs) ys (suc i) x h = place_left xs ys i x h

pub place_right : {A : Type 0} (xs ys : List A) (i : ℕ) (x : A) → slice_get ys i ≡ Some x → slice_get (xs ++ ys) (length xs + i) ≡ Some x
place_right [] ys i x h = let e : 0 + i ≡ i = omega arith in ap (slice_get ys) e ∙ h
place_right (y ∷ xs) ys i x h = let e : length (y ∷ xs) + i ≡ suc (length xs + i) = omega arith in ap (slice_get ((y ∷ xs) ++ ys)) e ∙ place_right xs ys i x h

pub place_map : {A B : Type 0} (g : A → B) (xs : List A) (i : ℕ) (y : B) → slice_get (map g xs) i ≡ Some y → (x : A) × (slice_get xs i ≡ Some x) × (g x ≡ y)
place_map g [] i y h = absurd cc
place_map g (x ∷ xs) zero y h = (x, refl, cc)
place_map g (x ∷ xs) (suc i) y h = place_map g xs i y h

pub map_place : {A B : Type 0} (g : A → B) (xs : List A) (i : ℕ) (x : A) → slice_get xs i ≡ Some x → slice_get (map g xs) i ≡ Some (g x)
map_place g [] i x h = absurd cc
map_place g (y ∷ xs) zero x h = ap (option_map g) h
map_place g (y ∷ xs) (suc i) x h = map_place g xs i x h

-- an element that passes has a place, and what has a place and passes is one
pub place_of_any : {A : Type 0} (test : A → Bool) (xs : List A) → list_any test xs ≡ true → (i : ℕ) × (x : A) × (slice_get xs i ≡ Some x) × (test x ≡ true)
place_of_any test [] h = absurd cc
place_of_any test (x ∷ xs) h = by (test x) refl h (λ k. place_of_any test xs k)
  where
    by : (b : Bool) → test x ≡ b → (b || list_any test xs) ≡ true → (list_any test xs ≡ true → (i : ℕ) × (y : _) × (slice_get xs i ≡ Some y) × (test y ≡ true)) → (i : ℕ) × (y : _) × (slice_get (x ∷ xs) i ≡ Some y) × (test y ≡ true)
    by true e k rest = (0, x, refl, e)
    by false e k rest = let found = rest k in (suc found.0, found.1, found.2, found.3)

pub any_at_place : {A : Type 0} (test : A → Bool) (xs : List A) (i : ℕ) (x : A) → slice_get xs i ≡ Some x → test x ≡ true → list_any test xs ≡ true
any_at_place test [] i x h e = absurd cc
any_at_place test (y ∷ xs) zero x h e = or_left (test y) (list_any test xs) (let s : y ≡ x = cc in ap test s ∙ e)
any_at_place test (y ∷ xs) (suc i) x h e = or_right (test y) (list_any test xs) (any_at_place test xs i x h e)

-- what stands among the numbers below n that pass, and where such a number stands
pub below_place : (n : ℕ) (test : ℕ → Bool) (i x : ℕ) → slice_get (below n test) i ≡ Some x → (x < n) × (test x ≡ true)
below_place n test i x h = below_has n test x (any_at_place (λ y. nat_eq y x) (below n test) i x h (let e : nat_eq x x ≡ true = grind arith in e))

pub place_below : (n : ℕ) (test : ℕ → Bool) (x : ℕ) → x < n → test x ≡ true → (i : ℕ) × (slice_get (below n test) i ≡ Some x)
place_below n test x l h =
    let found = place_of_any (λ y. nat_eq y x) (below n test) (has_below n test x l h) in
    (found.0, found.2 ∙ ap Some (same_number found.1 x found.3))

pub grid_place : (m n : ℕ) (test : ℕ → ℕ → Bool) (i : ℕ) (x : ℕ × ℕ) → slice_get (grid m n test) i ≡ Some x → (x.0 < m) × (x.1 < n) × (test x.0 x.1 ≡ true)
unfolding grid
grid_place zero n test i x h = absurd cc
grid_place (suc m) n test i x h = by (place_in (grid m n test) (map (λ b. (m, b)) (below n (test m))) i x h) (λ k. grid_place m n test i x k)
  where
    by : (slice_get (grid m n test) i ≡ Some x) ⊎ ((length (grid m n test) ≤ i) × (slice_get (map (λ b. (m, b)) (below n (test m))) (i - length (grid m n test)) ≡ Some x)) → (slice_get (grid m n test) i ≡ Some x → (x.0 < m) × (x.1 < n) × (test x.0 x.1 ≡ true)) → (x.0 < suc m) × (x.1 < n) × (test x.0 x.1 ≡ true)
    by (inl k) rest = let found = rest k in ((let l : x.0 < m = found.0 in omega arith), found.1, found.2)
    by (inr k) rest =
        let found = place_map (λ (b : ℕ). (m, b)) (below n (test m)) (i - length (grid m n test)) x k.1 in
        let is = below_place n (test m) (i - length (grid m n test)) found.0 found.1 in
        let one : m ≡ x.0 = ap (λ (z : ℕ × ℕ). z.0) found.2 in
        let two : found.0 ≡ x.1 = ap (λ (z : ℕ × ℕ). z.1) found.2 in
        (omega arith, (let l : found.0 < n = is.0 in omega arith), ap (λ (z : ℕ). test z x.1) (sym one) ∙ ap (test m) (sym two) ∙ is.1)

pub place_grid : (m n : ℕ) (test : ℕ → ℕ → Bool) (a b : ℕ) → a < m → b < n → test a b ≡ true → (i : ℕ) × (slice_get (grid m n test) i ≡ Some (a, b))
unfolding grid
place_grid zero n test a b l k h = absurd (omega arith)
place_grid (suc m) n test a b l k h = by (nat_eq m a) refl (λ less. place_grid m n test a b less k h)
  where
    by : (t : Bool) → nat_eq m a ≡ t → (a < m → (i : ℕ) × (slice_get (grid m n test) i ≡ Some (a, b))) → (i : ℕ) × (slice_get (grid m n test ++ map (λ c. (m, c)) (below n (test m))) i ≡ Some (a, b))
    by true e rest =
        let same : m ≡ a = same_number m a e in
        let found = place_below n (test m) b k (ap (λ (z : ℕ). test z b) same ∙ h) in
        (length (grid m n test) + found.0, place_right (grid m n test) (map (λ c. (m, c)) (below n (test m))) found.0 (a, b) (map_place (λ (c : ℕ). (m, c)) (below n (test m)) found.0 b found.1 ∙ ap (λ (z : ℕ). Some (z, b)) same))
    by false e rest =
        let found = rest (let d : m ≢ a = other_number m a e in omega arith) in
        (found.0, place_left (grid m n test) (map (λ c. (m, c)) (below n (test m))) found.0 (a, b) found.1)

pub slice_get_there : {A : Type 0} (xs : List A) (i : ℕ) → i < length xs → slice_get xs i ≡ None → ⊥
slice_get_there [] i l h = omega arith
slice_get_there (x ∷ xs) zero l h = absurd cc
slice_get_there (x ∷ xs) (suc i) l h = slice_get_there xs i (omega arith) h
