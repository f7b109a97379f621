-- A grid rises, and names that are distinct have one number.
use Rattle.std.proofs.Common.{◌≡◌, ℕ, zero, suc, ◌-◌, ◌<◌, ◌≤◌, Bool, true, false, cond, List, [], ◌∷◌, length, map, refl, sym, ap, ◌∙◌, arith, ◌⊎◌, inl, inr}
use Rattle.std.specs.Prelude.{Some, slice_get}
use Rattle.std.proofs.lemmas.Option.{slice_get_within}
use Rattle.plan_core.specs.Numbers.{below}
use Rattle.transfer_refiner.specs.Tasks.{grid}
use Rattle.transfer_refiner.proofs.SliceLemmas.{place_in, place_map, below_place, grid_place}

abbrev pub IsBefore : ℕ → ℕ → ℕ → ℕ → Type 0
IsBefore s f a g = (s < a) ⊎ ((s ≡ a) × (f < g))

slice_get_in : {A : Type 0} (xs : List A) (i : ℕ) (x : A) → slice_get xs i ≡ Some x → i < length xs
slice_get_in xs i x e = slice_get_within xs i x e

last_at : (b : Bool) (n i x : ℕ) → slice_get (cond b (n ∷ []) []) i ≡ Some x → (i ≡ 0) × (x ≡ n)
last_at true n zero x h = (refl, cc)
last_at true n (suc i) x h = absurd cc
last_at false n i x h = absurd cc

pub below_rises : (n : ℕ) (test : ℕ → Bool) (i j x y : ℕ) → i < j → slice_get (below n test) i ≡ Some x → slice_get (below n test) j ≡ Some y → x < y
unfolding below
below_rises zero test i j x y l h k = absurd cc
below_rises (suc n) test i j x y l h k = by (place_in (below n test) (cond (test n) (n ∷ []) []) i x h) (place_in (below n test) (cond (test n) (n ∷ []) []) j y k) (λ a b. below_rises n test i j x y l a b)
  where
    low : slice_get (below n test) i ≡ Some x → x < n
    low e = (below_place n test i x e).0

    by : (slice_get (below n test) i ≡ Some x) ⊎ ((length (below n test) ≤ i) × (slice_get (cond (test n) (n ∷ []) []) (i - length (below n test)) ≡ Some x)) → (slice_get (below n test) j ≡ Some y) ⊎ ((length (below n test) ≤ j) × (slice_get (cond (test n) (n ∷ []) []) (j - length (below n test)) ≡ Some y))
        → (slice_get (below n test) i ≡ Some x → slice_get (below n test) j ≡ Some y → x < y) → x < y
    by (inl a) (inl b) rest = rest a b
    by (inl a) (inr b) rest = let s : x < n = low a in let f = last_at (test n) n (j - length (below n test)) y b.1 in let e : y ≡ n = f.1 in omega arith
    by (inr a) (inl b) rest = absurd (let m : j < length (below n test) = slice_get_in (below n test) j y b in omega (arith, a.0))
    by (inr a) (inr b) rest = absurd (let f = last_at (test n) n (i - length (below n test)) x a.1 in let g = last_at (test n) n (j - length (below n test)) y b.1 in omega (arith, f.0, g.0, a.0, b.0))

pub grid_rises : (m n : ℕ) (test : ℕ → ℕ → Bool) (i j : ℕ) (x y : ℕ × ℕ) → i < j → slice_get (grid m n test) i ≡ Some x → slice_get (grid m n test) j ≡ Some y → IsBefore x.0 x.1 y.0 y.1
unfolding grid
grid_rises zero n test i j x y l h k = absurd cc
grid_rises (suc m) n test i j x y l h k = by (place_in (grid m n test) (map (λ b. (m, b)) (below n (test m))) i x h) (place_in (grid m n test) (map (λ b. (m, b)) (below n (test m))) j y k) (λ a b. grid_rises m n test i j x y l a b)
  where
    low : (k : ℕ) (z : ℕ × ℕ) → slice_get (grid m n test) k ≡ Some z → z.0 < m
    low k z e = (grid_place m n test k z e).0

    high : (k : ℕ) (z : ℕ × ℕ) → slice_get (map (λ b. (m, b)) (below n (test m))) k ≡ Some z → (m ≡ z.0) × (slice_get (below n (test m)) k ≡ Some z.1)
    high k z e = let found = place_map (λ (b : ℕ). (m, b)) (below n (test m)) k z e in (ap (λ (z : ℕ × ℕ). z.0) found.2, found.1 ∙ ap (λ (z : ℕ × ℕ). Some z.1) found.2)

    by : (slice_get (grid m n test) i ≡ Some x) ⊎ ((length (grid m n test) ≤ i) × (slice_get (map (λ b. (m, b)) (below n (test m))) (i - length (grid m n test)) ≡ Some x)) → (slice_get (grid m n test) j ≡ Some y) ⊎ ((length (grid m n test) ≤ j) × (slice_get (map (λ b. (m, b)) (below n (test m))) (j - length (grid m n test)) ≡ Some y))
        → (slice_get (grid m n test) i ≡ Some x → slice_get (grid m n test) j ≡ Some y → IsBefore x.0 x.1 y.0 y.1) → IsBefore x.0 x.1 y.0 y.1
    by (inl a) (inl b) rest = rest a b
    by (inl a) (inr b) rest = inl (let s : x.0 < m = low i x a in let f = high (j - length (grid m n test)) y b.1 in let e : m ≡ y.0 = f.0 in omega arith)
    by (inr a) (inl b) rest = absurd (let q : j < length (grid m n test) = slice_get_in (grid m n test) j y b in omega (arith, a.0))
    by (inr a) (inr b) rest =
        let f = high (i - length (grid m n test)) x a.1 in
        let g = high (j - length (grid m n test)) y b.1 in
        inr (sym f.0 ∙ g.0, below_rises n (test m) (i - length (grid m n test)) (j - length (grid m n test)) x.1 y.1 (omega (arith, a.0, b.0)) f.1 g.1)
