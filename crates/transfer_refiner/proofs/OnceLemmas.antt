-- Each pair of numbers stands once in a grid.
use Rattle.std.proofs.Common.{◌≡◌, ℕ, zero, suc, ◌-◌, ◌<◌, ◌≤◌, Bool, true, false, cond, [], ◌∷◌, length, map, refl, ap, ◌∙◌, arith, ◌⊎◌, inl, inr}
use Rattle.std.specs.Prelude.{Some, slice_get}
use Rattle.plan_core.specs.Numbers.{below}
use Rattle.transfer_refiner.specs.Tasks.{grid}
use Rattle.transfer_refiner.proofs.SliceLemmas.{place_in, place_map, below_place, grid_place}

last_place : (b : Bool) (n i x : ℕ) → slice_get (cond b (n ∷ []) []) i ≡ Some x → (i ≡ 0) × (x ≡ n)
last_place true n zero x h = (refl, cc)
last_place true n (suc i) x h = absurd cc
last_place false n i x h = absurd cc

pub below_once : (n : ℕ) (test : ℕ → Bool) (i j x : ℕ) → slice_get (below n test) i ≡ Some x → slice_get (below n test) j ≡ Some x → i ≡ j
unfolding below
below_once zero test i j x h k = absurd cc
below_once (suc n) test i j x h k = by (place_in (below n test) (cond (test n) (n ∷ []) []) i x h) (place_in (below n test) (cond (test n) (n ∷ []) []) j x k) (λ a b. below_once n test i j x a b)
  where
    low : (m : ℕ) → slice_get (below n test) m ≡ Some x → x < n
    low m e = (below_place n test m x e).0

    by : (slice_get (below n test) i ≡ Some x) ⊎ ((length (below n test) ≤ i) × (slice_get (cond (test n) (n ∷ []) []) (i - length (below n test)) ≡ Some x)) → (slice_get (below n test) j ≡ Some x) ⊎ ((length (below n test) ≤ j) × (slice_get (cond (test n) (n ∷ []) []) (j - length (below n test)) ≡ Some x))
        → (slice_get (below n test) i ≡ Some x → slice_get (below n test) j ≡ Some x → i ≡ j) → i ≡ j
    by (inl a) (inl b) rest = rest a b
    by (inl a) (inr b) rest = absurd (let l : x < n = low i a in let e = last_place (test n) n (j - length (below n test)) x b.1 in let f : x ≡ n = e.1 in omega arith)
    by (inr a) (inl b) rest = absurd (let l : x < n = low j b in let e = last_place (test n) n (i - length (below n test)) x a.1 in let f : x ≡ n = e.1 in omega arith)
    by (inr a) (inr b) rest =
        let e = last_place (test n) n (i - length (below n test)) x a.1 in
        let f = last_place (test n) n (j - length (below n test)) x b.1 in
        omega (arith, e.0, f.0, a.0, b.0)

pub grid_once : (m n : ℕ) (test : ℕ → ℕ → Bool) (i j : ℕ) (x : ℕ × ℕ) → slice_get (grid m n test) i ≡ Some x → slice_get (grid m n test) j ≡ Some x → i ≡ j
unfolding grid
grid_once zero n test i j x h k = absurd cc
grid_once (suc m) n test i j x h k = by (place_in (grid m n test) (map (λ b. (m, b)) (below n (test m))) i x h) (place_in (grid m n test) (map (λ b. (m, b)) (below n (test m))) j x k) (λ a b. grid_once m n test i j x a b)
  where
    low : (k : ℕ) → slice_get (grid m n test) k ≡ Some x → x.0 < m
    low k e = (grid_place m n test k x e).0

    high : (k : ℕ) → slice_get (map (λ b. (m, b)) (below n (test m))) k ≡ Some x → (m ≡ x.0) × (slice_get (below n (test m)) k ≡ Some x.1)
    high k e = let found = place_map (λ (b : ℕ). (m, b)) (below n (test m)) k x e in (ap (λ (z : ℕ × ℕ). z.0) found.2, found.1 ∙ ap (λ (z : ℕ × ℕ). Some z.1) found.2)

    by : (slice_get (grid m n test) i ≡ Some x) ⊎ ((length (grid m n test) ≤ i) × (slice_get (map (λ b. (m, b)) (below n (test m))) (i - length (grid m n test)) ≡ Some x)) → (slice_get (grid m n test) j ≡ Some x) ⊎ ((length (grid m n test) ≤ j) × (slice_get (map (λ b. (m, b)) (below n (test m))) (j - length (grid m n test)) ≡ Some x))
        → (slice_get (grid m n test) i ≡ Some x → slice_get (grid m n test) j ≡ Some x → i ≡ j) → i ≡ j
    by (inl a) (inl b) rest = rest a b
    by (inl a) (inr b) rest = absurd (let l : x.0 < m = low i a in let e = high (j - length (grid m n test)) b.1 in let f : m ≡ x.0 = e.0 in omega arith)
    by (inr a) (inl b) rest = absurd (let l : x.0 < m = low j b in let e = high (i - length (grid m n test)) a.1 in let f : m ≡ x.0 = e.0 in omega arith)
    by (inr a) (inr b) rest =
        let e = high (i - length (grid m n test)) a.1 in
        let f = high (j - length (grid m n test)) b.1 in
        let same : i - length (grid m n test) ≡ j - length (grid m n test) = below_once n (test m) (i - length (grid m n test)) (j - length (grid m n test)) x.1 e.1 f.1 in
        omega (arith, same, a.0, b.0)
