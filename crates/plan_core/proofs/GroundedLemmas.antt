-- A finite relation without a returning way is grounded: one goes back along it for ever from nowhere.
use Rattle.std.proofs.Common.{◌≡◌, ◌≢◌, ℕ, zero, suc, ◌+◌, ◌<◌, ◌≤◌, Bool, true, false, cond, ◌||◌, List, [], ◌∷◌, refl, sym, ap, ◌∙◌, nat_eq, arith}
use Rattle.plan_core.specs.Numbers.{has}
use Rattle.plan_core.specs.code.Grounded.{Grounded, ground}
use Rattle.digraph.specs.Distances.{Walk}
use Rattle.digraph.specs.Cycle.{Returns}
use Rattle.plan_core.proofs.TestLemmas.{same_number, other_number, not_itself}

-- how many numbers below n are new to a list
pub fresh : ℕ → List ℕ → ℕ
fresh zero vs = 0
fresh (suc n) vs = cond {A = ℕ} (has vs n) 0 1 + fresh n vs

fresh_same : (n a : ℕ) (vs : List ℕ) → n ≤ a → fresh n (a ∷ vs) ≡ fresh n vs
unfolding fresh
fresh_same zero a vs h = refl
fresh_same (suc n) a vs h =
    let step : cond {A = ℕ} (has (a ∷ vs) n) 0 1 ≡ cond {A = ℕ} (has vs n) 0 1 = ap (λ (b : Bool). cond {A = ℕ} (b || has vs n) 0 1) (not_itself a n (λ e. omega arith)) in
    let rest : fresh n (a ∷ vs) ≡ fresh n vs = fresh_same n a vs (omega arith) in
    omega (arith, step, rest)

pub fresh_less : (n a : ℕ) (vs : List ℕ) → a < n → has vs a ≡ false → fresh n (a ∷ vs) + 1 ≡ fresh n vs
unfolding fresh
fresh_less zero a vs h new = absurd (omega arith)
fresh_less (suc n) a vs h new = by (nat_eq a n) refl (λ l. fresh_less n a vs l new)
  where
    by : (t : Bool) → nat_eq a n ≡ t → (a < n → fresh n (a ∷ vs) + 1 ≡ fresh n vs) → (cond {A = ℕ} (has (a ∷ vs) n) 0 1 + fresh n (a ∷ vs)) + 1 ≡ cond {A = ℕ} (has vs n) 0 1 + fresh n vs
    by true e rest =
        let now : cond {A = ℕ} (has (a ∷ vs) n) 0 1 ≡ 0 = ap (λ (b : Bool). cond {A = ℕ} (b || has vs n) 0 1) e in
        let was : cond {A = ℕ} (has vs n) 0 1 ≡ 1 = ap (λ (b : Bool). cond {A = ℕ} b 0 1) (ap (has vs) (sym (same_number a n e)) ∙ new) in
        let same : fresh n (a ∷ vs) ≡ fresh n vs = fresh_same n a vs (let s : a ≡ n = same_number a n e in omega arith) in
        omega (arith, now, was, same)
    by false e rest =
        let now : cond {A = ℕ} (has (a ∷ vs) n) 0 1 ≡ cond {A = ℕ} (has vs n) 0 1 = ap (λ (b : Bool). cond {A = ℕ} (b || has vs n) 0 1) e in
        let differ : a ≢ n = other_number a n e in
        let less : fresh n (a ∷ vs) + 1 ≡ fresh n vs = rest (omega arith) in
        omega (arith, now, less)

-- from t one comes to each number of the list, along one edge or more
abbrev pub ComesTo : (ℕ → ℕ → Bool) → List ℕ → ℕ → Type 0
ComesTo e vs t = (v : ℕ) → has vs v ≡ true → (n : ℕ) × Walk e (suc n) t v

pub is_new : (e : ℕ → ℕ → Bool) (vs : List ℕ) (t : ℕ) → (Returns e t → ⊥) → ComesTo e vs t → has vs t ≡ false
is_new e vs t never comes = by (has vs t) refl
  where
    by : (b : Bool) → has vs t ≡ b → has vs t ≡ false
    by true h = absurd (never (comes t h))
    by false h = h

pub comes_on : (e : ℕ → ℕ → Bool) (vs : List ℕ) (s t : ℕ) → e s t ≡ true → ComesTo e vs t → ComesTo e (t ∷ vs) s
comes_on e vs s t into comes v h = by (nat_eq t v) refl h
  where
    by : (b : Bool) → nat_eq t v ≡ b → (b || has vs v) ≡ true → (n : ℕ) × Walk e (suc n) s v
    by true same k = (0, (t, into, same_number t v same))
    by false same k = let way = comes v k in (suc way.0, (t, into, way.1))

grounded_within : (e : ℕ → ℕ → Bool) (n : ℕ) → ((s t : ℕ) → e s t ≡ true → s < n) → ((t : ℕ) → Returns e t → ⊥) → (k : ℕ) (vs : List ℕ) (t : ℕ) → t < n → fresh n vs ≤ k → ComesTo e vs t → Grounded e t
grounded_within e n low never zero vs t l small comes = absurd (let less : fresh n (t ∷ vs) + 1 ≡ fresh n vs = fresh_less n t vs l (is_new e vs t (never t) comes) in omega (arith, less, small))
grounded_within e n low never (suc k) vs t l small comes =
    let less : fresh n (t ∷ vs) + 1 ≡ fresh n vs = fresh_less n t vs l (is_new e vs t (never t) comes) in
    ground t (λ s into. grounded_within e n low never k (t ∷ vs) s (low s t into) (omega (arith, less, small)) (comes_on e vs s t into comes))

pub all_grounded : (e : ℕ → ℕ → Bool) (n : ℕ) → ((s t : ℕ) → e s t ≡ true → s < n) → ((t : ℕ) → Returns e t → ⊥) → (t : ℕ) → Grounded e t
all_grounded e n low never t = ground t (λ s into. grounded_within e n low never (fresh n []) [] s (low s t into) (omega arith) (λ v h. absurd (let f : false ≡ true = h in cc)))

-- the last edge of a way first: the way turned by one place
turned : (e : ℕ → ℕ → Bool) (n a b : ℕ) → Walk e (suc n) a b → (s : ℕ) × (e s b ≡ true) × Walk e n a s
turned e zero a b way = (a, ap (λ x. e a x) (sym way.2) ∙ way.1, refl)
turned e (suc n) a b way = let found = turned e n way.0 b way.2 in (found.0, found.1, (way.0, way.1, found.2))

around : (e : ℕ → ℕ → Bool) (n a b : ℕ) → Walk e n b a → e a b ≡ true → Returns e a
around e n a b way h = (n, (b, h, way))

-- one returns to nowhere that is grounded
pub never_returns : (e : ℕ → ℕ → Bool) (t : ℕ) → Grounded e t → Returns e t → ⊥
never_returns e t (ground u back) r = let last = turned e r.0 u u r.1 in never_returns e last.0 (back last.0 last.1) (around e r.0 last.0 u last.2 last.1)

pub fresh_small : (n : ℕ) (vs : List ℕ) → fresh n vs ≤ n
unfolding fresh
fresh_small zero vs = omega arith
fresh_small (suc n) vs = by (has vs n) (fresh_small n vs)
  where
    by : (t : Bool) → fresh n vs ≤ n → cond {A = ℕ} t 0 1 + fresh n vs ≤ suc n
    by true h = omega (arith, h)
    by false h = omega (arith, h)
