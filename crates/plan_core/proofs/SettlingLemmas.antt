-- What is worked out along a grounded relation settles after as many steps as there are numbers.
use Rattle.std.proofs.Common.{◌≡◌, ℕ, zero, suc, ◌+◌, ◌<◌, ◌≤◌, Bool, true, false, List, [], ◌∷◌, sym, ◌∙◌, arith}
use Rattle.digraph.specs.Cycle.{Returns}
use Rattle.plan_core.proofs.GroundedLemmas.{fresh, fresh_less, ComesTo, is_new, comes_on, fresh_small}

-- `w k` is worked out in k steps; each step at t looks only at those from which an edge leads to t
pub record IsWorkedOut {V : Type 0} (n : ℕ) (e : ℕ → ℕ → Bool) (step : (ℕ → ℕ → V) → ℕ → ℕ → V) (w : ℕ → ℕ → ℕ → V) : Type 0 where
  pub low : (s t : ℕ) → e s t ≡ true → s < n
  pub never : (t : ℕ) → Returns e t → ⊥
  pub next : (k t f : ℕ) → w (suc k) t f ≡ step (w k) t f
  pub local : (u v : ℕ → ℕ → V) (t : ℕ) → ((s : ℕ) → e s t ≡ true → (g : ℕ) → u s g ≡ v s g) → (f : ℕ) → step u t f ≡ step v t f

settles : {V : Type 0} (n : ℕ) (e : ℕ → ℕ → Bool) (step : (ℕ → ℕ → V) → ℕ → ℕ → V) (w : ℕ → ℕ → ℕ → V) → IsWorkedOut n e step w → (k m : ℕ) (vs : List ℕ) (t : ℕ) → t < n → fresh n vs ≤ k → k ≤ m → ComesTo e vs t → (f : ℕ) → w m t f ≡ w k t f
settles n e step w is zero m vs t l small h comes f = absurd (let less : fresh n (t ∷ vs) + 1 ≡ fresh n vs = fresh_less n t vs l (is_new e vs t (is.never t) comes) in omega (arith, less, small))
settles n e step w is (suc k) zero vs t l small h comes f = absurd (omega arith)
settles n e step w is (suc k) (suc m) vs t l small h comes f =
    let less : fresh n (t ∷ vs) + 1 ≡ fresh n vs = fresh_less n t vs l (is_new e vs t (is.never t) comes) in
    is.next m t f
    ∙ is.local (w m) (w k) t (λ s into g. settles n e step w is k m (t ∷ vs) s (is.low s t into) (omega (arith, less, small)) (omega arith) (comes_on e vs s t into comes) g) f
    ∙ sym (is.next k t f)

pub settled : {V : Type 0} (n : ℕ) (e : ℕ → ℕ → Bool) (step : (ℕ → ℕ → V) → ℕ → ℕ → V) (w : ℕ → ℕ → ℕ → V) → IsWorkedOut n e step w → (t f : ℕ) → t < n → w n t f ≡ step (w n) t f
settled n e step w is t f l = sym (settles n e step w is n (suc n) [] t l (fresh_small n []) (omega arith) (λ v h. absurd (let x : false ≡ true = h in cc)) f) ∙ is.next n t f
