-- What the tasks of a plan need, one task more.
use Rattle.std.proofs.Common.{◌≡◌, ℕ, zero, suc, ◌+◌, ◌≤◌, ◌<◌, ◌^◌, ◌⊎◌, inl, inr, List, [], ◌∷◌, ◌++◌, length, get_or, Some, ap, subst, ◌∙◌, arith}
use Rattle.std.proofs.lemmas.Bool.{cases_lt}
use Rattle.std.proofs.Math.Seq.{get_or-append_seam}
use Rattle.std.proofs.lemmas.List.{get_or_append_left}
use Rattle.plan_core.specs.declared.plan.Plan.{Plan}
use Rattle.storage_simulation.specs.code.Change.{size_part}
use Rattle.storage_simulation.specs.code.Goods.{place}
use Rattle.storage_simulation.specs.Goods.{makes}
use Rattle.storage_simulation.specs.Usage.{sum_of}

pub need_more : (p : Plan) (vs : List ℕ) (v k : ℕ) → length vs ≡ k → ((t q : ℕ) → t < k → place p t ≡ Some q → get_or vs t 0 ≡ sum_of (size_part p q) (makes p t))
    → ((q : ℕ) → place p k ≡ Some q → v ≡ sum_of (size_part p q) (makes p k)) → (t q : ℕ) → t < k + 1 → place p t ≡ Some q → get_or (vs ++ v ∷ []) t 0 ≡ sum_of (size_part p q) (makes p t)
need_more p vs v k long so_far is t q l at = by (cases_lt t k)
  where
    by : (t < k) ⊎ (k ≤ t) → get_or (vs ++ v ∷ []) t 0 ≡ sum_of (size_part p q) (makes p t)
    by (inl m) = get_or_append_left vs (v ∷ []) 0 t (omega (arith, long, m)) ∙ so_far t q m at
    by (inr m) =
        let last : k ≡ t = omega (arith, l, m) in
        ap (λ (i : ℕ). get_or (vs ++ v ∷ []) i 0) (let end : t ≡ length vs = omega (arith, long, l, m) in end) ∙ get_or-append_seam vs v [] 0
        ∙ subst (λ (i : ℕ). place p i ≡ Some q → v ≡ sum_of (size_part p q) (makes p i)) last (is q) at

pub small_more : (vs : List ℕ) (v : ℕ) → ((t : ℕ) → get_or vs t 0 ≤ 2 ^ 62) → v ≤ 2 ^ 62 → (t : ℕ) → get_or (vs ++ v ∷ []) t 0 ≤ 2 ^ 62
small_more [] v so_far small zero = small
small_more [] v so_far small (suc t) = so_far t
small_more (x ∷ vs) v so_far small zero = so_far zero
small_more (x ∷ vs) v so_far small (suc t) = small_more vs v (λ i. so_far (suc i)) small t
