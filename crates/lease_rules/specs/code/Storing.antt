-- What the writing of outputs answers, in the host's words alone.
use Rattle.std.specs.Prelude.{◌≡◌, ℕ, ◌≤◌, ◌<◌, ◌⊎◌, true, List, [], ◌∷◌, length}
use Rattle.plan_core.specs.declared.plan.Plan.{Plan}
use Rattle.plan_core.specs.Numbers.{has}
use Rattle.plan_core.specs.Words.{declared, kind, outputs, writes}
use Rattle.plan_core.specs.Names.{pair_file}
use Rattle.storage_simulation.specs.Goods.{or_zero}
use Rattle.lease_rules.specs.Legal.{has_job}

-- the declared size of a pair's file
abbrev pub pair_limit : Plan → ℕ → ℕ
pair_limit p q = or_zero (declared p (pair_file p q))

-- no output is longer than the declared size of its pair's file
abbrev pub AreWithin : Plan → List ℕ → List (List ℕ) → Type 0
AreWithin p [] bs = Unit {0}
AreWithin p (q ∷ qs) [] = Unit {0}
AreWithin p (q ∷ qs) (b ∷ bs) = (length b ≤ pair_limit p q) × AreWithin p qs bs

-- the first output that is longer is that of pair x, of length n
abbrev pub IsFirstPast : Plan → List ℕ → List (List ℕ) → ℕ → ℕ → Type 0
IsFirstPast p [] bs x n = ⊥
IsFirstPast p (q ∷ qs) [] x n = ⊥
IsFirstPast p (q ∷ qs) (b ∷ bs) x n = ((pair_limit p q < length b) × (q ≡ x) × (length b ≡ n))
    ⊎ ((length b ≤ pair_limit p q) × IsFirstPast p qs bs x n)

-- a job of the Run makes the file of the first output that is longer than declared, which has this length
pub record IsOverlong (p : Plan) (t : ℕ) (outs : List (List ℕ)) (j f n : ℕ) : Type 0 where
  pub pair : ℕ
  pub first : IsFirstPast p (writes p t) outs pair n
  pub file : pair_file p pair ≡ f
  pub job : has_job (kind p t) j ≡ true
  pub made : has (outputs p.jobs j) f ≡ true
