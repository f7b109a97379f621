-- Sizes that are held, and places.
use Rattle.std.proofs.Common.{ℕ, zero, suc, ◌+◌, ◌^◌, ◌≤◌, Bool, true, false, cond, List, [], ◌∷◌, ◌++◌, arith}
use Rattle.std.specs.Prelude.{is_some}
use Rattle.plan_core.specs.declared.plan.Plan.{Plan}
use Rattle.plan_core.specs.Words.{output_bound}
use Rattle.storage_simulation.specs.declared.standing.Held.{Held}
use Rattle.storage_simulation.specs.declared.standing.Held.TheVariants.{Nothing}
use Rattle.storage_simulation.specs.code.Goods.{IsWithinLimits}
use Rattle.storage_simulation.specs.Goods.{count_sites, places}
use Rattle.storage_simulation.specs.code.Standings.{at_in}
use Rattle.storage_simulation.specs.Standings.{held_size}

pub both_small : (xs ys : List Held) → ((g : ℕ) → held_size (at_in Nothing xs g) ≤ 2 ^ 40) → ((g : ℕ) → held_size (at_in Nothing ys g) ≤ 2 ^ 40) → (g : ℕ) → held_size (at_in Nothing (xs ++ ys) g) ≤ 2 ^ 40
both_small [] ys h k g = k g
both_small (x ∷ xs) ys h k zero = h 0
both_small (x ∷ xs) ys h k (suc g) = both_small xs ys (λ n. h (suc n)) k g

pub few_places : (p : Plan) → IsWithinLimits p → places p ≤ 65
unfolding places
few_places p limits = by (is_some (output_bound p))
  where
    by : (b : Bool) → count_sites p + cond b 1 0 ≤ 65
    by true = let a = limits.sites in omega (arith, a)
    by false = let a = limits.sites in omega (arith, a)
