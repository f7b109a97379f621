-- The standing at the start.
use Rattle.std.proofs.Common.{◌≡◌, ℕ, ◌≤◌, Bool, true, false, cond, [], ap, ◌∙◌, arith}
use Rattle.std.proofs.Math.Path.{fun_ext}
use Rattle.plan_core.specs.declared.plan.Plan.{Plan}
use Rattle.storage_simulation.specs.declared.standing.Held.{Held}
use Rattle.storage_simulation.specs.declared.standing.Held.TheVariants.{Nothing}
use Rattle.storage_simulation.specs.declared.standing.Phase.{Phase}
use Rattle.storage_simulation.specs.declared.standing.Phase.TheVariants.{Waits}
use Rattle.storage_simulation.specs.declared.standing.Standing.{Standing}
use Rattle.storage_simulation.specs.Goods.{goods, lies_at}
use Rattle.storage_simulation.specs.Ordering.{Progress, at_start, nothing_held, size}
use Rattle.storage_simulation.specs.code.Ordering.{progress}
use Rattle.storage_simulation.specs.code.Standings.{held_of, phase_of}
use Rattle.storage_simulation.specs.Usage.{usage_of_good, IsWithin}
use Rattle.storage_simulation.proofs.SumsLemmas.{total_bound}

pub start_is : (st : Standing) → ((g : ℕ) → held_of st g ≡ Nothing) → ((t : ℕ) → phase_of st t ≡ Waits) → progress st ≡ at_start
start_is st held phase = ap (λ (h : ℕ → Held). whole (phase_of st) h) (fun_ext held) ∙ ap (λ (f : ℕ → Phase). whole f nothing_held) (fun_ext phase)
  where
    whole : (ℕ → Phase) → (ℕ → Held) → Progress
    whole f h = record { phase = f; held = h }

pub start_within : (p : Plan) → IsWithin p (size at_start) []
start_within p s l = let none = total_bound (usage_of_good p (size at_start) [] s) 0 (goods p) (λ g. zero_both (lies_at p g s)) in omega (arith, none)
  where
    zero_both : (b : Bool) → cond b 0 0 ≤ 0
    zero_both true = omega arith
    zero_both false = omega arith
