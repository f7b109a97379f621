-- Sums of what is stored, and of what is reserved.
use Rattle.std.proofs.Common.{◌≡◌, ℕ, ◌+◌, ◌^◌, ◌≤◌, cond, arith}
use Rattle.place_peaks.proofs.Offered.{total_more}
use Rattle.lease_rules.specs.State.{reserved_size, stored_size}
use Rattle.plan_core.specs.declared.plan.Plan.{Plan}
use Rattle.storage_simulation.specs.Goods.{lies_at}
use Rattle.storage_simulation.specs.code.Standings.{IsStanding, held_of}
use Rattle.storage_simulation.specs.Standings.{held_size}
use Rattle.values.specs.Numbers.{total}
use Rattle.storage_simulation.specs.declared.standing.Held.{Held}
use Rattle.storage_simulation.specs.declared.standing.Held.TheVariants.{Nothing, Reserved, Stored}
use Rattle.storage_simulation.specs.declared.standing.Standing.{Standing}

stored_at_most : (h : Held) → stored_size h ≤ held_size h
stored_at_most Nothing = omega arith
stored_at_most (Stored n) = omega arith
stored_at_most (Reserved n) = omega arith

reserved_at_most : (h : Held) → reserved_size h ≤ held_size h
reserved_at_most Nothing = omega arith
reserved_at_most (Stored n) = omega arith
reserved_at_most (Reserved n) = omega arith

pub stored_small : (p : Plan) (st : Standing) (g : ℕ) → IsStanding p st → stored_size (held_of st g) ≤ 2 ^ 40
stored_small p st g standing = let a = stored_at_most (held_of st g) in let b = standing.small g in omega (arith, a, b)

pub reserved_small : (p : Plan) (st : Standing) (g : ℕ) → IsStanding p st → reserved_size (held_of st g) ≤ 2 ^ 40
reserved_small p st g standing = let a = reserved_at_most (held_of st g) in let b = standing.small g in omega (arith, a, b)

pub sum_more : (p : Plan) (size : Held → ℕ) (held : ℕ → Held) (s n : ℕ) → total (n + 1) (λ g. cond (lies_at p g s) (size (held g)) 0) ≡ total n (λ g. cond (lies_at p g s) (size (held g)) 0) + cond (lies_at p n s) (size (held n)) 0
sum_more p size held s n = total_more (λ g. cond (lies_at p g s) (size (held g)) 0) n
