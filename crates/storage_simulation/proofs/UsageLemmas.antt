-- Sums over the numbers below a bound, and what a good counts.
use Rattle.std.proofs.Common.{◌≡◌, ℕ, ◌+◌, ◌-◌, ◌^◌, ◌≤◌, Bool, true, false, cond, nat_lt, refl, List, add-one, arith}
use Rattle.std.specs.Prelude.{Option, Some, None}
use Rattle.plan_core.specs.declared.plan.Plan.{Plan}
use Rattle.plan_core.specs.declared.plan.Pair.{Pair}
use Rattle.plan_core.specs.declared.plan.TaskKind.{TaskKind}
use Rattle.plan_core.specs.declared.plan.TaskKind.TheVariants.{Transfer, Run, Clean}
use Rattle.plan_core.specs.declared.plan.Target.TheVariants.{Delivery, Site}
use Rattle.plan_core.specs.Words.{count_pairs, kind, pair}
use Rattle.storage_simulation.specs.code.Goods.{IsWithinLimits}
use Rattle.storage_simulation.specs.Goods.{delivered_size, good_size, kind_size, lies_at, pair_size}
use Rattle.storage_simulation.specs.Usage.{cleaned, made, usage_of_good, weight}
use Rattle.values.specs.Numbers.{total}

pub total_more : (w : ℕ → ℕ) (n : ℕ) → total (n + 1) w ≡ total n w + w n
unfolding total
total_more w n = rw add-one refl

cond_small : (b : Bool) (x y n : ℕ) → x ≤ n → y ≤ n → cond b x y ≤ n
cond_small true x y n h k = h
cond_small false x y n h k = k

pub pair_small : (p : Plan) (o : Option Pair) → IsWithinLimits p → pair_size p o ≤ 2 ^ 40
pair_small p None limits = omega arith
pair_small p (Some q) limits = limits.sizes q.file.0

kind_small : (p : Plan) (o : Option TaskKind) → IsWithinLimits p → kind_size p o ≤ 2 ^ 40
kind_small p None limits = omega arith
kind_small p (Some (Transfer f from Delivery)) limits = limits.sizes f.0
kind_small p (Some (Transfer f from (Site s))) limits = omega arith
kind_small p (Some (Run s js)) limits = omega arith
kind_small p (Some (Clean q)) limits = omega arith

pub good_small : (p : Plan) (g : ℕ) → IsWithinLimits p → good_size p g ≤ 2 ^ 40
unfolding good_size delivered_size
good_small p g limits = cond_small (nat_lt g (count_pairs p)) (pair_size p (pair p g)) (kind_size p (kind p (g - count_pairs p))) (2 ^ 40) (pair_small p (pair p g) limits) (kind_small p (kind p (g - count_pairs p)) limits)

pub weight_small : (p : Plan) (size : ℕ → ℕ) (front : List ℕ) (g : ℕ) → IsWithinLimits p → ((x : ℕ) → size x ≤ 2 ^ 40) → weight p size front g ≤ 2 ^ 40
weight_small p size front g limits small =
    cond_small (cleaned p front g) 0 (cond (made p front g) (good_size p g) (size g)) (2 ^ 40) (omega arith)
    (cond_small (made p front g) (good_size p g) (size g) (2 ^ 40) (good_small p g limits) (small g))

pub part_small : (p : Plan) (size : ℕ → ℕ) (front : List ℕ) (s g : ℕ) → IsWithinLimits p → ((x : ℕ) → size x ≤ 2 ^ 40) → usage_of_good p size front s g ≤ 2 ^ 40
part_small p size front s g limits small = cond_small (lies_at p g s) (weight p size front g) 0 (2 ^ 40) (weight_small p size front g limits small) (omega arith)
