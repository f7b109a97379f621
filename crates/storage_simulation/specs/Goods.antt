-- Goods and places of a plan, by number.
use Rattle.std.specs.Prelude.{ℕ, ◌+◌, ◌-◌, ◌==◌, ◌&&◌, Bool, true, false, cond, List, [], ◌∷◌, length, nat_lt, Option, Some, None, is_some}
use Rattle.plan_core.specs.declared.plan.Plan.{Plan}
use Rattle.plan_core.specs.declared.plan.Pair.{Pair}
use Rattle.plan_core.specs.declared.plan.TaskKind.{TaskKind}
use Rattle.plan_core.specs.declared.plan.TaskKind.TheVariants.{Transfer}
use Rattle.plan_core.specs.declared.plan.Target.TheVariants.{Delivery}
use Rattle.plan_core.specs.Words.{bound, count_pairs, count_tasks, declared, is_at, kind, output_bound, pair, writes}

abbrev pub or_zero : Option ℕ → ℕ
or_zero None = 0
or_zero (Some n) = n

-- a task is a delivery; the declared size of the file that it delivers
abbrev pub is_delivery_kind : Option TaskKind → Bool
is_delivery_kind (Some (Transfer f from Delivery)) = true
is_delivery_kind _ = false

unfoldable pub is_delivery : Plan → ℕ → Bool
is_delivery p t = is_delivery_kind (kind p t)

abbrev pub kind_size : Plan → Option TaskKind → ℕ
kind_size p (Some (Transfer f from Delivery)) = or_zero (declared p f.0)
kind_size p _ = 0

unfoldable pub delivered_size : Plan → ℕ → ℕ
delivered_size p t = kind_size p (kind p t)

-- The goods are the pairs and behind them, by task, the deliveries. Deliveries count where the output has a bound.
unfoldable pub goods : Plan → ℕ
goods p = count_pairs p + cond (is_some (output_bound p)) (count_tasks p) 0

-- what a task makes: a delivery makes its good, another task the pairs that it writes
unfoldable pub makes : Plan → ℕ → List ℕ
makes p t = cond (is_delivery p t) ((count_pairs p + t) ∷ []) (writes p t)

-- the declared size of a good
abbrev pub pair_size : Plan → Option Pair → ℕ
pair_size p None = 0
pair_size p (Some q) = or_zero (declared p q.file.0)

unfoldable pub good_size : Plan → ℕ → ℕ
good_size p g = cond (nat_lt g (count_pairs p)) (pair_size p (pair p g))
    (delivered_size p (g - count_pairs p))

-- The places are the sites and behind them, where it has a bound, the output.
abbrev pub count_sites : Plan → ℕ
count_sites p = length p.sites

unfoldable pub places : Plan → ℕ
places p = count_sites p + cond (is_some (output_bound p)) 1 0

unfoldable pub place_bound : Plan → ℕ → ℕ
place_bound p s = cond (nat_lt s (count_sites p)) (bound p s) (or_zero (output_bound p))

-- a pair lies at its site, a delivery at the output
unfoldable pub lies_at : Plan → ℕ → ℕ → Bool
lies_at p g s = cond (nat_lt g (count_pairs p)) (is_at p g s)
    (is_delivery p (g - count_pairs p) && (s == count_sites p))
