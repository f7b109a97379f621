-- What storage rests on in a plan, and usage as sums over pairs and over deliveries.
use Rattle.std.specs.Prelude.{◌≡◌, ℕ, ◌+◌, ◌<◌, Bool, true, false, cond, List}
use Rattle.std.specs.List.{list_any}
use Rattle.values.specs.Numbers.{total}
use Rattle.plan_core.specs.declared.plan.Plan.{Plan}
use Rattle.plan_core.specs.code.Numbers.{RisesFrom}
use Rattle.plan_core.specs.Numbers.{has}
use Rattle.plan_core.specs.Words.{cleans, count_pairs, count_tasks, is_at, pair, parents, writes}
use Rattle.storage_simulation.specs.Goods.{delivered_size, is_delivery, makes, pair_size}

-- Each good has one maker, and at most one Clean, which comes after the maker and makes nothing; goods are listed rising.
pub record KeepsGoods (p : Plan) : Type 0 where
  pub one_maker : (t u g : ℕ) → has (makes p t) g ≡ true → has (makes p u) g ≡ true → t ≡ u
  pub rises : (t : ℕ) → RisesFrom 0 (makes p t)
  pub one_clean : (t u g : ℕ) → cleans p t g ≡ true → cleans p u g ≡ true → t ≡ u
  pub cleans_after : (t u g : ℕ) → cleans p t g ≡ true → has (makes p u) g ≡ true → has (parents p t) u ≡ true
  pub cleans_make : (t g h : ℕ) → cleans p t g ≡ true → has (makes p t) h ≡ false
  pub cleans_pairs : (t g : ℕ) → cleans p t g ≡ true → g < count_pairs p

-- the front's tasks write, or clean, the pair
abbrev pub written : Plan → List ℕ → ℕ → Bool
written p front q = list_any (λ t. has (writes p t) q) front

abbrev pub swept : Plan → List ℕ → ℕ → Bool
swept p front q = list_any (λ t. cleans p t q) front

-- what the pairs of a site come to after a front: one that it cleans counts nothing, one that it writes its declared size, each other what is held of it
abbrev pub pair_weight : Plan → (ℕ → ℕ) → List ℕ → ℕ → ℕ
pair_weight p size front q = cond (swept p front q) 0
    (cond (written p front q) (pair_size p (pair p q)) (size q))

abbrev pub site_usage : Plan → (ℕ → ℕ) → List ℕ → ℕ → ℕ
site_usage p size front s = total (count_pairs p) (λ q. cond (is_at p q s) (pair_weight p size front q) 0)

-- what the deliveries come to: one in the front counts its declared size, each other what is held of it
abbrev pub output_usage : Plan → (ℕ → ℕ) → List ℕ → ℕ
output_usage p size front = total (count_tasks p)
    (λ t. cond (is_delivery p t) (cond (has front t) (delivered_size p t) (size (count_pairs p + t))) 0)
