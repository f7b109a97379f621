-- The values where all goods of a task are held at their actual sizes.
use Rattle.std.proofs.Common.{◌≡◌, ℕ, ◌-◌, ◌≤◌, ◌<◌, ◌||◌, ◌⊎◌, inl, inr, Bool, true, false, cond, nat_eq, List, [], ◌∷◌, ◌++◌, length, refl, sym, ap, ◌∙◌, arith}
use Rattle.std.specs.Prelude.{filter}
use Rattle.plan_core.specs.declared.plan.Plan.{Plan}
use Rattle.plan_core.specs.Numbers.{has}
use Rattle.storage_simulation.specs.Following.{AreOnce}
use Rattle.storage_simulation.specs.Goods.{lies_at, places}
use Rattle.storage_simulation.specs.Usage.{cleaned}
use Rattle.place_peaks.proofs.Offered.{once_parts, or_left, or_right}
use Rattle.place_peaks.specs.Places.{held_by, there}
use Rattle.place_peaks.specs.Tree.{front_changed}
use Rattle.place_peaks.specs.Values.{values}
use Rattle.place_peaks.specs.Settling.{settled}
use Rattle.place_peaks.proofs.SettleLemmas.{Counts, resized, settle_always, settle_away, settle_until}
use Rattle.place_peaks.proofs.ValuesLemmas.{OnFronts}

-- all of some goods, each at its size, the last one first
abbrev pub resized_all : List ℕ → List ℕ → (ℕ → ℕ) → ℕ → ℕ
resized_all [] ns size = size
resized_all (x ∷ xs) [] size = size
resized_all (x ∷ xs) (n ∷ ns) size = resized x n (resized_all xs ns size)

-- where the values of a good at a place are lowered: up to its Clean, which is left; or all, and no front of the line cleans it
pub record IsUntil (p : Plan) (left : ℕ → Bool) (front line : List ℕ) (g s count : ℕ) : Type 0 where
  pub before : List ℕ
  pub clean : ℕ
  pub behind : List ℕ
  pub is : line ≡ before ++ clean ∷ behind
  pub left_clean : left clean ≡ true
  pub clean_there : there p s clean ≡ true
  pub count_is : count ≡ length (filter (there p s) before)
  pub counts : OnFronts (λ zs. Counts p g (front ++ zs)) (filter left before)
  pub gone : OnFronts (λ zs. cleaned p (((front ++ filter left before) ++ clean ∷ []) ++ zs) g ≡ true) (filter left behind)

pub record IsAlways (p : Plan) (left : ℕ → Bool) (front line : List ℕ) (g s count : ℕ) : Type 0 where
  pub count_is : count ≡ length (filter (there p s) line)
  pub counts : OnFronts (λ zs. Counts p g (front ++ zs)) (filter left line)

abbrev pub HasCount : Plan → (ℕ → Bool) → List ℕ → List ℕ → ℕ → ℕ → ℕ → Type 0
HasCount p left front line g s count = IsUntil p left front line g s count ⊎ IsAlways p left front line g s count

-- each size is at most what is held
abbrev pub AreLess : (ℕ → ℕ) → List ℕ → List ℕ → Type 0
AreLess size [] ns = Unit {0}
AreLess size (x ∷ xs) [] = Unit {0}
AreLess size (x ∷ xs) (n ∷ ns) = (n ≤ size x) × AreLess size xs ns

pub other_size : (xs ns : List ℕ) (size : ℕ → ℕ) (g : ℕ) → has xs g ≡ false → resized_all xs ns size g ≡ size g
other_size [] ns size g off = refl
other_size (x ∷ xs) [] size g off = refl
other_size (x ∷ xs) (n ∷ ns) size g off = parts (nat_eq x g) (has xs g) off (λ a b. ap (λ (c : Bool). cond c n (resized_all xs ns size g)) a ∙ other_size xs ns size g b)
  where
    parts : {P : Type 0} (a b : Bool) → (a || b) ≡ false → (a ≡ false → b ≡ false → P) → P
    parts true b e k = absurd cc
    parts false b e k = k refl e

one_good : (p : Plan) (size : ℕ → ℕ) (left : ℕ → Bool) (front line : List ℕ) (g n s count : ℕ) → s < places p → n ≤ size g → lies_at p g s ≡ true → HasCount p left front line g s count
    → values (there p s) left (held_by p (resized g n size) s) front line ≡ front_changed count (λ m. m - (size g - n)) (values (there p s) left (held_by p size s) front line)
one_good p size left front line g n s count l less at (inl u) =
    ap (values (there p s) left (held_by p (resized g n size) s) front) u.is
    ∙ settle_until p size left front u.before u.clean u.behind g n s l less at u.left_clean u.clean_there u.counts u.gone
    ∙ ap (λ (k : ℕ). front_changed k (λ m. m - (size g - n)) (values (there p s) left (held_by p size s) front (u.before ++ u.clean ∷ u.behind))) (sym u.count_is)
    ∙ ap (λ (zs : List ℕ). front_changed count (λ m. m - (size g - n)) (values (there p s) left (held_by p size s) front zs)) (sym u.is)
one_good p size left front line g n s count l less at (inr a) =
    settle_always p size left front line g n s l less at a.counts
    ∙ ap (λ (k : ℕ). front_changed k (λ m. m - (size g - n)) (values (there p s) left (held_by p size s) front line)) (sym a.count_is)

-- What a task has made is held at its actual sizes: the values are lowered, good by good.
pub settle_goods : (p : Plan) (size : ℕ → ℕ) (left : ℕ → Bool) (front line : List ℕ) (s : ℕ) (count : ℕ → ℕ) (xs ns : List ℕ) → s < places p → AreOnce xs → AreLess size xs ns
    → ((g : ℕ) → has xs g ≡ true → lies_at p g s ≡ true → HasCount p left front line g s (count g))
    → values (there p s) left (held_by p (resized_all xs ns size) s) front line ≡ settled p s count size xs ns (values (there p s) left (held_by p size s) front line)
settle_goods p size left front line s count [] ns l once less each = refl
settle_goods p size left front line s count (x ∷ xs) [] l once less each = refl
settle_goods p size left front line s count (x ∷ xs) (n ∷ ns) l once less each =
    by (lies_at p x s) refl (settle_goods p size left front line s count xs ns l (once_parts x xs once).1 less.1 (λ g m at. each g (or_right (nat_eq x g) (has xs g) m) at))
  where
    same : resized_all xs ns size x ≡ size x
    same = other_size xs ns size x (once_parts x xs once).0

    by : (b : Bool) → lies_at p x s ≡ b
        → values (there p s) left (held_by p (resized_all xs ns size) s) front line ≡ settled p s count size xs ns (values (there p s) left (held_by p size s) front line)
        → values (there p s) left (held_by p (resized x n (resized_all xs ns size)) s) front line
        ≡ cond b (front_changed (count x) (λ m. m - (size x - n)) (settled p s count size xs ns (values (there p s) left (held_by p size s) front line))) (settled p s count size xs ns (values (there p s) left (held_by p size s) front line))
    by true at rest =
        one_good p (resized_all xs ns size) left front line x n s (count x) l (let few = less.0 in omega (arith, few, same)) at (each x (or_left (nat_eq x x) (has xs x) (let e : nat_eq x x ≡ true = grind arith in e)) at)
        ∙ ap (λ (k : ℕ). front_changed (count x) (λ m. m - (k - n)) (values (there p s) left (held_by p (resized_all xs ns size) s) front line)) same
        ∙ ap (front_changed (count x) (λ m. m - (size x - n))) rest
    by false at rest = settle_away p (resized_all xs ns size) left front line x n s at ∙ rest
