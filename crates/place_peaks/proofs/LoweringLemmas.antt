-- What a settling asks of a tree and of what a place holds.
use Rattle.std.proofs.Common.{◌≡◌, ℕ, ◌+◌, ◌-◌, ◌≤◌, ◌<◌, ◌^◌, inl, inr, Bool, true, false, cond, nat_eq, List, [], ◌∷◌, ◌++◌, length, take, Option, refl, sym, ap, subst, ◌∙◌, arith}
use Rattle.std.specs.Prelude.{filter}
use Rattle.plan_core.specs.declared.plan.Plan.{Plan}
use Rattle.plan_core.specs.Numbers.{has}
use Rattle.storage_simulation.specs.code.Change.{held_part}
use Rattle.storage_simulation.specs.Following.{AreOnce}
use Rattle.storage_simulation.specs.Goods.{lies_at, places}
use Rattle.storage_simulation.specs.Usage.{usage}
use Rattle.place_peaks.proofs.Offered.{has_head, once_parts, or_right}
use Rattle.place_peaks.specs.Places.{held_by, there}
use Rattle.place_peaks.specs.Settling.{CanLower, lowered, settled}
use Rattle.place_peaks.specs.Tree.{AllFirst, CanFall, front_changed}
use Rattle.place_peaks.specs.Values.{values}
use Rattle.place_peaks.proofs.GoodsLemmas.{AreLess, HasCount, other_size, resized_all, settle_goods}
use Rattle.place_peaks.proofs.SettleLemmas.{Counts, resized_counts}
use Rattle.place_peaks.proofs.SettlingLemmas.{lowered_usage}
use Rattle.place_peaks.proofs.ValuesLemmas.{all_before, all_of, front_long, values_append, values_long}

-- the list is as long as before
pub settled_long : (p : Plan) (s : ℕ) (count size : ℕ → ℕ) (xs ns : List ℕ) (vs : List (Option ℕ)) → length (settled p s count size xs ns vs) ≡ length vs
settled_long p s count size [] ns vs = refl
settled_long p s count size (x ∷ xs) [] vs = refl
settled_long p s count size (x ∷ xs) (n ∷ ns) vs = by (lies_at p x s) (settled_long p s count size xs ns vs)
  where
    by : (b : Bool) → length (settled p s count size xs ns vs) ≡ length vs → length (cond b (front_changed (count x) (λ m. m - (size x - n)) (settled p s count size xs ns vs)) (settled p s count size xs ns vs)) ≡ length vs
    by true e = front_long (count x) (λ m. m - (size x - n)) (settled p s count size xs ns vs) ∙ e
    by false e = e

-- where a front counts what is held of a good, it holds as much as the good falls by
falls_by : (p : Plan) (size : ℕ → ℕ) (front : List ℕ) (x n s : ℕ) → s < places p → lies_at p x s ≡ true → Counts p x front → size x - n ≤ usage p size front s
falls_by p size front x n s l at counts =
    let all = resized_counts p size front x n s l counts.0 counts.1 in
    let old : held_part p size s x ≡ size x = ap (λ (b : Bool). cond b (size x) 0) at in
    let new : cond (lies_at p x s) n 0 ≡ n = ap (λ (b : Bool). cond b n 0) at in
    omega (arith, all, old, new)

count_fits : (p : Plan) (left : ℕ → Bool) (held : List ℕ → ℕ) (front line : List ℕ) (x s count : ℕ) → HasCount p left front line x s count → count ≤ length (values (there p s) left held front line)
count_fits p left held front line x s count (inl u) =
    let all = values_long (there p s) left held front line in
    let line_is = ap (λ (zs : List ℕ). length (values (there p s) left held front zs)) u.is in
    let parts = ap length (values_append (there p s) left held front u.before (u.clean ∷ u.behind)) in
    let first = values_long (there p s) left held front u.before in
    let sum = length_both (values (there p s) left held front u.before) (values (there p s) left held (front ++ filter left u.before) (u.clean ∷ u.behind)) in
    let is = u.count_is in
    omega (arith, line_is, parts, first, sum, is)
  where
    length_both : (xs ys : List (Option ℕ)) → length (xs ++ ys) ≡ length xs + length ys
    length_both [] ys = omega arith
    length_both (y ∷ xs) ys = let e = length_both xs ys in omega (arith, e)
count_fits p left held front line x s count (inr a) = let all = values_long (there p s) left held front line in let is = a.count_is in omega (arith, all, is)

falls_first : (p : Plan) (size : ℕ → ℕ) (left : ℕ → Bool) (front line : List ℕ) (x n s count : ℕ) → s < places p → lies_at p x s ≡ true → ((zs : List ℕ) → usage p size zs s ≤ 2 ^ 62) → HasCount p left front line x s count
    → AllFirst count (CanFall (size x - n)) (values (there p s) left (held_by p size s) front line)
falls_first p size left front line x n s count l at small (inl u) =
    subst (λ (zs : List ℕ). AllFirst count (CanFall (size x - n)) (values (there p s) left (held_by p size s) front zs)) (sym u.is)
    (subst (λ (k : ℕ). AllFirst k (CanFall (size x - n)) (values (there p s) left (held_by p size s) front (u.before ++ u.clean ∷ u.behind))) (sym u.count_is)
    (all_before (CanFall (size x - n)) (there p s) left (held_by p size s) front u.before (u.clean ∷ u.behind) tt (λ k. (falls_by p size (front ++ take k (filter left u.before)) x n s l at (u.counts k), small (front ++ take k (filter left u.before))))))
falls_first p size left front line x n s count l at small (inr a) =
    all_of (CanFall (size x - n)) (there p s) left (held_by p size s) front line tt (λ k. (falls_by p size (front ++ take k (filter left line)) x n s l at (a.counts k), small (front ++ take k (filter left line)))) count

pub can_lower : (p : Plan) (size : ℕ → ℕ) (left : ℕ → Bool) (front line : List ℕ) (s : ℕ) (count : ℕ → ℕ) (x n : ℕ) (xs ns : List ℕ) → s < places p → AreOnce (x ∷ xs) → AreLess size (x ∷ xs) (n ∷ ns) → lies_at p x s ≡ true → size x ≤ 2 ^ 62
    → ((zs : List ℕ) → usage p (resized_all xs ns size) zs s ≤ 2 ^ 62) → ((g : ℕ) → has (x ∷ xs) g ≡ true → lies_at p g s ≡ true → HasCount p left front line g s (count g))
    → CanLower (lowered p s size xs ns (usage p size [] s)) (size x - n) (count x) (settled p s count size xs ns (values (there p s) left (held_by p size s) front line))
can_lower p size left front line s count x n xs ns l once less at few small each = record {
  count_in = let long = settled_long p s count size xs ns (values (there p s) left (held_by p size s) front line) in let fits = count_fits p left (held_by p size s) front line x s (count x) (each x (has_head x xs) at) in omega (arith, long, fits);
  less_small = omega (arith, few);
  base_more =
      let is = lowered_usage p size s xs ns l (once_parts x xs once).1 less.1 in
      let falls = falls_by p (resized_all xs ns size) [] x n s l at (refl, refl) in
      omega (arith, is, falls, same);
  can_fall = subst (AllFirst (count x) (CanFall (size x - n))) (settle_goods p size left front line s count xs ns l (once_parts x xs once).1 less.1 (λ g m. each g (has_later g m)))
      (subst (λ (d : ℕ). AllFirst (count x) (CanFall (d - n)) (values (there p s) left (held_by p (resized_all xs ns size) s) front line)) same
      (falls_first p (resized_all xs ns size) left front line x n s (count x) l at small (each x (has_head x xs) at)));
}
  where
    same : resized_all xs ns size x ≡ size x
    same = other_size xs ns size x (once_parts x xs once).0

    has_later : (g : ℕ) → has xs g ≡ true → has (x ∷ xs) g ≡ true
    has_later g m = or_right (nat_eq x g) (has xs g) m
