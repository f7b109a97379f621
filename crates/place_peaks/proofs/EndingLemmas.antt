-- One good more is settled.
use Rattle.std.proofs.Common.{◌≡◌, ℕ, zero, suc, ◌-◌, ◌≤◌, ◌<◌, ◌^◌, Bool, true, false, cond, nat_eq, List, [], ◌∷◌, length, drop, get_or, Option, Some, None, refl, sym, ap, subst, ◌∙◌, arith}
use Rattle.std.proofs.Math.Path.{fun_ext}
use Rattle.place_peaks.proofs.Offered.{at_place, declared_long, false_of, good_small, once_parts, or_right, rises_once}
use Rattle.plan_core.specs.declared.plan.Plan.{Plan}
use Rattle.plan_core.specs.Numbers.{has}
use Rattle.storage_simulation.specs.Following.{AreOnce}
use Rattle.storage_simulation.specs.code.Goods.{IsWithinLimits, place}
use Rattle.storage_simulation.specs.Goods.{good_size, lies_at, makes, places}
use Rattle.storage_simulation.specs.Standings.{held_size, sizes}
use Rattle.storage_simulation.specs.Usage.{usage}
use Rattle.place_peaks.specs.declared.links.Links.{Links}
use Rattle.place_peaks.specs.declared.peaks.Peaks.{Peaks}
use Rattle.place_peaks.specs.Cleaning.{CanEnd}
use Rattle.place_peaks.specs.Links.{AreLinks}
use Rattle.place_peaks.proofs.PossibleLemmas.{can_end}
use Rattle.lease_rules.specs.State.{ended}
use Rattle.place_peaks.specs.Peaks.{left_of, line_of}
use Rattle.place_peaks.specs.Places.{held_by, there}
use Rattle.place_peaks.specs.Settling.{AreLowered, CanLower, CanSettle, CanSettleOne, IsKept, count_at, count_by, lowered, settled}
use Rattle.place_peaks.specs.Tree.{front_changed}
use Rattle.place_peaks.specs.Values.{values}
use Rattle.place_peaks.proofs.GoodsLemmas.{AreLess, resized_all}
use Rattle.place_peaks.proofs.GrantingLemmas.{SumsAreSmall}
use Rattle.place_peaks.proofs.LoweringLemmas.{can_lower}
use Rattle.place_peaks.proofs.SettlingLemmas.{are_less, count_holds, lowered_same, settled_same}

-- lists from a place on
drop_at : (xs : List ℕ) (k : ℕ) → k < length xs → drop k xs ≡ get_or xs k 0 ∷ drop (suc k) xs
drop_at [] k l = absurd (omega arith)
drop_at (x ∷ xs) zero l = refl
drop_at (x ∷ xs) (suc k) l = drop_at xs k (omega (arith, l))

drop_none : (xs : List ℕ) → drop 0 xs ≡ xs
drop_none [] = refl
drop_none (x ∷ xs) = refl

drop_all : (xs : List ℕ) → drop (length xs) xs ≡ []
drop_all [] = refl
drop_all (x ∷ xs) = drop_all xs

once_drop : (k : ℕ) (xs : List ℕ) → AreOnce xs → AreOnce (drop k xs)
once_drop zero [] o = o
once_drop zero (x ∷ xs) o = o
once_drop (suc k) [] o = o
once_drop (suc k) (x ∷ xs) o = once_drop k xs (once_parts x xs o).1

has_drop : (k : ℕ) (xs : List ℕ) (g : ℕ) → has (drop k xs) g ≡ true → has xs g ≡ true
has_drop zero [] g m = m
has_drop zero (x ∷ xs) g m = m
has_drop (suc k) [] g m = m
has_drop (suc k) (x ∷ xs) g m = or_right (nat_eq x g) (has xs g) (has_drop k xs g m)

less_drop : (size : ℕ → ℕ) (k : ℕ) (xs ns : List ℕ) → AreLess size xs ns → AreLess size (drop k xs) (drop k ns)
less_drop size zero [] ns h = tt
less_drop size zero (x ∷ xs) [] h = tt
less_drop size zero (x ∷ xs) (n ∷ ns) h = h
less_drop size (suc k) [] ns h = tt
less_drop size (suc k) (x ∷ xs) [] h = less_none (drop k xs)
  where
    less_none : (ys : List ℕ) → AreLess size ys []
    less_none [] = tt
    less_none (y ∷ ys) = tt
less_drop size (suc k) (x ∷ xs) (n ∷ ns) h = less_drop size k xs ns h.1

-- one good more
pub settled_step : (p : Plan) (s : ℕ) (count size : ℕ → ℕ) (xs ns : List ℕ) (k : ℕ) (vs : List (Option ℕ)) → k < length xs → k < length ns
    → settled p s count size (get_or xs k 0 ∷ []) (get_or ns k 0 ∷ []) (settled p s count size (drop (suc k) xs) (drop (suc k) ns) vs) ≡ settled p s count size (drop k xs) (drop k ns) vs
settled_step p s count size xs ns k vs l m = sym (ap (λ (ys : List ℕ). settled p s count size ys (drop k ns) vs) (drop_at xs k l) ∙ ap (λ (ys : List ℕ). settled p s count size (get_or xs k 0 ∷ drop (suc k) xs) ys vs) (drop_at ns k m))

pub lowered_step : (p : Plan) (s : ℕ) (size : ℕ → ℕ) (xs ns : List ℕ) (k b : ℕ) → k < length xs → k < length ns
    → lowered p s size (get_or xs k 0 ∷ []) (get_or ns k 0 ∷ []) (lowered p s size (drop (suc k) xs) (drop (suc k) ns) b) ≡ lowered p s size (drop k xs) (drop k ns) b
lowered_step p s size xs ns k b l m = sym (ap (λ (ys : List ℕ). lowered p s size ys (drop k ns) b) (drop_at xs k l) ∙ ap (λ (ys : List ℕ). lowered p s size (get_or xs k 0 ∷ drop (suc k) xs) ys b) (drop_at ns k m))

-- before the first step, and after the last
pub settled_first : (p : Plan) (s : ℕ) (count size : ℕ → ℕ) (xs ns : List ℕ) (k : ℕ) (vs : List (Option ℕ)) → k ≡ length xs → vs ≡ settled p s count size (drop k xs) (drop k ns) vs
settled_first p s count size xs ns k vs e = sym (ap (λ (ys : List ℕ). settled p s count size ys (drop k ns) vs) (ap (λ (n : ℕ). drop n xs) e ∙ drop_all xs))

pub lowered_first : (p : Plan) (s : ℕ) (size : ℕ → ℕ) (xs ns : List ℕ) (k b : ℕ) → k ≡ length xs → b ≡ lowered p s size (drop k xs) (drop k ns) b
lowered_first p s size xs ns k b e = sym (ap (λ (ys : List ℕ). lowered p s size ys (drop k ns) b) (ap (λ (n : ℕ). drop n xs) e ∙ drop_all xs))

pub settled_last : (p : Plan) (s : ℕ) (count size : ℕ → ℕ) (xs ns : List ℕ) (k : ℕ) (vs : List (Option ℕ)) → k ≡ 0 → settled p s count size (drop k xs) (drop k ns) vs ≡ settled p s count size xs ns vs
settled_last p s count size xs ns k vs e = ap (λ (n : ℕ). settled p s count size (drop n xs) (drop n ns) vs) e ∙ ap (λ (ys : List ℕ). settled p s count size ys (drop 0 ns) vs) (drop_none xs) ∙ ap (λ (ys : List ℕ). settled p s count size xs ys vs) (drop_none ns)

pub lowered_last : (p : Plan) (s : ℕ) (size : ℕ → ℕ) (xs ns : List ℕ) (k b : ℕ) → k ≡ 0 → lowered p s size (drop k xs) (drop k ns) b ≡ lowered p s size xs ns b
lowered_last p s size xs ns k b e = ap (λ (n : ℕ). lowered p s size (drop n xs) (drop n ns) b) e ∙ ap (λ (ys : List ℕ). lowered p s size ys (drop 0 ns) b) (drop_none xs) ∙ ap (λ (ys : List ℕ). lowered p s size xs ys b) (drop_none ns)

-- goods that lie elsewhere change nothing
pub settled_none : (p : Plan) (s : ℕ) (count size : ℕ → ℕ) (xs ns : List ℕ) (vs : List (Option ℕ)) → ((g : ℕ) → has xs g ≡ true → lies_at p g s ≡ false) → vs ≡ settled p s count size xs ns vs
settled_none p s count size [] ns vs h = refl
settled_none p s count size (x ∷ xs) [] vs h = refl
settled_none p s count size (x ∷ xs) (n ∷ ns) vs h =
    settled_none p s count size xs ns vs (λ g m. h g (or_right (nat_eq x g) (has xs g) m))
    ∙ sym (ap (λ (b : Bool). cond b (front_changed (count x) (λ m. m - (size x - n)) (settled p s count size xs ns vs)) (settled p s count size xs ns vs)) (h x (at_place (x ∷ xs) 0 (omega arith))))

pub lowered_none : (p : Plan) (s : ℕ) (size : ℕ → ℕ) (xs ns : List ℕ) (b : ℕ) → ((g : ℕ) → has xs g ≡ true → lies_at p g s ≡ false) → b ≡ lowered p s size xs ns b
lowered_none p s size [] ns b h = refl
lowered_none p s size (x ∷ xs) [] b h = refl
lowered_none p s size (x ∷ xs) (n ∷ ns) b h =
    lowered_none p s size xs ns b (λ g m. h g (or_right (nat_eq x g) (has xs g) m))
    ∙ sym (ap (λ (c : Bool). cond c (lowered p s size xs ns b - (size x - n)) (lowered p s size xs ns b)) (h x (at_place (x ∷ xs) 0 (omega arith))))

-- where a good is lowered stays the same
count_kept : (old new : Peaks) (q : ℕ) (o : Option ℕ) → IsKept old new → count_by new q o ≡ count_by old q o
count_kept old new q None kept = ap (λ (b : Peaks). count_by b q None) kept.same
count_kept old new q (Some c) kept = ap (λ (b : Peaks). count_by b q (Some c)) kept.same

pub counts_kept : (links : Links) (old new : Peaks) (q : ℕ) → IsKept old new → count_at new links q ≡ count_at old links q
counts_kept links old new q kept = fun_ext (λ g. count_kept old new q (get_or links.cleaners.items g None) kept)

pub kept_more : (a b c : Peaks) → IsKept a b → IsKept b c → IsKept a c
kept_more a b c h k = record {
  same = k.same ∙ ap (λ (x : Peaks). record x { base = c.base; trees = c.trees }) h.same;
  bases_long = k.bases_long ∙ h.bases_long;
  trees_long = k.trees_long ∙ h.trees_long;
}

-- sizes stay small
resized_small : (xs ns : List ℕ) (size : ℕ → ℕ) (g b : ℕ) → AreLess size xs ns → ((x : ℕ) → size x ≤ b) → resized_all xs ns size g ≤ b
resized_small [] ns size g b less small = small g
resized_small (x ∷ xs) [] size g b less small = small g
resized_small (x ∷ xs) (n ∷ ns) size g b less small = by (nat_eq x g) (resized_small xs ns size g b less.1 small)
  where
    by : (c : Bool) → resized_all xs ns size g ≤ b → cond c n (resized_all xs ns size g) ≤ b
    by true h = let l = less.0 in let m = small x in omega (arith, l, m)
    by false h = h

-- the next good can be settled
settle_one : (p : Plan) (links : Links) (old new : Peaks) (t q x n : ℕ) (xs ms ns : List ℕ) → IsWithinLimits p → SumsAreSmall p → AreLinks p links → (can : CanSettle p links old t ns) → IsKept old new → place p t ≡ Some q
    → AreOnce (x ∷ xs) → AreLess (sizes can.state.held) (x ∷ xs) (n ∷ ms) → ((g : ℕ) → has (x ∷ xs) g ≡ true → has (makes p t) g ≡ true)
    → ((r : ℕ) → r < places p → get_or new.base.items r 0 ≡ lowered p r (good_size p) xs ms (get_or old.base.items r 0))
    → ((r : ℕ) → r < places p → get_or new.trees.items r [] ≡ settled p r (count_at old links r) (good_size p) xs ms (get_or old.trees.items r []))
    → lies_at p x q ≡ true → CanSettleOne p links new q x n
settle_one p links old new t q x n xs ms ns limits sums linked can kept home once less inside bases trees at = record {
  base_in = let a = kept.bases_long in let b = can.tied.bases_long in omega (arith, a, b, low);
  tree_in = let a = kept.trees_long in let b = can.tied.trees_long in omega (arith, a, b, low);
  size_small = let l = less.0 in omega (arith, l, here);
  can = subst (λ (b : ℕ). CanLower b (good_size p x - n) (count_at new links q x) (get_or new.trees.items q [])) (sym base_is)
      (subst (λ (vs : List (Option ℕ)). CanLower (lowered p q (sizes can.state.held) xs ms (usage p (sizes can.state.held) [] q)) (good_size p x - n) (count_at new links q x) vs) (sym tree_is)
      (subst (λ (f : ℕ → ℕ). CanLower (lowered p q (sizes can.state.held) xs ms (usage p (sizes can.state.held) [] q)) (good_size p x - n) (f x) (settled p q (count_at old links q) (sizes can.state.held) xs ms (values (there p q) (left_of old) (held_by p (sizes can.state.held) q) can.front (line_of old)))) (sym (counts_kept links old new q kept))
      (subst (λ (d : ℕ). CanLower (lowered p q (sizes can.state.held) xs ms (usage p (sizes can.state.held) [] q)) (d - n) (count_at old links q x) (settled p q (count_at old links q) (sizes can.state.held) xs ms (values (there p q) (left_of old) (held_by p (sizes can.state.held) q) can.front (line_of old)))) here
      (can_lower p (sizes can.state.held) (left_of old) can.front (line_of old) q (count_at old links q) x n xs ms low once less at (let a = can.tied.sound.small x in let b = good_small p x limits in omega (arith, a, b))
      (λ zs. let few = sums (resized_all xs ms (sizes can.state.held)) zs q (λ g. resized_small xs ms (sizes can.state.held) g (2 ^ 40) less.1 (λ y. let a = can.tied.sound.small y in let b = good_small p y limits in omega (arith, a, b))) in omega (arith, few))
      (λ g m lies. count_holds p can.state old can.front t g q (get_or links.cleaners.items g None) can.tied can.runs (inside g m) low lies (linked.cleaners g))))));
}
  where
    low : q < places p
    low = can.tied.rules.one.place_below t q home

    size_is : (g : ℕ) → has (makes p t) g ≡ true → sizes can.state.held g ≡ good_size p g
    size_is g m = ap held_size (can.tied.sound.running_held t g can.runs m)

    here : sizes can.state.held x ≡ good_size p x
    here = size_is x (inside x (at_place (x ∷ xs) 0 (omega arith)))

    later : (g : ℕ) → has xs g ≡ true → good_size p g ≡ sizes can.state.held g
    later g m = sym (size_is g (inside g (or_right (nat_eq x g) (has xs g) m)))

    base_is : get_or new.base.items q 0 ≡ lowered p q (sizes can.state.held) xs ms (usage p (sizes can.state.held) [] q)
    base_is = bases q low ∙ lowered_same p q (good_size p) (sizes can.state.held) xs ms (get_or old.base.items q 0) later ∙ ap (lowered p q (sizes can.state.held) xs ms) (can.tied.bases q low)

    tree_is : get_or new.trees.items q [] ≡ settled p q (count_at old links q) (sizes can.state.held) xs ms (values (there p q) (left_of old) (held_by p (sizes can.state.held) q) can.front (line_of old))
    tree_is = trees q low ∙ settled_same p q (count_at old links q) (good_size p) (sizes can.state.held) xs ms (get_or old.trees.items q []) later ∙ ap (settled p q (count_at old links q) (sizes can.state.held) xs ms) (can.tied.trees q low)

pub can_settle : (p : Plan) (links : Links) (old new : Peaks) (t q k : ℕ) (ns : List ℕ) → IsWithinLimits p → SumsAreSmall p → AreLinks p links → CanSettle p links old t ns → IsKept old new → place p t ≡ Some q → k < length (makes p t)
    → ((r : ℕ) → r < places p → get_or new.base.items r 0 ≡ lowered p r (good_size p) (drop (suc k) (makes p t)) (drop (suc k) ns) (get_or old.base.items r 0))
    → ((r : ℕ) → r < places p → get_or new.trees.items r [] ≡ settled p r (count_at old links r) (good_size p) (drop (suc k) (makes p t)) (drop (suc k) ns) (get_or old.trees.items r []))
    → lies_at p (get_or (makes p t) k 0) q ≡ true → CanSettleOne p links new q (get_or (makes p t) k 0) (get_or ns k 0)
can_settle p links old new t q k ns limits sums linked can kept home below bases trees at =
    let long = declared_long p (makes p t) ns can.declared in
    let once = rises_once 0 (makes p t) (can.tied.rules.keeps.rises t) in
    let less = are_less p (sizes can.state.held) (makes p t) ns can.declared (λ g m. ap held_size (can.tied.sound.running_held t g can.runs m)) in
    let its = drop_at (makes p t) k below in
    let theirs = drop_at ns k (omega (arith, long, below)) in
    settle_one p links old new t q (get_or (makes p t) k 0) (get_or ns k 0) (drop (suc k) (makes p t)) (drop (suc k) ns) ns limits sums linked can kept home
    (subst AreOnce its (once_drop k (makes p t) once))
    (subst (λ (zs : List ℕ). AreLess (sizes can.state.held) zs (get_or ns k 0 ∷ drop (suc k) ns)) its (subst (AreLess (sizes can.state.held) (drop k (makes p t))) theirs (less_drop (sizes can.state.held) k (makes p t) ns less)))
    (λ g m. has_drop k (makes p t) g (ap (λ (zs : List ℕ). has zs g) its ∙ m)) bases trees at

-- where the task has a place, its goods lie there alone
pub lies_only : (p : Plan) (links : Links) (b : Peaks) (t q k r : ℕ) (ns : List ℕ) → CanSettle p links b t ns → place p t ≡ Some q → k < length (makes p t) → r < places p → lies_at p (get_or (makes p t) k 0) r ≡ true → q ≡ r
lies_only p links b t q k r ns can home below low at = some_same q r (sym home ∙ can.tied.rules.one.makes_there t (get_or (makes p t) k 0) r low (at_place (makes p t) k below) at)
  where
    some_same : (a c : ℕ) → Some a ≡ Some c → a ≡ c
    some_same a c e = cc

-- where it has none, they lie nowhere
pub lies_nowhere : (p : Plan) (links : Links) (b : Peaks) (t g r : ℕ) (ns : List ℕ) → CanSettle p links b t ns → place p t ≡ None → r < places p → has (makes p t) g ≡ true → lies_at p g r ≡ false
lies_nowhere p links b t g r ns can home low m = false_of (lies_at p g r) (λ at. absurd (let no : None ≡ Some r = sym home ∙ can.tied.rules.one.makes_there t g r low m at in cc))

pub step_fits : (p : Plan) (links : Links) (old new : Peaks) (t q k m x v : ℕ) (ns : List ℕ) → IsWithinLimits p → SumsAreSmall p → AreLinks p links → CanSettle p links old t ns → IsKept old new → place p t ≡ Some q → suc k ≡ m → k < length (makes p t) → x ≡ get_or (makes p t) k 0 → v ≡ get_or ns k 0
    → AreLowered p links old new (drop m (makes p t)) (drop m ns) → lies_at p x q ≡ true → CanSettleOne p links new q x v
step_fits p links old new t q k m x v ns limits sums linked can kept home next below is size so_far at =
    subst (λ (y : ℕ). CanSettleOne p links new q y v) (sym is) (subst (CanSettleOne p links new q (get_or (makes p t) k 0)) (sym size)
    (can_settle p links old new t q k ns limits sums linked can kept home below (λ r l. before.0 r l) (λ r l. before.1 r l) (ap (λ (y : ℕ). lies_at p y q) (sym is) ∙ at)))
  where
    before : AreLowered p links old new (drop (suc k) (makes p t)) (drop (suc k) ns)
    before = subst (λ (j : ℕ). AreLowered p links old new (drop j (makes p t)) (drop j ns)) (sym next) so_far

pub step_only : (p : Plan) (links : Links) (b : Peaks) (t q k x r : ℕ) (ns : List ℕ) → CanSettle p links b t ns → place p t ≡ Some q → k < length (makes p t) → x ≡ get_or (makes p t) k 0 → r < places p → lies_at p x r ≡ true → q ≡ r
step_only p links b t q k x r ns can home below is low at = lies_only p links b t q k r ns can home below low (ap (λ (y : ℕ). lies_at p y r) (sym is) ∙ at)

pub step_more : (p : Plan) (links : Links) (old cur new : Peaks) (t k m x v : ℕ) (ns : List ℕ) → CanSettle p links old t ns → IsKept old cur → suc k ≡ m → k < length (makes p t) → x ≡ get_or (makes p t) k 0 → v ≡ get_or ns k 0
    → AreLowered p links old cur (drop m (makes p t)) (drop m ns) → AreLowered p links cur new (x ∷ []) (v ∷ []) → AreLowered p links old new (drop k (makes p t)) (drop k ns)
step_more p links old cur new t k m x v ns can kept next below is size so_far step = (
  λ r l. now.0 r l ∙ ap (lowered p r (good_size p) (get_or (makes p t) k 0 ∷ []) (get_or ns k 0 ∷ [])) (before.0 r l) ∙ lowered_step p r (good_size p) (makes p t) ns k (get_or old.base.items r 0) below long,
  λ r l. now.1 r l
      ∙ ap (λ (f : ℕ → ℕ). settled p r f (good_size p) (get_or (makes p t) k 0 ∷ []) (get_or ns k 0 ∷ []) (get_or cur.trees.items r [])) (counts_kept links old cur r kept)
      ∙ ap (settled p r (count_at old links r) (good_size p) (get_or (makes p t) k 0 ∷ []) (get_or ns k 0 ∷ [])) (before.1 r l)
      ∙ settled_step p r (count_at old links r) (good_size p) (makes p t) ns k (get_or old.trees.items r []) below long,
)
  where
    long : k < length ns
    long = let e = declared_long p (makes p t) ns can.declared in omega (arith, e, below)

    before : AreLowered p links old cur (drop (suc k) (makes p t)) (drop (suc k) ns)
    before = subst (λ (j : ℕ). AreLowered p links old cur (drop j (makes p t)) (drop j ns)) (sym next) so_far

    now : AreLowered p links cur new (get_or (makes p t) k 0 ∷ []) (get_or ns k 0 ∷ [])
    now = subst (λ (y : ℕ). AreLowered p links cur new (y ∷ []) (get_or ns k 0 ∷ [])) is (subst (λ (y : ℕ). AreLowered p links cur new (x ∷ []) (y ∷ [])) size step)

pub steps_first : (p : Plan) (links : Links) (old : Peaks) (t k : ℕ) (ns : List ℕ) → k ≡ length (makes p t) → AreLowered p links old old (drop k (makes p t)) (drop k ns)
steps_first p links old t k ns e = (
  λ r l. lowered_first p r (good_size p) (makes p t) ns k (get_or old.base.items r 0) e,
  λ r l. settled_first p r (count_at old links r) (good_size p) (makes p t) ns k (get_or old.trees.items r []) e,
)

pub steps_last : (p : Plan) (links : Links) (old new : Peaks) (t k : ℕ) (ns : List ℕ) → k ≡ 0 → AreLowered p links old new (drop k (makes p t)) (drop k ns) → AreLowered p links old new (makes p t) ns
steps_last p links old new t k ns e so_far = (
  λ r l. so_far.0 r l ∙ lowered_last p r (good_size p) (makes p t) ns k (get_or old.base.items r 0) e,
  λ r l. so_far.1 r l ∙ settled_last p r (count_at old links r) (good_size p) (makes p t) ns k (get_or old.trees.items r []) e,
)

pub none_lowered : (p : Plan) (links : Links) (b : Peaks) (t : ℕ) (ns : List ℕ) → CanSettle p links b t ns → place p t ≡ None → AreLowered p links b b (makes p t) ns
none_lowered p links b t ns can home = (
  λ r l. lowered_none p r (good_size p) (makes p t) ns (get_or b.base.items r 0) (λ g m. lies_nowhere p links b t g r ns can home l m),
  λ r l. settled_none p r (count_at b links r) (good_size p) (makes p t) ns (get_or b.trees.items r []) (λ g m. lies_nowhere p links b t g r ns can home l m),
)

pub kept_none : (b : Peaks) → IsKept b b
kept_none b = record { same = refl; bases_long = refl; trees_long = refl }

-- the place of a task that runs
pub home_of : (p : Plan) (links : Links) (b : Peaks) (t : ℕ) (ns : List ℕ) (o : Option ℕ) → CanSettle p links b t ns → o ≡ get_or b.seating.homes.items t None → place p t ≡ o
home_of p links b t ns o can e = sym (can.tied.seated.homes t (can.tied.sound.running_kind t can.runs).1) ∙ sym e

-- a task has ended, once its goods are settled and its children are told
pub can_end_then : (p : Plan) (links : Links) (old new : Peaks) (t : ℕ) (ns : List ℕ) → CanSettle p links old t ns → IsKept old new → CanEnd p new.missing.items t
can_end_then p links old new t ns can kept = subst (λ (b : Peaks). CanEnd p b.missing.items t) (sym kept.same) (can_end p can.state old can.front t can.tied (ap ended can.runs))
