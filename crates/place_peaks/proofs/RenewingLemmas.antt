-- A fresh order in place of the one that is kept.
use Rattle.std.proofs.Common.{◌≡◌, ℕ, zero, suc, ◌+◌, ◌-◌, ◌≤◌, ◌<◌, ◌^◌, ◌⊎◌, inl, inr, ◌||◌, Bool, true, false, cond, nat_eq, eqb-true, List, [], ◌∷◌, ◌++◌, length, length-append, take, drop, map, get_or, Option, Some, None, refl, sym, ap, subst, ◌∙◌, append_assoc, arith}
use Rattle.std.specs.Prelude.{filter, not, replicate, set}
use Rattle.std.proofs.Math.Path.{fun_ext}
use Rattle.std.proofs.lemmas.Bool.{cases_lt, eqb-false}
use Rattle.std.proofs.lemmas.List.{length-map, length-replicate}
use Rattle.std.proofs.lemmas.List.Folds.{list_any-append}
use Rattle.values.specs.declared.numbers.TaskId.{TaskId}
use Rattle.place_peaks.proofs.Offered.{Making, at_place, below_rises, below_test, by_bool, cleaning, count_tasks_in, false_of, few_once, first_is_choice, follows_of, fresh_among, front_more, good_small, has_head, has_without, is_itself, is_waiting, making, not_of, once_filter, once_more, once_parts, or_case, or_left, or_right, rises_once, sound_more}
use Rattle.lease_rules.specs.Choice.{HasNoChoice, HaveParentsEnded, IsCandidate}
use Rattle.lease_rules.specs.code.Law.{HasStorageLaws, IsSoundState}
use Rattle.lease_rules.specs.Legal.{Allowed}
use Rattle.lease_rules.specs.State.{State, after, order_or, order_with, put, reserved_for, without}
use Rattle.peak_tree.specs.Numbers.{filled}
use Rattle.plan_core.specs.declared.plan.Plan.{Plan}
use Rattle.plan_core.specs.Numbers.{below, has}
use Rattle.plan_core.specs.Words.{cleans, count_tasks, is_clean, parents, task_numbers}
use Rattle.run_record.specs.Events.{Regrant}
use Rattle.storage_simulation.specs.declared.standing.Phase.{Phase}
use Rattle.storage_simulation.specs.declared.standing.Phase.TheVariants.{Runs}
use Rattle.storage_simulation.specs.declared.standing.Standing.{Standing}
use Rattle.storage_simulation.specs.code.Change.{cleaned_part}
use Rattle.storage_simulation.specs.Following.{AreOnce}
use Rattle.storage_simulation.specs.code.Following.{Follows}
use Rattle.storage_simulation.specs.Fitting.{Fits}
use Rattle.storage_simulation.specs.code.Goods.{IsWithinLimits, place}
use Rattle.storage_simulation.specs.Goods.{good_size, makes, places}
use Rattle.storage_simulation.specs.code.Law.{KeepsGoods}
use Rattle.storage_simulation.specs.code.Standings.{held_of}
use Rattle.storage_simulation.specs.Standings.{held_size, sizes, waits}
use Rattle.storage_simulation.specs.Usage.{usage}
use Rattle.place_peaks.specs.declared.peaks.Peaks.{Peaks}
use Rattle.place_peaks.specs.Entries.{AreTied}
use Rattle.place_peaks.specs.Granting.{CanHold}
use Rattle.place_peaks.specs.Places.{AreSeats}
use Rattle.place_peaks.specs.Values.{all_left}
use Rattle.place_peaks.specs.declared.seating.Seating.{Seating}
use Rattle.place_peaks.specs.Peaks.{AreBehind, ArePeaks, HasPassed, IsSeating, is_left, left_of, line_of, stack_of}
use Rattle.place_peaks.specs.Places.{ChangesOnePlace, brings, held_by, is_place, there}
use Rattle.place_peaks.specs.Renewing.{CanRenew, CanWalk, IsLaid, IsLevel, IsRenewed, IsShown, renewed_line, renewed_values}
use Rattle.place_peaks.specs.Waiting.{HasStackRoom}
use Rattle.place_peaks.specs.Values.{value, values}
use Rattle.group_index.specs.Index.{AreAsMany, count_before}
use Rattle.place_peaks.specs.Ready.{WasGrouped, group_of, groups_of}
use Rattle.place_peaks.specs.declared.ready.Ready.{Ready}
use Rattle.place_peaks.proofs.ReadyLemmas.{HaveTrees}
use Rattle.place_peaks.proofs.ChoosingLemmas.{filter_both, placed_there, spot_of, take_past}
use Rattle.place_peaks.proofs.CleaningLemmas.{cleaned_good}
use Rattle.place_peaks.proofs.CountLemmas.{counts_run, open_none}
use Rattle.place_peaks.proofs.DecisionLemmas.{IsSpot, then_holds, then_same}
use Rattle.place_peaks.proofs.EntryLemmas.{in_line}
use Rattle.place_peaks.proofs.FrontLemmas.{none_passed}
use Rattle.place_peaks.proofs.GrantingLemmas.{SumsAreSmall, brings_same, started_small}
use Rattle.place_peaks.proofs.OpeningLemmas.{filter_all, filter_short, level_stays, list_more, list_stays, same_on, some_last, take_short}
use Rattle.place_peaks.proofs.PlacesLemmas.{brings_more, is_there, not_there}
use Rattle.place_peaks.proofs.SetLemmas.{get_set}
use Rattle.place_peaks.proofs.StackLemmas.{numbers_last}
use Rattle.place_peaks.proofs.ValuesLemmas.{filter_same, values_append, values_long, values_same}

-- One task more of a fresh order, at a place.
pub level_made : (p : Plan) (phase : ℕ → Phase) (size : ℕ → ℕ) (ts : List ℕ) (k q before need : ℕ) → KeepsGoods p → Follows p phase ts → k < length ts → q < places p → ((g : ℕ) → cleans p (get_or ts k 0) g ≡ false) → ((g : ℕ) → size g ≤ good_size p g)
    → need ≡ brings p size q (get_or ts k 0) → before ≡ usage p size (take k ts) q → before + need ≡ usage p size (take (k + 1) ts) q
level_made p phase size ts k q before need keeps follows l low off small needs is =
    let m : Making p size ts k q (get_or ts k 0) = making p phase size ts k q keeps follows l low off in
    let more = brings_more p size q (get_or ts k 0) small in
    omega (arith, m.0, m.1, more, needs, is)

pub level_cleaned : (p : Plan) (phase : ℕ → Phase) (size : ℕ → ℕ) (ts : List ℕ) (k q g before : ℕ) → KeepsGoods p → Follows p phase ts → k < length ts → q < places p → ((x : ℕ) → cleans p (get_or ts k 0) x ≡ nat_eq g x)
    → before ≡ usage p size (take k ts) q → usage p size (take (k + 1) ts) q + cleaned_part p phase size (get_or ts k 0) q g ≡ before
level_cleaned p phase size ts k q g before keeps follows l low its is = let c = cleaning p phase size ts k q g keeps follows l low its in omega (arith, c, is)

pub level_first : (p : Plan) (size : ℕ → ℕ) (ts : List ℕ) (q k level : ℕ) (levels : List ℕ) → k ≡ 0 → levels ≡ [] → level ≡ usage p size [] q → IsLevel p size ts q k level levels
level_first p size ts q k level levels z none is = record {
  level = is ∙ ap (λ (xs : List ℕ). usage p size xs q) (sym (ap (λ (n : ℕ). take n ts) z ∙ start ts));
  levels = ap (map Some) none ∙ ap (values (there p q) all_left (held_by p size q) []) (sym (ap (λ (n : ℕ). take n ts) z ∙ start ts));
}
  where
    start : (xs : List ℕ) → take 0 xs ≡ []
    start [] = refl
    start (x ∷ xs) = refl

pub level_passed : (p : Plan) (size : ℕ → ℕ) (ts : List ℕ) (q k level : ℕ) (levels : List ℕ) → ChangesOnePlace p → k < length ts → q < places p → is_place q (place p (get_or ts k 0)) ≡ false → IsLevel p size ts q k level levels → IsLevel p size ts q (k + 1) level levels
level_passed p size ts q k level levels one l low off so_far = record {
  level = so_far.level ∙ sym (level_stays p size ts k q one l low (not_there q (place p (get_or ts k 0)) off));
  levels = so_far.levels ∙ sym (list_stays p size ts k q l off);
}

pub level_added : (p : Plan) (size : ℕ → ℕ) (ts : List ℕ) (q k level next : ℕ) (levels : List ℕ) → k < length ts → is_place q (place p (get_or ts k 0)) ≡ true → next ≡ usage p size (take (k + 1) ts) q → IsLevel p size ts q k level levels → IsLevel p size ts q (k + 1) next (levels ++ next ∷ [])
level_added p size ts q k level next levels l on is so_far = record {
  level = is;
  levels = some_last levels next
      ∙ ap (λ (vs : List (Option ℕ)). vs ++ Some next ∷ []) so_far.levels
      ∙ ap (λ (n : ℕ). values (there p q) all_left (held_by p size q) [] (take k ts) ++ Some n ∷ []) is
      ∙ sym (list_more p size q ts k l ∙ ap (λ (b : Bool). values (there p q) all_left (held_by p size q) [] (take k ts) ++ cond b (Some (usage p size (take (k + 1) ts) q) ∷ []) []) on);
}

-- there is room for one number more
pub level_short : (p : Plan) (size : ℕ → ℕ) (ts : List ℕ) (q k level : ℕ) (levels : List ℕ) → IsLevel p size ts q k level levels → length levels ≤ k
level_short p size ts q k level levels so_far =
    let all = length-map levels Some in
    let same = ap length so_far.levels in
    let long = values_long (there p q) all_left (held_by p size q) [] (take k ts) in
    let few = filter_short (there p q) (take k ts) in
    let front = take_short k ts in
    omega (arith, all, same, long, few, front)

pub level_last : (p : Plan) (size : ℕ → ℕ) (ts : List ℕ) (q k level : ℕ) (levels : List ℕ) → k ≡ length ts → IsLevel p size ts q k level levels → map Some levels ≡ values (there p q) all_left (held_by p size q) [] ts
level_last p size ts q k level levels end so_far = so_far.levels ∙ ap (values (there p q) all_left (held_by p size q) []) (take_past ts k (omega (arith, end)))

-- the tree of a place then
pub renewed_is : (p : Plan) (size : ℕ → ℕ) (ts levels : List ℕ) (q : ℕ) (vs : List (Option ℕ)) → map Some levels ≡ values (there p q) all_left (held_by p size q) [] ts → filled levels (length vs) ≡ renewed_values p size ts q vs
renewed_is p size ts levels q vs is =
    ap (λ (ws : List (Option ℕ)). ws ++ replicate (length vs - length levels) None) is
    ∙ ap (λ (n : ℕ). values (there p q) all_left (held_by p size q) [] ts ++ replicate (length vs - n) None) (sym (length-map levels Some) ∙ ap length is)

pub levels_few : (p : Plan) (size : ℕ → ℕ) (ts levels : List ℕ) (q : ℕ) → map Some levels ≡ values (there p q) all_left (held_by p size q) [] ts → length levels ≡ length (filter (there p q) ts)
levels_few p size ts levels q is = sym (length-map levels Some) ∙ ap length is ∙ values_long (there p q) all_left (held_by p size q) [] ts

-- The marks.
pub none_marked : (n u : ℕ) → get_or (replicate n false) u false ≡ false
none_marked zero u = refl
none_marked (suc n) zero = refl
none_marked (suc n) (suc u) = none_marked n u

pub marked_more : (marks : List Bool) (ts : List ℕ) (k t : ℕ) → k < length ts → t ≡ get_or ts k 0 → t < length marks → ((u : ℕ) → is_left marks u ≡ has (take k ts) u) → (u : ℕ) → is_left (set marks t true) u ≡ has (take (k + 1) ts) u
marked_more marks ts k t l at low so_far u =
    get_set marks t u true false low
    ∙ ap (λ (b : Bool). cond (nat_eq t u) true b) (so_far u)
    ∙ either (nat_eq t u) (has (take k ts) u)
    ∙ ap (λ (n : ℕ). has (take k ts) u || (nat_eq n u || false)) at
    ∙ sym (ap (λ (zs : List ℕ). has zs u) (front_more ts k l) ∙ list_any-append (λ y. nat_eq y u) (take k ts) (get_or ts k 0 ∷ []))
  where
    either : (a b : Bool) → cond a true b ≡ (b || (a || false))
    either true true = refl
    either true false = refl
    either false true = refl
    either false false = refl

-- The line.
pub below_more : (n : ℕ) (test : ℕ → Bool) → below (n + 1) test ≡ below n test ++ cond (test n) (n ∷ []) []
unfolding below
below_more n test = ap (λ (m : ℕ). below m test) (let e : n + 1 ≡ suc n = omega arith in e)

pub below_less : (n : ℕ) (test : ℕ → Bool) (m : ℕ) → m ≤ n → length (below m test) ≤ length (below n test)
unfolding below
below_less zero test m l = let e : m ≡ 0 = omega (arith, l) in let same = ap (λ (k : ℕ). length (below k test)) e in omega (arith, same)
below_less (suc n) test m l = by (cases_lt m (suc n)) (below_less n test m)
  where
    by : (m < suc n) ⊎ (suc n ≤ m) → (m ≤ n → length (below m test) ≤ length (below n test)) → length (below m test) ≤ length (below n test ++ cond (test n) (n ∷ []) [])
    by (inl h) fewer = let less = fewer (omega (arith, h)) in let sum = length-append (below n test) (cond (test n) (n ∷ []) []) in omega (arith, less, sum)
    by (inr h) fewer = let e : m ≡ suc n = omega (arith, l, h) in let same = ap (λ (k : ℕ). length (below k test)) e in omega (arith, same)

below_has : (n : ℕ) (test : ℕ → Bool) (x : ℕ) → x < n → test x ≡ true → has (below n test) x ≡ true
unfolding below
below_has zero test x l on = absurd (omega (arith, l))
below_has (suc n) test x l on = list_any-append (λ y. nat_eq y x) (below n test) (cond (test n) (n ∷ []) []) ∙ by (cases_lt x n) (λ h. below_has n test x h on)
  where
    by : (x < n) ⊎ (n ≤ x) → (x < n → has (below n test) x ≡ true) → (has (below n test) x || has (cond (test n) (n ∷ []) []) x) ≡ true
    by (inl h) less = or_left (has (below n test) x) (has (cond (test n) (n ∷ []) []) x) (less h)
    by (inr h) less =
        let e : n ≡ x = omega (arith, l, h) in
        or_right (has (below n test) x) (has (cond (test n) (n ∷ []) []) x)
        (ap (λ (b : Bool). has (cond b (n ∷ []) []) x) (ap test e ∙ on) ∙ or_left (nat_eq n x) false (ap (λ (m : ℕ). nat_eq m x) e ∙ is_itself x))

below_low : (n : ℕ) (test : ℕ → Bool) (x : ℕ) → has (below n test) x ≡ true → x < n
unfolding below
below_low zero test x h = absurd cc
below_low (suc n) test x h = or_case (has (below n test) x) (has (cond (test n) (n ∷ []) []) x) (sym (list_any-append (λ y. nat_eq y x) (below n test) (cond (test n) (n ∷ []) [])) ∙ h)
    (λ a. let l = below_low n test x a in omega (arith, l))
    (λ b. by (test n) b)
  where
    by : (b : Bool) → has (cond b (n ∷ []) []) x ≡ true → x < suc n
    by true m = or_case (nat_eq n x) false m (λ e. let same = eqb-true n x e in omega (arith, same)) (λ no. absurd cc)
    by false m = absurd cc

once_both : (xs ys : List ℕ) → AreOnce xs → AreOnce ys → ((u : ℕ) → has xs u ≡ true → has ys u ≡ true → ⊥) → AreOnce (xs ++ ys)
once_both [] ys a b apart = b
once_both (x ∷ xs) ys a b apart =
    let parts = once_parts x xs a in
    once_more x (xs ++ ys)
    (false_of (has (xs ++ ys) x) (λ m. or_case (has xs x) (has ys x) (sym (list_any-append (λ y. nat_eq y x) xs ys) ∙ m) (λ h. absurd (let no = parts.0 in cc)) (λ h. apart x (has_head x xs) h)))
    (once_both xs ys parts.1 b (λ u m n. apart u (or_right (nat_eq x u) (has xs u) m) n))

others : ℕ → List ℕ → List ℕ
others n ts = below n (λ u. not (has ts u))

not_off : (b : Bool) → not b ≡ true → b ≡ false
not_off true e = absurd cc
not_off false e = refl

pub line_once : (n : ℕ) (ts : List ℕ) → AreOnce ts → AreOnce (renewed_line n ts)
line_once n ts once = once_both ts (below n (λ u. not (has ts u))) once (rises_once 0 (below n (λ u. not (has ts u))) (below_rises n (λ u. not (has ts u))))
    (λ u m h. absurd (let no = not_off (has ts u) (below_test n (λ v. not (has ts v)) u h) in cc))

pub line_low : (n : ℕ) (ts : List ℕ) → ((u : ℕ) → has ts u ≡ true → u < n) → (u : ℕ) → has (renewed_line n ts) u ≡ true → u < n
line_low n ts low u m = or_case (has ts u) (has (below n (λ v. not (has ts v))) u) (sym (list_any-append (λ y. nat_eq y u) ts (below n (λ v. not (has ts v)))) ∙ m) (low u) (below_low n (λ v. not (has ts v)) u)

pub line_all : (n : ℕ) (ts : List ℕ) (u : ℕ) → u < n → has (renewed_line n ts) u ≡ true
line_all n ts u l = list_any-append (λ y. nat_eq y u) ts (below n (λ v. not (has ts v))) ∙ by_bool (has ts u)
    (λ on. or_left (has ts u) (has (below n (λ v. not (has ts v))) u) on)
    (λ off. or_right (has ts u) (has (below n (λ v. not (has ts v))) u) (below_has n (λ v. not (has ts v)) u l (not_of (has ts u) off)))

pub line_few : (n : ℕ) (ts : List ℕ) → AreOnce ts → ((u : ℕ) → has ts u ≡ true → u < n) → length ts + length (below n (λ u. not (has ts u))) ≤ n
line_few n ts once low =
    let few = few_once n (renewed_line n ts) (line_once n ts once) (line_low n ts low) in
    let sum = length-append ts (below n (λ u. not (has ts u))) in
    omega (arith, few, sum)

-- two lists of the same tasks, each once, have as many of a kind
without_less : (t : ℕ) (ys : List ℕ) → has ys t ≡ true → suc (length (without t ys)) ≤ length ys
without_less t [] m = absurd cc
without_less t (y ∷ ys) m = by_test (nat_eq t y) refl (without_less t ys)
  where
    shorter : (zs : List ℕ) → length (without t zs) ≤ length zs
    shorter [] = omega arith
    shorter (z ∷ zs) = by (nat_eq t z) (shorter zs)
      where
        by : (b : Bool) → length (without t zs) ≤ length zs → length (cond (not b) (z ∷ without t zs) (without t zs)) ≤ length (z ∷ zs)
        by true h = omega (arith, h)
        by false h = omega (arith, h)

    by_test : (b : Bool) → nat_eq t y ≡ b → (has ys t ≡ true → suc (length (without t ys)) ≤ length ys) → suc (length (cond (not b) (y ∷ without t ys) (without t ys))) ≤ length (y ∷ ys)
    by_test true e fewer = let h = shorter ys in omega (arith, h)
    by_test false e fewer =
        let more = fewer (or_case (nat_eq y t) (has ys t) m (λ at. absurd (let same : nat_eq t y ≡ nat_eq y t = grind arith in let no = e in cc)) (λ h. h)) in
        omega (arith, more)

shorter_once : (xs ys : List ℕ) → AreOnce xs → ((u : ℕ) → has xs u ≡ true → has ys u ≡ true) → length xs ≤ length ys
shorter_once [] ys once inside = omega arith
shorter_once (x ∷ xs) ys once inside =
    let parts = once_parts x xs once in
    let less = shorter_once xs (without x ys) parts.1 (λ u m. has_without x u ys (inside u (or_right (nat_eq x u) (has xs u) m)) (false_of (nat_eq x u) (λ e. absurd (let no = parts.0 in let yes : has xs x ≡ true = ap (has xs) (eqb-true x u e) ∙ m in cc)))) in
    let one = without_less x ys (inside x (has_head x xs)) in
    omega (arith, less, one)

filter_has : (f : ℕ → Bool) (xs : List ℕ) (u : ℕ) → has (filter f xs) u ≡ true → (has xs u ≡ true) × (f u ≡ true)
filter_has f [] u m = absurd cc
filter_has f (x ∷ xs) u m = by (f x) refl m (filter_has f xs u)
  where
    by : (b : Bool) → f x ≡ b → has (cond b (x ∷ filter f xs) (filter f xs)) u ≡ true → (has (filter f xs) u ≡ true → (has xs u ≡ true) × (f u ≡ true)) → (has (x ∷ xs) u ≡ true) × (f u ≡ true)
    by true e h less_of = or_case (nat_eq x u) (has (filter f xs) u) h
        (λ at. (or_left (nat_eq x u) (has xs u) at, ap f (sym (eqb-true x u at)) ∙ e))
        (λ n. let less = less_of n in (or_right (nat_eq x u) (has xs u) less.0, less.1))
    by false e h less_of = let less = less_of h in (or_right (nat_eq x u) (has xs u) less.0, less.1)

has_filtered : (f : ℕ → Bool) (xs : List ℕ) (u : ℕ) → has xs u ≡ true → f u ≡ true → has (filter f xs) u ≡ true
has_filtered f [] u m on = absurd cc
has_filtered f (x ∷ xs) u m on = or_case (nat_eq x u) (has xs u) m
    (λ at. ap (λ (b : Bool). has (cond b (x ∷ filter f xs) (filter f xs)) u) (ap f (eqb-true x u at) ∙ on) ∙ or_left (nat_eq x u) (has (filter f xs) u) at)
    (λ n. by (f x) (has_filtered f xs u n on))
  where
    by : (b : Bool) → has (filter f xs) u ≡ true → has (cond b (x ∷ filter f xs) (filter f xs)) u ≡ true
    by true h = or_right (nat_eq x u) (has (filter f xs) u) h
    by false h = h

pub as_many : (f : ℕ → Bool) (xs ys : List ℕ) → AreOnce xs → AreOnce ys → ((u : ℕ) → has xs u ≡ true → has ys u ≡ true) → ((u : ℕ) → has ys u ≡ true → has xs u ≡ true) → length (filter f xs) ≡ length (filter f ys)
as_many f xs ys a b forth back =
    let up = shorter_once (filter f xs) (filter f ys) (once_filter f xs a) (λ u m. let h = filter_has f xs u m in has_filtered f ys u (forth u h.0) h.1) in
    let down = shorter_once (filter f ys) (filter f xs) (once_filter f ys b) (λ u m. let h = filter_has f ys u m in has_filtered f xs u (back u h.0) h.1) in
    omega (arith, up, down)

pub fewer : (f : ℕ → Bool) (xs ys : List ℕ) → AreOnce xs → ((u : ℕ) → has xs u ≡ true → has ys u ≡ true) → length (filter f xs) ≤ length (filter f ys)
fewer f xs ys a forth = shorter_once (filter f xs) (filter f ys) (once_filter f xs a) (λ u m. let h = filter_has f xs u m in has_filtered f ys u (forth u h.0) h.1)

-- values of tasks of which none is left
off_by : (b : Bool) (x : ℕ) (xs : List ℕ) (vs : List (Option ℕ)) → vs ≡ replicate (length xs) None → cond b (None ∷ vs) vs ≡ replicate (length (cond b (x ∷ xs) xs)) None
off_by true x xs vs e = ap (λ (ws : List (Option ℕ)). None ∷ ws) e
off_by false x xs vs e = e

values_off : (here left : ℕ → Bool) (held : List ℕ → ℕ) (front xs : List ℕ) → ((u : ℕ) → has xs u ≡ true → left u ≡ false) → values here left held front xs ≡ replicate (length (filter here xs)) None
values_off here left held front [] off = refl
values_off here left held front (x ∷ xs) off =
    ap (λ (b : Bool). cond (here x) (value b (held (cond b (front ++ x ∷ []) front)) ∷ values here left held (cond b (front ++ x ∷ []) front) xs) (values here left held (cond b (front ++ x ∷ []) front) xs)) (off x (has_head x xs))
    ∙ off_by (here x) x (filter here xs) (values here left held front xs) (values_off here left held front xs (λ u m. off u (or_right (nat_eq x u) (has xs u) m)))

filter_off : (f : ℕ → Bool) (xs : List ℕ) → ((u : ℕ) → has xs u ≡ true → f u ≡ false) → filter f xs ≡ []
filter_off f [] off = refl
filter_off f (x ∷ xs) off = ap (λ (b : Bool). cond b (x ∷ filter f xs) (filter f xs)) (off x (has_head x xs)) ∙ filter_off f xs (λ u m. off u (or_right (nat_eq x u) (has xs u) m))

append_none : (xs : List ℕ) → xs ++ [] ≡ xs
append_none [] = refl
append_none (x ∷ xs) = ap (λ (ys : List ℕ). x ∷ ys) (append_none xs)

-- the values of the new line are those of the fresh order, in as many positions as there were
pub line_values : (p : Plan) (size : ℕ → ℕ) (left : ℕ → Bool) (n q : ℕ) (ts : List ℕ) (vs : List (Option ℕ)) → ((u : ℕ) → left u ≡ has ts u) → length vs ≡ length (filter (there p q) (renewed_line n ts))
    → renewed_values p size ts q vs ≡ values (there p q) left (held_by p size q) [] (renewed_line n ts)
line_values p size left n q ts vs is long =
    ap (λ (m : ℕ). values (there p q) all_left (held_by p size q) [] ts ++ replicate m None) many
    ∙ ap (λ (ws : List (Option ℕ)). ws ++ replicate (length (filter (there p q) (below n (λ u. not (has ts u))))) None) (sym (values_same (there p q) left all_left (held_by p size q) [] ts (same_on left ts (λ x m. is x ∙ m))))
    ∙ ap (λ (ws : List (Option ℕ)). values (there p q) left (held_by p size q) [] ts ++ ws) (sym (values_off (there p q) left (held_by p size q) ([] ++ filter left ts) (below n (λ u. not (has ts u))) (λ u m. is u ∙ not_off (has ts u) (below_test n (λ v. not (has ts v)) u m))))
    ∙ sym (values_append (there p q) left (held_by p size q) [] ts (below n (λ u. not (has ts u))))
  where
    many : length vs - length (values (there p q) all_left (held_by p size q) [] ts) ≡ length (filter (there p q) (below n (λ u. not (has ts u))))
    many =
        let all = values_long (there p q) all_left (held_by p size q) [] ts in
        let parts = ap length (filter_both (there p q) ts (below n (λ u. not (has ts u)))) in
        let sum = length-append (filter (there p q) ts) (filter (there p q) (below n (λ u. not (has ts u)))) in
        omega (arith, all, parts, sum, long)

pub line_left : (left : ℕ → Bool) (n : ℕ) (ts : List ℕ) → ((u : ℕ) → left u ≡ has ts u) → filter left (renewed_line n ts) ≡ ts
line_left left n ts is =
    filter_both left ts (below n (λ u. not (has ts u)))
    ∙ ap (λ (zs : List ℕ). filter left ts ++ zs) (filter_off left (below n (λ u. not (has ts u))) (λ u m. is u ∙ not_off (has ts u) (below_test n (λ v. not (has ts v)) u m)))
    ∙ append_none (filter left ts)
    ∙ filter_same left all_left ts (same_on left ts (λ x m. is x ∙ m)) ∙ filter_all ts

-- The seats of a line that is new.
pub seats_start : (p : Plan) (line seats widths : List ℕ) (m k : ℕ) → length seats ≡ count_tasks p → m ≡ places p → k ≡ 0 → widths ≡ replicate m 0 → AreSeats p line seats widths k
seats_start p line seats widths m k long e z is = record {
  seats_long = long;
  widths_long = ap length is ∙ length-replicate m 0 ∙ e;
  width = λ q l. ap (λ (ws : List ℕ). get_or ws q 0) is ∙ zeros m q ∙ sym (ap (λ (j : ℕ). length (filter (there p q) (take j line))) z ∙ none line q);
  seat = λ j q l at. absurd (omega (arith, l, z));
}
  where
    zeros : (n q : ℕ) → get_or (replicate n zero) q zero ≡ zero
    zeros zero q = refl
    zeros (suc n) zero = refl
    zeros (suc n) (suc q) = zeros n q

    none : (xs : List ℕ) (q : ℕ) → length (filter (there p q) (take 0 xs)) ≡ 0
    none [] q = refl
    none (x ∷ xs) q = refl

-- What a Regrant finds: no task waits again, the one that begins stands in the line, and the fresh order fits.
no_stack : (p : Plan) (s : State) (b : Peaks) → AreBehind p s b (stack_of b) → s.failing ≡ false → HasNoChoice p s → stack_of b ≡ []
no_stack p s b behind unfailed none = by (stack_of b) refl
  where
    by : (us : List ℕ) → stack_of b ≡ us → stack_of b ≡ []
    by [] e = e
    by (u ∷ us) e = absurd (let head = subst (AreBehind p s b) e behind in none u (first_is_choice p s u (us ++ filter (left_of b) (line_of b)) head.rules.laws head.sound unfailed head.rest (head.waiting u (has_head u us))))

empty_stack : (p : Plan) (s : State) (b : Peaks) (w t : ℕ) → AreTied p s b → Allowed p s (Regrant w t) → stack_of b ≡ []
empty_stack p s b w t tied allowed = no_stack p s b tied.behind allowed.1.no_fail allowed.1.no_choice

pub peaks_then : (p : Plan) (s : State) (b : Peaks) (w t : ℕ) → AreTied p s b → Allowed p s (Regrant w t) → ArePeaks p s b
peaks_then p s b w t tied allowed = subst (AreBehind p s b) (empty_stack p s b w t tied allowed) tied.behind

pub fits_then : (p : Plan) (s : State) (w t : ℕ) (ts : List ℕ) → HasStorageLaws p → IsSoundState p s → Allowed p s (Regrant w t) → order_with p s t ≡ Some ts → Fits p (put s.phase t Runs) (reserved_for p t s.held) ts
fits_then p s w t ts laws sound allowed order =
    subst (Fits p (put s.phase t Runs) (reserved_for p t s.held)) (ap (λ (o : Option (List ℕ)). order_or o s.rest) order) (sound_more p s (Regrant w t) laws sound allowed).safe

in_rest : (p : Plan) (s : State) (w t : ℕ) → Allowed p s (Regrant w t) → has s.rest t ≡ true
in_rest p s w t allowed = (fresh_among p s 4 s.rest t allowed.1.among).2

candidate : (p : Plan) (s : State) (w t : ℕ) → Allowed p s (Regrant w t) → IsCandidate p s t
candidate p s w t allowed = (fresh_among p s 4 s.rest t allowed.1.among).0

begun_at : (p : Plan) (s : State) (b : Peaks) (k q : ℕ) → ArePeaks p s b → k < length (line_of b) → left_of b (get_or (line_of b) k 0) ≡ true → has s.rest (get_or (line_of b) k 0) ≡ true → is_clean p (get_or (line_of b) k 0) ≡ false → HaveParentsEnded p s (get_or (line_of b) k 0) → q < places p
    → cond (is_place q (place p (get_or (line_of b) k 0))) (get_or b.base.items q 0 + get_or b.needs.items (get_or (line_of b) k 0) 0) (get_or b.base.items q 0) ≡ usage p (sizes (reserved_for p (get_or (line_of b) k 0) s.held)) [] q
begun_at p s b k q peaks l on inside kind ended low = by (is_place q (place p (get_or (line_of b) k 0))) refl
  where
    spot : IsSpot p s (left_of b) (take k (line_of b)) (get_or (line_of b) k 0) (drop (suc k) (line_of b))
    spot = spot_of p s b k peaks l on (open_none p s b [] peaks (get_or (line_of b) k 0) inside ended) kind

    by : (c : Bool) → is_place q (place p (get_or (line_of b) k 0)) ≡ c → cond c (get_or b.base.items q 0 + get_or b.needs.items (get_or (line_of b) k 0) 0) (get_or b.base.items q 0) ≡ usage p (sizes (reserved_for p (get_or (line_of b) k 0) s.held)) [] q
    by true e =
        let holds = then_holds p s (left_of b) (take k (line_of b)) (get_or (line_of b) k 0) (drop (suc k) (line_of b)) q 0 spot low in
        let base = peaks.bases q low in
        let need = peaks.needs (get_or (line_of b) k 0) q inside kind (is_there q (place p (get_or (line_of b) k 0)) e) in
        omega (arith, holds, base, need)
    by false e = peaks.bases q low ∙ sym (then_same p s (left_of b) (take k (line_of b)) (get_or (line_of b) k 0) (drop (suc k) (line_of b)) q 0 spot low (not_there q (place p (get_or (line_of b) k 0)) e))

pub begun_base : (p : Plan) (s : State) (b : Peaks) (w t q : ℕ) → ArePeaks p s b → Allowed p s (Regrant w t) → q < places p
    → cond (is_place q (get_or b.seating.homes.items t None)) (get_or b.base.items q 0 + get_or b.needs.items t 0) (get_or b.base.items q 0) ≡ usage p (sizes (reserved_for p t s.held)) [] q
begun_base p s b w t q peaks allowed low =
    let inside = in_rest p s w t allowed in
    let can = candidate p s w t allowed in
    let k = in_line p s b t peaks inside in
    ap (λ (o : Option ℕ). cond (is_place q o) (get_or b.base.items q 0 + get_or b.needs.items t 0) (get_or b.base.items q 0)) (peaks.seated.homes t (peaks.sound.safe.tasks t inside))
    ∙ subst (λ (n : ℕ). left_of b n ≡ true → has s.rest n ≡ true → is_clean p n ≡ false → HaveParentsEnded p s n → cond (is_place q (place p n)) (get_or b.base.items q 0 + get_or b.needs.items n 0) (get_or b.base.items q 0) ≡ usage p (sizes (reserved_for p n s.held)) [] q) k.is
    (λ on m kind ended. begun_at p s b k.at q peaks k.within on m kind ended low) k.left inside can.no_clean can.parents_ended

pub begun_room : (p : Plan) (s : State) (b : Peaks) (w t q : ℕ) → IsWithinLimits p → SumsAreSmall p → AreTied p s b → Allowed p s (Regrant w t) → get_or b.seating.homes.items t None ≡ Some q → CanHold b.base.items q (get_or b.needs.items t 0)
begun_room p s b w t q limits sums tied allowed home = record {
  base_in = let long = peaks.bases_long in omega (arith, long, low);
  base_small = let is = begun_base p s b w t q peaks allowed low in
      let on : cond (is_place q (get_or b.seating.homes.items t None)) (get_or b.base.items q 0 + get_or b.needs.items t 0) (get_or b.base.items q 0) ≡ get_or b.base.items q 0 + get_or b.needs.items t 0 = ap (λ (o : Bool). cond o (get_or b.base.items q 0 + get_or b.needs.items t 0) (get_or b.base.items q 0)) (placed_there q (get_or b.seating.homes.items t None) home) in
      let few = sums (sizes (reserved_for p t s.held)) [] q (λ g. started_small p t s.held g (2 ^ 40) (peaks.sound.small g) (good_small p g limits)) in
      omega (arith, is, on, few);
}
  where
    peaks : ArePeaks p s b
    peaks = peaks_then p s b w t tied allowed

    low : q < places p
    low = peaks.rules.one.place_below t q (sym (peaks.seated.homes t (peaks.sound.safe.tasks t (in_rest p s w t allowed))) ∙ home)

needs_then : (p : Plan) (s : State) (b : Peaks) (w t u q : ℕ) (ts : List ℕ) → ArePeaks p s b → Allowed p s (Regrant w t) → order_with p s t ≡ Some ts → has ts u ≡ true → is_clean p u ≡ false → place p u ≡ Some q
    → get_or b.needs.items u 0 ≡ brings p (sizes (reserved_for p t s.held)) q u
needs_then p s b w t u q ts peaks allowed order m kind at =
    peaks.needs u q (peaks.sound.all_left u (fits.tasks u m) (is_waiting (s.phase u) was)) kind at
    ∙ sym (brings_same p s.held t u q (λ g n. false_of (has (makes p t) g) (λ j. absurd (let same : t ≡ u = peaks.rules.laws.one_maker t u g j n in let no = off in let yes : nat_eq t u ≡ true = grind (arith, same) in cc))))
  where
    fits : Fits p (put s.phase t Runs) (reserved_for p t s.held) ts
    fits = fits_then p s w t ts peaks.rules.laws peaks.sound allowed order

    split : (b : Bool) → nat_eq t u ≡ b → waits (cond b Runs (s.phase u)) ≡ true → (nat_eq t u ≡ false) × (waits (s.phase u) ≡ true)
    split true e h = absurd cc
    split false e h = (e, h)

    parts : (nat_eq t u ≡ false) × (waits (s.phase u) ≡ true)
    parts = split (nat_eq t u) refl (fits.waiting u m)

    off : nat_eq t u ≡ false
    off = parts.0

    was : waits (s.phase u) ≡ true
    was = parts.1

sizes_shown : (p : Plan) (standing : Standing) (s : State) (w t : ℕ) → IsShown p standing (after p s (Regrant w t)) → sizes (held_of standing) ≡ sizes (reserved_for p t s.held)
sizes_shown p standing s w t shown = fun_ext (λ g. ap held_size (shown.held g))

pub walk_of : (p : Plan) (old : Peaks) (base : List ℕ) (standing : Standing) (t : ℕ) (ts : List ℕ) → IsWithinLimits p → CanRenew p old standing t ts
    → ((q : ℕ) → get_or base q 0 ≡ cond (is_place q (get_or old.seating.homes.items t None)) (get_or old.base.items q 0 + get_or old.needs.items t 0) (get_or old.base.items q 0))
    → CanWalk p old.seating.homes.items old.needs.items base standing ts
walk_of p old base standing t ts limits can is = record {
  limits = limits;
  rules = peaks.rules;
  standing = can.shown.standing;
  small = λ g. let few = (sound_more p can.state (Regrant can.worker t) peaks.rules.laws peaks.sound can.allowed).small g in let same = ap (λ (f : ℕ → ℕ). f g) size in omega (arith, few, same);
  follows = subst (λ (f : ℕ → Phase). Follows p f ts) (sym (fun_ext can.shown.phase)) (follows_of p (put can.state.phase t Runs) (reserved_for p t can.state.held) ts
      (fits_then p can.state can.worker t ts peaks.rules.laws peaks.sound can.allowed can.order));
  homes = peaks.seated.homes;
  needs = λ u q m kind at. needs_then p can.state old can.worker t u q ts peaks can.allowed can.order m kind at ∙ ap (λ (f : ℕ → ℕ). brings p f q u) (sym size);
  bases = λ q l. is q ∙ begun_base p can.state old can.worker t q peaks can.allowed l ∙ ap (λ (f : ℕ → ℕ). usage p f [] q) (sym size);
}
  where
    peaks : ArePeaks p can.state old
    peaks = peaks_then p can.state old can.worker t can.tied can.allowed

    size : sizes (held_of standing) ≡ sizes (reserved_for p t can.state.held)
    size = sizes_shown p standing can.state can.worker t can.shown

-- the order of a Regrant has tasks of the plan alone, each once
pub order_once : (p : Plan) (b : Peaks) (standing : Standing) (t : ℕ) (ts : List ℕ) → CanRenew p b standing t ts → AreOnce ts × ((u : ℕ) → has ts u ≡ true → u < count_tasks p)
order_once p b standing t ts can =
    let fits = fits_then p can.state can.worker t ts can.tied.behind.rules.laws can.tied.behind.sound can.allowed can.order in
    (fits.once, fits.tasks)

-- each tree has room for the tasks of the order that change its place
pub wide_of : (p : Plan) (old : Peaks) (standing : Standing) (t : ℕ) (ts : List ℕ) → CanRenew p old standing t ts → (q : ℕ) → q < places p → length (filter (there p q) ts) ≤ length (get_or old.trees.items q [])
wide_of p old standing t ts can q l =
    let once = order_once p old standing t ts can in
    let behind = can.tied.behind in
    let fewer_there = fewer (there p q) ts (line_of old) once.0 (λ u m. behind.seated.all u (once.1 u m)) in
    let tree = ap length (behind.trees q l) ∙ values_long (there p q) (left_of old) (held_by p (sizes can.state.held) q) (stack_of old) (line_of old) in
    omega (arith, fewer_there, tree)

-- the line has as many tasks as the plan
below_all : (n : ℕ) → length (below n (λ u. true)) ≡ n
unfolding below
below_all zero = refl
below_all (suc n) = let less = below_all n in let sum = length-append (below n (λ u. true)) (n ∷ []) in omega (arith, less, sum)

pub line_exact : (n : ℕ) (xs : List ℕ) → AreOnce xs → ((u : ℕ) → has xs u ≡ true → u < n) → ((u : ℕ) → u < n → has xs u ≡ true) → length xs ≡ n
line_exact n xs once low all =
    let few = few_once n xs once low in
    let more = shorter_once (below n (λ u. true)) xs (rises_once 0 (below n (λ u. true)) (below_rises n (λ u. true))) (λ u m. all u (below_low n (λ v. true) u m)) in
    let long = below_all n in
    omega (arith, few, more, long)

filter_mapped : (h : ℕ → ℕ) (g : ℕ) (xs : List ℕ) → length (filter (λ x. nat_eq x g) (map h xs)) ≡ length (filter (λ t. nat_eq (h t) g) xs)
filter_mapped h g [] = refl
filter_mapped h g (x ∷ xs) = by (nat_eq (h x) g) (filter_mapped h g xs)
  where
    by : (b : Bool) → length (filter (λ x. nat_eq x g) (map h xs)) ≡ length (filter (λ t. nat_eq (h t) g) xs) → length (cond b (h x ∷ filter (λ x. nat_eq x g) (map h xs)) (filter (λ x. nat_eq x g) (map h xs))) ≡ length (cond b (x ∷ filter (λ t. nat_eq (h t) g) xs) (filter (λ t. nat_eq (h t) g) xs))
    by true e = ap (λ (n : ℕ). suc n) e
    by false e = e

-- two lines of the same tasks have each group as often
pub groups_many : (last count : ℕ) (homes : List (Option ℕ)) (xs ys groups : List ℕ) → AreOnce xs → AreOnce ys → ((u : ℕ) → has xs u ≡ true → has ys u ≡ true) → ((u : ℕ) → has ys u ≡ true → has xs u ≡ true)
    → groups ≡ groups_of last homes ys → AreAsMany count (groups_of last homes xs) groups
groups_many last count homes xs ys groups once_x once_y to_y to_x is g l =
    whole xs ∙ as_many (λ t. nat_eq (group_of last (get_or homes t None)) g) xs ys once_x once_y to_y to_x ∙ sym (whole ys) ∙ ap (λ (gs : List ℕ). count_before gs g (length gs)) (sym is)
  where
    whole : (zs : List ℕ) → count_before (groups_of last homes zs) g (length (groups_of last homes zs)) ≡ length (filter (λ t. nat_eq (group_of last (get_or homes t None)) g) zs)
    whole zs = ap (λ (ns : List ℕ). length (filter (λ h. nat_eq h g) ns)) (take_past (groups_of last homes zs) (length (groups_of last homes zs)) (omega arith)) ∙ filter_mapped (λ t. group_of last (get_or homes t None)) g zs

pub seating_long : (p : Plan) (x : Seating) → IsSeating p x → length (task_numbers x.line.items) ≡ count_tasks p
seating_long p x seated = line_exact (count_tasks p) (task_numbers x.line.items) seated.once seated.in_plan seated.all

pub seating_low : (p : Plan) (x : Seating) → ChangesOnePlace p → IsSeating p x → (t q : ℕ) → t < count_tasks p → get_or x.homes.items t None ≡ Some q → q < places p
seating_low p x one seated t q l home = one.place_below t q (sym (seated.homes t l) ∙ home)

-- an index of another line of the same tasks has each group as often
pub was_grouped : (p : Plan) (x : Seating) (r : Ready) → IsSeating p x → WasGrouped p x r
    → (length r.groups.items ≡ length (task_numbers x.line.items)) × (length r.index.groups.items ≡ length (task_numbers x.line.items)) × AreAsMany (places p + 1) (groups_of (places p) x.homes.items (task_numbers x.line.items)) r.index.groups.items
was_grouped p x r seated was = (
  was.grouped.groups_long ∙ same,
  ap length was.grouped.groups ∙ length-map (task_numbers was.before.line.items) (λ t. group_of (places p) (get_or was.before.homes.items t None)) ∙ same,
  groups_many (places p) (places p + 1) x.homes.items (task_numbers x.line.items) (task_numbers was.before.line.items) r.index.groups.items seated.once was.seated.once
      (λ u m. was.seated.all u (seated.in_plan u m)) (λ u m. seated.all u (was.seated.in_plan u m))
      (was.grouped.groups ∙ ap (λ (hs : List (Option ℕ)). groups_of (places p) hs (task_numbers was.before.line.items)) (sym was.homes)),
)
  where
    same : length (task_numbers was.before.line.items) ≡ length (task_numbers x.line.items)
    same = seating_long p was.before was.seated ∙ sym (seating_long p x seated)

-- the line of a fresh order has its places as before
pub laid_of : (p : Plan) (old new : Seating) (ts : List ℕ) → IsSeating p old → AreOnce ts → ((u : ℕ) → has ts u ≡ true → u < count_tasks p) → new.homes.items ≡ old.homes.items → task_numbers new.line.items ≡ renewed_line (count_tasks p) ts
    → AreSeats p (task_numbers new.line.items) new.seats.items new.widths.items (length (task_numbers new.line.items)) → IsLaid p old new ts
laid_of p old new ts seated once low homes line counted = record {
  line = line;
  homes = homes;
  seated = record {
    once = subst AreOnce (sym line) (line_once (count_tasks p) ts once);
    in_plan = λ u m. line_low (count_tasks p) ts low u (ap (λ (zs : List ℕ). has zs u) (sym line) ∙ m);
    all = λ u l. ap (λ (zs : List ℕ). has zs u) line ∙ line_all (count_tasks p) ts u l;
    homes = λ u l. ap (λ (v : List (Option ℕ)). get_or v u None) homes ∙ seated.homes u l;
    counted = counted;
  };
}

-- A fresh order keeps what the trees say.
pub renewed_tied : (p : Plan) (s : State) (old new : Peaks) (standing : Standing) (w t : ℕ) (ts : List ℕ) → AreTied p s old → Allowed p s (Regrant w t) → order_with p s t ≡ Some ts → IsShown p standing (after p s (Regrant w t))
    → IsRenewed p (sizes (held_of standing)) old new t ts → HaveTrees p (after p s (Regrant w t)) new
renewed_tied p s old new standing w t ts tied allowed order shown is = record {
  behind = subst (AreBehind p (after p s (Regrant w t)) new) (sym (ap stack_of is.same ∙ empty_stack p s old w t tied allowed))
      (subst (λ (b : Peaks). ArePeaks p (after p s (Regrant w t)) b) (sym is.same) then_behind);
  whole = (subst (HasStackRoom p) (sym is.same) tied.whole.0, subst HasPassed (sym is.same) (none_passed (left_of new) (line_of new)));
}
  where
    peaks : ArePeaks p s old
    peaks = peaks_then p s old w t tied allowed

    fits : Fits p (put s.phase t Runs) (reserved_for p t s.held) ts
    fits = fits_then p s w t ts peaks.rules.laws peaks.sound allowed order

    size : sizes (held_of standing) ≡ sizes (reserved_for p t s.held)
    size = sizes_shown p standing s w t shown

    rest_is : order_or (order_with p s t) s.rest ≡ ts
    rest_is = ap (λ (o : Option (List ℕ)). order_or o s.rest) order

    long : (q : ℕ) → q < places p → length (get_or old.trees.items q []) ≡ length (filter (there p q) (renewed_line (count_tasks p) ts))
    long q l =
        ap length (peaks.trees q l)
        ∙ values_long (there p q) (left_of old) (held_by p (sizes s.held) q) [] (line_of old)
        ∙ as_many (there p q) (line_of old) (renewed_line (count_tasks p) ts) peaks.seated.once (line_once (count_tasks p) ts fits.once) (λ u m. line_all (count_tasks p) ts u (peaks.seated.in_plan u m)) (λ u m. tied.behind.seated.all u (line_low (count_tasks p) ts fits.tasks u m))

    then_behind : ArePeaks p (after p s (Regrant w t)) (record old { seating = new.seating; left = new.left; first = 0; base = new.base; trees = new.trees })
    then_behind = record {
      rules = peaks.rules;
      sound = sound_more p s (Regrant w t) peaks.rules.laws peaks.sound allowed;
      seated = is.laid.seated;
      marked = λ u on. ap (λ (zs : List ℕ). has zs u) is.laid.line ∙ list_any-append (λ y. nat_eq y u) ts (below (count_tasks p) (λ v. not (has ts v))) ∙ or_left (has ts u) (has (below (count_tasks p) (λ v. not (has ts v))) u) (sym (is.left u) ∙ on);
      marks_long = is.marks_long;
      bases_long = is.bases_long ∙ peaks.bases_long;
      trees_long = is.trees_long ∙ peaks.trees_long;
      rest = rest_is ∙ sym (ap (filter (left_of new)) is.laid.line ∙ line_left (left_of new) (count_tasks p) ts is.left);
      waiting = λ u m. absurd cc;
      needs = λ u q m kind at. needs_then p s old w t u q ts peaks allowed order (ap (λ (zs : List ℕ). has zs u) (sym rest_is) ∙ m) kind at;
      missing_long = peaks.missing_long;
      counts = λ u low. peaks.counts u low ∙ counts_run s.phase t (parents p u) (peaks.sound.safe.waiting t (in_rest p s w t allowed));
      bases = λ q l. is.base q ∙ begun_base p s old w t q peaks allowed l;
      trees = λ q l. is.trees q l ∙ line_values p (sizes (held_of standing)) (left_of new) (count_tasks p) q ts (get_or old.trees.items q []) is.left (long q l)
          ∙ ap (λ (f : ℕ → ℕ). values (there p q) (left_of new) (held_by p f q) [] (renewed_line (count_tasks p) ts)) size
          ∙ ap (values (there p q) (left_of new) (held_by p (sizes (reserved_for p t s.held)) q) []) (sym is.laid.line);
    }

-- a task that cleans nothing is no Clean
pub no_clean : (p : Plan) (t : ℕ) → ((g : ℕ) → cleans p t g ≡ false) → is_clean p t ≡ false
no_clean p t off = false_of (is_clean p t) (λ e. absurd (let g = cleaned_good p t e in let no = off g.0 in let yes = g.1 g.0 ∙ is_itself g.0 in cc))

-- of the task at a position of a walk: its place, and what it brings
pub there_same : (p : Plan) (homes : List (Option ℕ)) (needs base : List ℕ) (standing : Standing) (ts : List ℕ) (k q t : ℕ) → CanWalk p homes needs base standing ts → k < length ts → t ≡ get_or ts k 0 → is_place q (get_or homes t None) ≡ is_place q (place p (get_or ts k 0))
there_same p homes needs base standing ts k q t walk l is = ap (is_place q) (ap (λ (n : ℕ). get_or homes n None) is ∙ walk.homes (get_or ts k 0) (walk.follows.tasks (get_or ts k 0) (at_place ts k l)))

pub walk_need : (p : Plan) (homes : List (Option ℕ)) (needs base : List ℕ) (standing : Standing) (ts : List ℕ) (k q t : ℕ) → CanWalk p homes needs base standing ts → k < length ts → t ≡ get_or ts k 0 → is_place q (get_or homes t None) ≡ true → is_clean p (get_or ts k 0) ≡ false
    → get_or needs t 0 ≡ brings p (sizes (held_of standing)) q (get_or ts k 0)
walk_need p homes needs base standing ts k q t walk l is on kind =
    ap (λ (n : ℕ). get_or needs n 0) is
    ∙ walk.needs (get_or ts k 0) q (at_place ts k l) kind (is_there q (place p (get_or ts k 0)) (sym (there_same p homes needs base standing ts k q t walk l is) ∙ on))

-- one task more of the line, where it has no mark
pub added_none : (marks : List Bool) (line : List TaskId) (t : ℕ) → is_left marks t ≡ true → task_numbers line ≡ task_numbers line ++ cond (not (is_left marks t)) (t ∷ []) []
added_none marks line t on = sym (ap (λ (b : Bool). task_numbers line ++ cond (not b) (t ∷ []) []) on ∙ append_none (task_numbers line))

pub added_one : (marks : List Bool) (line new : List TaskId) (t : ℕ) → is_left marks t ≡ false → new ≡ line ++ (record { 0 = t }) ∷ [] → task_numbers new ≡ task_numbers line ++ cond (not (is_left marks t)) (t ∷ []) []
added_one marks line new t off is = ap task_numbers is ∙ numbers_last line (record { 0 = t }) ∙ sym (ap (λ (b : Bool). task_numbers line ++ cond (not b) (t ∷ []) []) off)

-- the tasks without a mark that were added so far
pub others_first : (marks : List Bool) (line : List TaskId) → task_numbers line ≡ task_numbers line ++ below 0 (λ u. not (is_left marks u))
unfolding below
others_first marks line = sym (append_none (task_numbers line))

pub others_more : (marks : List Bool) (line mid new : List TaskId) (t : ℕ) → task_numbers mid ≡ task_numbers line ++ below t (λ u. not (is_left marks u)) → task_numbers new ≡ task_numbers mid ++ cond (not (is_left marks t)) (t ∷ []) []
    → task_numbers new ≡ task_numbers line ++ below (t + 1) (λ u. not (is_left marks u))
others_more marks line mid new t so_far is =
    is
    ∙ ap (λ (xs : List ℕ). xs ++ cond (not (is_left marks t)) (t ∷ []) []) so_far
    ∙ append_assoc (task_numbers line) (below t (λ u. not (is_left marks u))) (cond (not (is_left marks t)) (t ∷ []) [])
    ∙ ap (λ (xs : List ℕ). task_numbers line ++ xs) (sym (below_more t (λ u. not (is_left marks u))))

pub others_end : (marks : List Bool) (line mid : List TaskId) (t : ℕ) → t ≡ length marks → task_numbers mid ≡ task_numbers line ++ below t (λ u. not (is_left marks u)) → task_numbers mid ≡ task_numbers line ++ below (length marks) (λ u. not (is_left marks u))
others_end marks line mid t end so_far = so_far ∙ ap (λ (n : ℕ). task_numbers line ++ below n (λ u. not (is_left marks u))) end

pub others_room : (marks : List Bool) (line mid : List TaskId) (t old new : ℕ) → t < length marks → is_left marks t ≡ false → task_numbers mid ≡ task_numbers line ++ below t (λ u. not (is_left marks u))
    → length line + length (below (length marks) (λ u. not (is_left marks u))) ≤ old → new ≡ old → length mid < new
others_room marks line mid t old new l off so_far room same =
    let long = ap length so_far in
    let sum = length-append (task_numbers line) (below t (λ u. not (is_left marks u))) in
    let first = count_tasks_in line in
    let now = count_tasks_in mid in
    let more = ap length (below_more t (λ u. not (is_left marks u))) in
    let parts = length-append (below t (λ u. not (is_left marks u))) (cond (not (is_left marks t)) (t ∷ []) []) in
    let one : length (cond (not (is_left marks t)) (t ∷ []) []) ≡ 1 = ap (λ (b : Bool). length (cond (not b) (t ∷ []) [])) off in
    let less = below_less (length marks) (λ u. not (is_left marks u)) (t + 1) (omega (arith, l)) in
    omega (arith, long, sum, first, now, more, parts, one, less, room, same)

-- the marks before the first task, and after the last
pub marked_first : (n : ℕ) (marks : List Bool) (ts : List ℕ) (k : ℕ) → k ≡ 0 → marks ≡ replicate n false → (u : ℕ) → is_left marks u ≡ has (take k ts) u
marked_first n marks ts k z none u = ap (λ (bs : List Bool). get_or bs u false) none ∙ none_marked n u ∙ sym (ap (λ (i : ℕ). has (take i ts) u) z ∙ start ts)
  where
    start : (xs : List ℕ) → has (take 0 xs) u ≡ false
    start [] = refl
    start (x ∷ xs) = refl

pub marked_last : (marks : List Bool) (ts : List ℕ) (k : ℕ) → k ≡ length ts → ((u : ℕ) → is_left marks u ≡ has (take k ts) u) → (u : ℕ) → is_left marks u ≡ has ts u
marked_last marks ts k end so_far u = so_far u ∙ ap (λ (xs : List ℕ). has xs u) (take_past ts k (omega (arith, end)))

-- the line that is made: its tasks, and that there is room for it
pub line_is : (n : ℕ) (marks : List Bool) (ts line : List ℕ) → length marks ≡ n → ((u : ℕ) → is_left marks u ≡ has ts u) → line ≡ ts ++ below (length marks) (λ u. not (is_left marks u)) → line ≡ renewed_line n ts
line_is n marks ts line long each is =
    is ∙ ap (λ (m : ℕ). ts ++ below m (λ u. not (is_left marks u))) long ∙ ap (λ (f : ℕ → Bool). ts ++ below n (λ u. not (f u))) (fun_ext each)

pub line_room : (n : ℕ) (marks : List Bool) (ts : List ℕ) → length marks ≡ n → ((u : ℕ) → is_left marks u ≡ has ts u) → AreOnce ts → ((u : ℕ) → has ts u ≡ true → u < n) → length ts + length (below (length marks) (λ u. not (is_left marks u))) ≤ n
line_room n marks ts long each once low =
    let few = line_few n ts once low in
    let same = ap (λ (m : ℕ). length (below m (λ u. not (is_left marks u)))) long ∙ ap (λ (f : ℕ → Bool). length (below n (λ u. not (f u)))) (fun_ext each) in
    omega (arith, few, same)

-- one tree more
pub refill_more : (p : Plan) (size : ℕ → ℕ) (ts levels : List ℕ) (k : ℕ) (old mid new : ℕ → List (Option ℕ)) → ((q : ℕ) → new q ≡ cond (nat_eq k q) (filled levels (length (mid k))) (mid q)) → map Some levels ≡ values (there p k) all_left (held_by p size k) [] ts
    → ((q : ℕ) → q < k → mid q ≡ renewed_values p size ts q (old q)) → ((q : ℕ) → k ≤ q → mid q ≡ old q) → (q : ℕ) → q < k + 1 → new q ≡ renewed_values p size ts q (old q)
refill_more p size ts levels k old mid new each is done others q l = each q ∙ by (nat_eq k q) refl
  where
    by : (b : Bool) → nat_eq k q ≡ b → cond b (filled levels (length (mid k))) (mid q) ≡ renewed_values p size ts q (old q)
    by true e =
        renewed_is p size ts levels k (mid k) is
        ∙ ap (renewed_values p size ts k) (others k (omega arith))
        ∙ ap (λ (n : ℕ). renewed_values p size ts n (old n)) (eqb-true k q e)
    by false e = done q (let off = eqb-false k q e in omega (arith, off, l))

pub refill_rest : (k : ℕ) (now : List (Option ℕ)) (old mid new : ℕ → List (Option ℕ)) → ((q : ℕ) → new q ≡ cond (nat_eq k q) now (mid q)) → ((q : ℕ) → k ≤ q → mid q ≡ old q) → (q : ℕ) → k + 1 ≤ q → new q ≡ old q
refill_rest k now old mid new each others q l = each q ∙ ap (λ (b : Bool). cond b now (mid q)) (false_of (nat_eq k q) (λ e. absurd (let same = eqb-true k q e in omega (arith, same, l)))) ∙ others q (omega (arith, l))

-- the line that is made for a fresh order
pub new_line : (n : ℕ) (marks slice : List Bool) (tasks over new : List TaskId) → length marks ≡ n → ((u : ℕ) → is_left marks u ≡ has (task_numbers tasks) u) → slice ≡ marks → over ≡ tasks → task_numbers new ≡ task_numbers over ++ below (length slice) (λ u. not (is_left slice u))
    → task_numbers new ≡ renewed_line n (task_numbers tasks)
new_line n marks slice tasks over new long each same copied is =
    line_is n marks (task_numbers tasks) (task_numbers new) long each
    (is ∙ ap (λ (bs : List Bool). task_numbers over ++ below (length bs) (λ u. not (is_left bs u))) same ∙ ap (λ (xs : List TaskId). task_numbers xs ++ below (length marks) (λ u. not (is_left marks u))) copied)

pub new_room : (n : ℕ) (marks slice : List Bool) (tasks over : List TaskId) → length marks ≡ n → ((u : ℕ) → is_left marks u ≡ has (task_numbers tasks) u) → slice ≡ marks → over ≡ tasks → AreOnce (task_numbers tasks) → ((u : ℕ) → has (task_numbers tasks) u ≡ true → u < n)
    → length over + length (below (length slice) (λ u. not (is_left slice u))) ≤ n
new_room n marks slice tasks over long each same copied once low =
    let few = line_room n marks (task_numbers tasks) long each once low in
    let count = count_tasks_in tasks in
    let first = ap length copied in
    let rest = ap (λ (bs : List Bool). length (below (length bs) (λ u. not (is_left bs u)))) same in
    omega (arith, few, count, first, rest)
