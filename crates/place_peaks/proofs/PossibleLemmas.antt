-- Where trees say what a state is, each call that an allowed entry wants can be made.
use Rattle.std.proofs.Common.{◌≡◌, ℕ, suc, zero, ◌+◌, ◌≤◌, ◌<◌, ◌^◌, Bool, true, false, cond, nat_eq, eqb-true, List, [], ◌∷◌, ◌++◌, length, take, drop, get_or, Some, None, refl, sym, ap, subst, ◌∙◌, arith}
use Rattle.std.specs.Prelude.{filter, vec_capacity}
use Rattle.std.proofs.lemmas.List.Folds.{list_any-append}
use Rattle.place_peaks.proofs.Offered.{count_tasks_in, false_of, few_once, follows_of, good_small, has_head, once_more, once_parts, or_case, or_left}
use Rattle.lease_rules.specs.Choice.{HaveParentsEnded}
use Rattle.lease_rules.specs.State.{State, ended, reserved_for}
use Rattle.plan_core.specs.declared.plan.Plan.{Plan}
use Rattle.plan_core.specs.Numbers.{has}
use Rattle.plan_core.specs.Words.{cleans, count_tasks, is_clean, parents, task_numbers}
use Rattle.storage_simulation.specs.declared.standing.Phase.{Phase}
use Rattle.storage_simulation.specs.code.Change.{held_part}
use Rattle.storage_simulation.specs.Following.{AreOnce}
use Rattle.storage_simulation.specs.code.Following.{Follows}
use Rattle.storage_simulation.specs.code.Goods.{IsWithinLimits, place}
use Rattle.storage_simulation.specs.Goods.{places}
use Rattle.storage_simulation.specs.Standings.{sizes}
use Rattle.storage_simulation.specs.Usage.{sum_of, usage}
use Rattle.place_peaks.specs.declared.peaks.Peaks.{Peaks}
use Rattle.place_peaks.specs.Cleaning.{CanEnd, CanGive}
use Rattle.place_peaks.specs.Granting.{CanHold}
use Rattle.place_peaks.specs.Peaks.{AreBehind, ArePeaks, AreSeated, left_of, line_of, stack_of}
use Rattle.place_peaks.specs.Places.{held_by, there}
use Rattle.place_peaks.specs.Stack.{IsFirstOf, stacked}
use Rattle.place_peaks.specs.Tree.{AllFirst, CanFall}
use Rattle.place_peaks.specs.Values.{values}
use Rattle.place_peaks.specs.Waiting.{CanFree, HasStackRoom}
use Rattle.place_peaks.proofs.ChoosingLemmas.{rest_split, seated, split, there_is}
use Rattle.place_peaks.proofs.CountLemmas.{open_one}
use Rattle.place_peaks.proofs.DecisionLemmas.{no_wait}
use Rattle.place_peaks.proofs.FirstLemmas.{first_brings, first_frees, first_of}
use Rattle.place_peaks.proofs.GrantingLemmas.{SumsAreSmall, started_small}
use Rattle.place_peaks.proofs.UsageLemmas.{sweep_takes}
use Rattle.place_peaks.proofs.ValuesLemmas.{all_before}

-- a task that hasn't ended is open for each child
some_open : (f : ℕ → Phase) (us : List ℕ) (t : ℕ) → has us t ≡ true → ended (f t) ≡ false → 0 < sum_of (open_one f) us
some_open f [] t m off = absurd cc
some_open f (x ∷ xs) t m off = or_case (nat_eq x t) (has xs t) m
    (λ at. let one : cond (ended (f x)) zero 1 ≡ 1 = ap (λ (b : Bool). cond b zero 1) (ap (λ (n : ℕ). ended (f n)) (eqb-true x t at) ∙ off) in omega (arith, one))
    (λ n. let more = some_open f xs t n off in omega (arith, more))

pub can_end : (p : Plan) (s : State) (b : Peaks) (front : List ℕ) (t : ℕ) → AreBehind p s b front → ended (s.phase t) ≡ false → CanEnd p b.missing.items t
can_end p s b front t peaks off = record {
  long = peaks.missing_long;
  open_parent = λ u low m. let some = some_open s.phase (parents p u) t m off in let is = peaks.counts u low in omega (arith, some, is);
}

-- the grant of the first task of rest
pub can_hold : (p : Plan) (s : State) (b : Peaks) (front : List ℕ) (t q : ℕ) → IsWithinLimits p → SumsAreSmall p → AreBehind p s b (t ∷ front) → is_clean p t ≡ false → get_or b.seating.homes.items t None ≡ Some q → CanHold b.base.items q (get_or b.needs.items t 0)
can_hold p s b front t q limits sums peaks kind home = record {
  base_in = let long = peaks.bases_long in omega (arith, long, low);
  base_small =
      let base = peaks.bases q low in
      let need = peaks.needs t q in_rest kind at in
      let holds = first_brings p s t (front ++ filter (left_of b) (line_of b)) q (first_of p s b front t peaks) kind low in
      let few = sums (sizes (reserved_for p t s.held)) [] q (λ g. started_small p t s.held g (2 ^ 40) (peaks.sound.small g) (good_small p g limits)) in
      omega (arith, base, need, holds, few);
}
  where
    in_rest : has s.rest t ≡ true
    in_rest = ap (λ (zs : List ℕ). has zs t) peaks.rest ∙ has_head t (front ++ filter (left_of b) (line_of b))

    at : place p t ≡ Some q
    at = sym (peaks.seated.homes t (peaks.sound.safe.tasks t in_rest)) ∙ home

    low : q < places p
    low = peaks.rules.one.place_below t q at

pub can_hold_first : (p : Plan) (s : State) (b : Peaks) (t q : ℕ) → IsWithinLimits p → SumsAreSmall p → AreBehind p s b (stack_of b) → IsFirstOf (stack_of b) t → is_clean p t ≡ false → get_or b.seating.homes.items t None ≡ Some q → CanHold b.base.items q (get_or b.needs.items t 0)
can_hold_first p s b t q limits sums behind first kind home = can_hold p s b first.0 t q limits sums (subst (AreBehind p s b) first.1 behind) kind home

-- the Clean that is the first task of rest
pub can_free_first : (p : Plan) (s : State) (b : Peaks) (front : List ℕ) (t q g frees : ℕ) → AreBehind p s b (t ∷ front) → is_clean p t ≡ true → ((x : ℕ) → cleans p t x ≡ nat_eq g x)
    → ((r : ℕ) → place p t ≡ Some r → held_part p (sizes s.held) r g ≡ frees) → get_or b.seating.homes.items t None ≡ Some q → CanGive b.base.items q frees
can_free_first p s b front t q g frees peaks kind its free home = record {
  base_in = let long = peaks.bases_long in omega (arith, long, low);
  base_more =
      let base = peaks.bases q low in
      let holds = first_frees p s t (front ++ filter (left_of b) (line_of b)) q g (first_of p s b front t peaks) kind its low in
      let is = free q at in
      omega (arith, base, holds, is);
}
  where
    in_rest : has s.rest t ≡ true
    in_rest = ap (λ (zs : List ℕ). has zs t) peaks.rest ∙ has_head t (front ++ filter (left_of b) (line_of b))

    at : place p t ≡ Some q
    at = sym (peaks.seated.homes t (peaks.sound.safe.tasks t in_rest)) ∙ home

    low : q < places p
    low = peaks.rules.one.place_below t q at

-- a Clean of the line
can_free_by : (p : Plan) (s : State) (b : Peaks) (k t q g frees : ℕ) (xs ys : List ℕ) → IsWithinLimits p → SumsAreSmall p → ArePeaks p s b → AreSeated b → k < length (line_of b) → get_or (line_of b) k 0 ≡ t → line_of b ≡ xs ++ t ∷ ys
    → get_or b.seating.seats.items t 0 ≡ length (filter (there p q) xs) → Follows p s.phase (filter (left_of b) xs ++ t ∷ filter (left_of b) ys) → HaveParentsEnded p s t → ((x : ℕ) → cleans p t x ≡ nat_eq g x)
    → held_part p (sizes s.held) q g ≡ frees → has s.rest t ≡ true → place p t ≡ Some q → CanFree b t q frees
can_free_by p s b k t q g frees xs ys limits sums peaks seated l is line seat follows parents_ended its free in_rest at = record {
  gives = record {
    base_in = let long = peaks.bases_long in omega (arith, long, low);
    base_more = let n = takes 0 in let base = peaks.bases q low in omega (arith, n, base);
  };
  sweeps = record {
    tree_in = let long = peaks.trees_long in omega (arith, long, low);
    seat_in = subst (λ (n : ℕ). get_or b.seating.seats.items n 0 < length (get_or b.trees.items q [])) is (seated k q l (ap (λ (n : ℕ). get_or b.seating.homes.items n None) is ∙ peaks.seated.homes t (peaks.sound.safe.tasks t in_rest) ∙ at));
    frees_small = let n = takes 0 in let few = small 0 in omega (arith, n, few);
    can_fall = subst (λ (n : ℕ). AllFirst n (CanFall frees) (get_or b.trees.items q [])) (sym seat)
        (subst (AllFirst (length (filter (there p q) xs)) (CanFall frees)) (sym (peaks.trees q low ∙ ap (values (there p q) (left_of b) (held_by p (sizes s.held) q) []) line))
        (all_before (CanFall frees) (there p q) (left_of b) (held_by p (sizes s.held) q) [] xs (t ∷ ys) tt (λ j. (let n = takes j in omega (arith, n), let few = small j in omega (arith, few)))));
  };
}
  where
    low : q < places p
    low = peaks.rules.one.place_below t q at

    takes : (j : ℕ) → frees ≤ usage p (sizes s.held) (take j (filter (left_of b) xs)) q
    takes j = let n = sweep_takes p s.phase (sizes s.held) (filter (left_of b) xs) (filter (left_of b) ys) t q j g peaks.rules.keeps low its follows (λ u m. no_wait (s.phase u) (parents_ended u m)) in omega (arith, n, free)

    small : (j : ℕ) → usage p (sizes s.held) (take j (filter (left_of b) xs)) q < 2 ^ 62
    small j = sums (sizes s.held) (take j (filter (left_of b) xs)) q (λ x. let one = peaks.sound.small x in let most = good_small p x limits in omega (arith, one, most))

pub can_free : (p : Plan) (s : State) (b : Peaks) (k q g frees : ℕ) → IsWithinLimits p → SumsAreSmall p → ArePeaks p s b → k < length (line_of b) → left_of b (get_or (line_of b) k 0) ≡ true → HaveParentsEnded p s (get_or (line_of b) k 0)
    → ((x : ℕ) → cleans p (get_or (line_of b) k 0) x ≡ nat_eq g x) → ((r : ℕ) → place p (get_or (line_of b) k 0) ≡ Some r → held_part p (sizes s.held) r g ≡ frees) → get_or b.seating.homes.items (get_or (line_of b) k 0) None ≡ Some q → CanFree b (get_or (line_of b) k 0) q frees
can_free p s b k q g frees limits sums peaks l on parents_ended its free home =
    let in_rest = there_is p s b k peaks l on in
    let at : place p (get_or (line_of b) k 0) ≡ Some q = sym (peaks.seated.homes (get_or (line_of b) k 0) (peaks.sound.safe.tasks (get_or (line_of b) k 0) in_rest)) ∙ home in
    can_free_by p s b k (get_or (line_of b) k 0) q g frees (take k (line_of b)) (drop (suc k) (line_of b)) limits sums peaks (seated p s b [] peaks) l refl (split (line_of b) k l) (peaks.seated.counted.seat k q l at)
    (subst (Follows p s.phase) (rest_split p s b k peaks l on) (follows_of p s.phase s.held s.rest peaks.sound.safe)) parents_ended its (free q at) in_rest at

-- the stack has room for a task that doesn't stand on it
stacked_long : (xs more : List ℕ) → length (stacked xs more) ≡ length xs + length more
stacked_long [] more = omega arith
stacked_long (x ∷ xs) more = let e = stacked_long xs (x ∷ more) in omega (arith, e)

once_front : (xs ys : List ℕ) → AreOnce (xs ++ ys) → AreOnce xs
once_front [] ys h = refl
once_front (x ∷ xs) ys h =
    let parts = once_parts x (xs ++ ys) h in
    once_more x xs (false_of (has xs x) (λ m. absurd (let no = parts.0 in let yes : has (xs ++ ys) x ≡ true = list_any-append (λ y. nat_eq y x) xs ys ∙ or_left (has xs x) (has ys x) m in cc))) (once_front xs ys parts.1)

pub has_stack_room : (p : Plan) (s : State) (b : Peaks) (t : ℕ) → HasStackRoom p b → AreBehind p s b (stack_of b) → t < count_tasks p → has (stack_of b) t ≡ false → length b.again.items < vec_capacity b.again
has_stack_room p s b t room peaks low off =
    let long = stacked_long (task_numbers b.again.items) [] in
    let count = count_tasks_in b.again.items in
    let once = once_more t (stack_of b) off (once_front (stack_of b) (filter (left_of b) (line_of b)) (subst AreOnce peaks.rest peaks.sound.safe.once)) in
    let few = few_once (count_tasks p) (t ∷ stack_of b) once (λ u m. or_case (nat_eq t u) (has (stack_of b) u) m
    (λ at. subst (λ (n : ℕ). n < count_tasks p) (eqb-true t u at) low)
    (λ n. peaks.sound.safe.tasks u (ap (λ (zs : List ℕ). has zs u) peaks.rest ∙ list_any-append (λ y. nat_eq y u) (stack_of b) (filter (left_of b) (line_of b)) ∙ or_left (has (stack_of b) u) (has (filter (left_of b) (line_of b)) u) n))) in
    let all : length (t ∷ stack_of b) ≤ count_tasks p = few in
    omega (arith, long, count, all, room)
