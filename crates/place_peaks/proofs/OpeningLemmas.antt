-- The trees of an order before the first entry.
use Rattle.std.proofs.Common.{◌≡◌, ℕ, zero, suc, ◌+◌, ◌*◌, ◌≤◌, ◌<◌, ◌^◌, ◌⊎◌, inl, inr, Bool, true, false, cond, nat_eq, eqb-true, List, [], ◌∷◌, ◌++◌, length, length-append, take, map, get_or, Option, Some, None, refl, sym, ap, subst, ◌∙◌, arith}
use Rattle.std.specs.Prelude.{filter, replicate, set}
use Rattle.std.proofs.lemmas.Bool.{cases_lt}
use Rattle.std.proofs.Math.Seq.{get_or-append_seam}
use Rattle.std.proofs.lemmas.List.{get_or-replicate, get_or_append_left, get_or_past, length-replicate, length-set}
use Rattle.place_peaks.proofs.Offered.{below_rises, by_bool, few_once, follows_of, front_more, good_small, is_itself, lies_below, once_at, or_left, or_right, rises_once, sound_opened, sum_at_most, total_bound}
use Rattle.lease_rules.specs.code.Law.{FitsFromStart}
use Rattle.lease_rules.specs.State.{ended, opened}
use Rattle.plan_core.specs.declared.plan.Plan.{Plan}
use Rattle.plan_core.specs.Numbers.{below, has}
use Rattle.plan_core.specs.code.Proper.{IsProper}
use Rattle.plan_core.specs.Words.{count_tasks, parents, task_numbers}
use Rattle.storage_simulation.specs.declared.standing.Held.TheVariants.{Nothing}
use Rattle.storage_simulation.specs.declared.standing.Phase.{Phase}
use Rattle.storage_simulation.specs.declared.standing.Phase.TheVariants.{Waits}
use Rattle.storage_simulation.specs.declared.standing.Standing.{Standing}
use Rattle.storage_simulation.specs.code.Standings.{IsStanding, held_of, phase_of}
use Rattle.storage_simulation.specs.Standings.{sizes}
use Rattle.std.proofs.Math.Path.{fun_ext}
use Rattle.storage_simulation.specs.code.Change.{held_part, size_part}
use Rattle.storage_simulation.specs.Following.{AreOnce}
use Rattle.storage_simulation.specs.code.Following.{Follows}
use Rattle.storage_simulation.specs.code.Goods.{IsWithinLimits, place}
use Rattle.storage_simulation.specs.Goods.{good_size, goods, lies_at, makes, places}
use Rattle.storage_simulation.specs.code.Law.{KeepsGoods}
use Rattle.storage_simulation.specs.Usage.{sum_of, usage}
use Rattle.values.specs.Numbers.{total}
use Rattle.place_peaks.specs.declared.peaks.Peaks.{Peaks}
use Rattle.place_peaks.specs.declared.seating.Seating.{Seating}
use Rattle.place_peaks.specs.Peaks.{ArePeaks, HasRules, IsSeating, left_of, line_of}
use Rattle.place_peaks.specs.Places.{AreSeats, ChangesOnePlace, held_by, is_place, there}
use Rattle.place_peaks.specs.Renewing.{CanWalk}
use Rattle.place_peaks.specs.Values.{all_left, values}
use Rattle.place_peaks.proofs.ChoosingLemmas.{filter_both}
use Rattle.place_peaks.proofs.GrantingLemmas.{SumsAreSmall}
use Rattle.place_peaks.proofs.SetLemmas.{get_set}
use Rattle.place_peaks.proofs.UsageLemmas.{usage_away}
use Rattle.place_peaks.proofs.ValuesLemmas.{AreSame, filter_same, values_append, values_same}

-- nothing is held
abbrev nothing : ℕ → ℕ
nothing g = 0

sum_none : (p : Plan) (q : ℕ) (xs : List ℕ) → sum_of (held_part p nothing q) xs ≡ 0
sum_none p q [] = refl
sum_none p q (x ∷ xs) = let here = by (lies_at p x q) in let rest = sum_none p q xs in omega (arith, here, rest)
  where
    by : (b : Bool) → cond b zero zero ≡ zero
    by true = refl
    by false = refl

pub usage_none : (p : Plan) (q : ℕ) → usage p nothing [] q ≡ 0
usage_none p q = let most = total_bound (λ g. cond (lies_at p g q) zero zero) 0 (goods p) (λ g. by (lies_at p g q)) in let no : goods p * 0 ≡ 0 = omega arith in omega (arith, most, no)
  where
    by : (b : Bool) → cond b zero zero ≤ 0
    by true = omega arith
    by false = omega arith

pub made_small : (p : Plan) → IsWithinLimits p → SumsAreSmall p → KeepsGoods p → (t q : ℕ) → q < places p → sum_of (size_part p q) (makes p t) < 2 ^ 62
made_small p limits sums keeps t q low =
    let few : usage p (good_size p) [] q < 2 ^ 62 = sums (good_size p) [] q (λ g. good_small p g limits) in
    let same : usage p (good_size p) [] q ≡ total (goods p) (size_part p q) = refl in
    let less = sum_at_most (size_part p q) (goods p) (makes p t) (rises_once 0 (makes p t) (keeps.rises t)) (λ g past. by_bool (lies_at p g q) (λ at. absurd (let l = lies_below p g q low at in omega (arith, l, past))) (λ off. ap (λ (b : Bool). cond b (good_size p g) 0) off)) in
    omega (arith, few, same, less)

pub parents_once : (p : Plan) → IsProper p → (t : ℕ) → AreOnce (parents p t)
parents_once p proper t = subst AreOnce (sym (proper.flow.parents t).listed) (rises_once 0 (below (count_tasks p) (has (parents p t))) (below_rises (count_tasks p) (has (parents p t))))

pub parents_few : (p : Plan) → IsProper p → ((t u : ℕ) → has (parents p t) u ≡ true → u < count_tasks p) → (t : ℕ) → length (parents p t) ≤ count_tasks p
parents_few p proper low t = few_once (count_tasks p) (parents p t) (parents_once p proper t) (low t)

-- one task more of the order
width_more : (p : Plan) (q : ℕ) (line : List ℕ) (k : ℕ) → k < length line → length (filter (there p q) (take (k + 1) line)) ≡ length (filter (there p q) (take k line)) + cond (there p q (get_or line k 0)) 1 0
width_more p q line k l =
    let all = ap (λ (zs : List ℕ). length (filter (there p q) zs)) (front_more line k l) in
    let parts = ap length (filter_both (there p q) (take k line) (get_or line k 0 ∷ [])) in
    let sum = length-append (filter (there p q) (take k line)) (filter (there p q) (get_or line k 0 ∷ [])) in
    let one = by (there p q (get_or line k 0)) in
    omega (arith, all, parts, sum, one)
  where
    by : (b : Bool) → length (cond b (get_or line k 0 ∷ []) []) ≡ cond b 1 0
    by true = refl
    by false = refl

has_before : (xs : List ℕ) (j k : ℕ) → j < k → k < length xs → has (take k xs) (get_or xs j 0) ≡ true
has_before [] j k l m = absurd (omega (arith, m))
has_before (x ∷ xs) j zero l m = absurd (omega (arith, l))
has_before (x ∷ xs) zero (suc k) l m = or_left (nat_eq x x) (has (take k xs) x) (is_itself x)
has_before (x ∷ xs) (suc j) (suc k) l m = or_right (nat_eq x (get_or xs j 0)) (has (take k xs) (get_or xs j 0)) (has_before xs j k (omega (arith, l)) (omega (arith, m)))

pub filter_short : (f : ℕ → Bool) (xs : List ℕ) → length (filter f xs) ≤ length xs
filter_short f [] = omega arith
filter_short f (x ∷ xs) = by (f x) (filter_short f xs)
  where
    by : (b : Bool) → length (filter f xs) ≤ length xs → length (cond b (x ∷ filter f xs) (filter f xs)) ≤ length (x ∷ xs)
    by true h = omega (arith, h)
    by false h = omega (arith, h)

pub take_short : (k : ℕ) (xs : List ℕ) → length (take k xs) ≤ k
take_short zero [] = omega arith
take_short zero (x ∷ xs) = omega arith
take_short (suc k) [] = omega arith
take_short (suc k) (x ∷ xs) = let e = take_short k xs in omega (arith, e)

pub width_few : (p : Plan) (line seats widths : List ℕ) (k a : ℕ) → AreSeats p line seats widths k → a < places p → get_or widths a 0 ≤ k
width_few p line seats widths k a so_far low = let is = so_far.width a low in let few = filter_short (there p a) (take k line) in let short = take_short k line in omega (arith, is, few, short)

some_same : (a b : ℕ) → Some a ≡ Some b → a ≡ b
some_same a b e = cc

pub seats_none : (p : Plan) (line seats widths : List ℕ) (k t : ℕ) → AreSeats p line seats widths k → k < length line → t ≡ get_or line k 0 → place p t ≡ None → AreSeats p line seats widths (k + 1)
seats_none p line seats widths k t so_far l is home = record {
  seats_long = so_far.seats_long;
  widths_long = so_far.widths_long;
  width = λ q m. let was = so_far.width q m in let more = width_more p q line k l in let off : cond (there p q (get_or line k 0)) 1 zero ≡ zero = ap (λ (o : Option ℕ). cond (is_place q o) 1 zero) here in omega (arith, was, more, off);
  seat = λ j q m at. by j q (cases_lt j k) m at;
}
  where
    here : place p (get_or line k 0) ≡ None
    here = ap (place p) (sym is) ∙ home

    by : (j q : ℕ) → (j < k) ⊎ (k ≤ j) → j < k + 1 → place p (get_or line j 0) ≡ Some q → get_or seats (get_or line j 0) 0 ≡ length (filter (there p q) (take j line))
    by j q (inl n) m at = so_far.seat j q n at
    by j q (inr n) m at = absurd (let e : j ≡ k = omega (arith, m, n) in let no : None ≡ Some q = sym here ∙ ap (λ (i : ℕ). place p (get_or line i 0)) (sym e) ∙ at in cc)

pub seats_some : (p : Plan) (line seats widths : List ℕ) (k t a seat : ℕ) → AreSeats p line seats widths k → AreOnce line → k < length line → t ≡ get_or line k 0 → place p t ≡ Some a → t < count_tasks p → a < places p → seat ≡ get_or widths a 0
    → AreSeats p line (set seats t seat) (set widths a (seat + 1)) (k + 1)
seats_some p line seats widths k t a seat so_far once l is home low_task low seat_is = record {
  seats_long = length-set seats t seat ∙ so_far.seats_long;
  widths_long = length-set widths a (seat + 1) ∙ so_far.widths_long;
  width = λ q m. get_set widths a q (seat + 1) 0 (let long = so_far.widths_long in omega (arith, long, low)) ∙ wide q m (nat_eq a q) refl;
  seat = λ j q m at. by j q (cases_lt j k) m at;
}
  where
    here : place p (get_or line k 0) ≡ Some a
    here = ap (place p) (sym is) ∙ home

    in_seats : t < length seats
    in_seats = let long = so_far.seats_long in omega (arith, long, low_task)

    wide : (q : ℕ) → q < places p → (b : Bool) → nat_eq a q ≡ b → cond b (seat + 1) (get_or widths q 0) ≡ length (filter (there p q) (take (k + 1) line))
    wide q m true e =
        let same : a ≡ q = eqb-true a q e in
        let was = so_far.width q m in
        let mine = ap (λ (n : ℕ). get_or widths n 0) same in
        let more = width_more p q line k l in
        let on : cond (there p q (get_or line k 0)) 1 zero ≡ 1 = ap (λ (o : Option ℕ). cond (is_place q o) 1 zero) here ∙ ap (λ (b : Bool). cond b 1 zero) e in
        omega (arith, was, mine, more, on, seat_is)
    wide q m false e =
        let was = so_far.width q m in
        let more = width_more p q line k l in
        let off : cond (there p q (get_or line k 0)) 1 zero ≡ zero = ap (λ (o : Option ℕ). cond (is_place q o) 1 zero) here ∙ ap (λ (b : Bool). cond b 1 zero) e in
        omega (arith, was, more, off)

    other : (j : ℕ) → j < k → nat_eq t (get_or line j 0) ≡ false
    other j m = by_bool (nat_eq t (get_or line j 0))
        (λ e. absurd (let same : get_or line k 0 ≡ get_or line j 0 = sym is ∙ eqb-true t (get_or line j 0) e in let yes : has (take k line) (get_or line k 0) ≡ true = ap (has (take k line)) same ∙ has_before line j k m l in let no = once_at line k once l in cc))
        (λ e. e)

    by : (j q : ℕ) → (j < k) ⊎ (k ≤ j) → j < k + 1 → place p (get_or line j 0) ≡ Some q → get_or (set seats t seat) (get_or line j 0) 0 ≡ length (filter (there p q) (take j line))
    by j q (inl n) m at = get_set seats t (get_or line j 0) seat 0 in_seats ∙ ap (λ (b : Bool). cond b seat (get_or seats (get_or line j 0) 0)) (other j n) ∙ so_far.seat j q n at
    by j q (inr n) m at =
        let e : j ≡ k = omega (arith, m, n) in
        let same : a ≡ q = some_same a q (sym here ∙ ap (λ (i : ℕ). place p (get_or line i 0)) (sym e) ∙ at) in
        get_set seats t (get_or line j 0) seat 0 in_seats
        ∙ ap (λ (b : Bool). cond b seat (get_or seats (get_or line j 0) 0)) (ap (nat_eq t) (ap (λ (i : ℕ). get_or line i 0) e ∙ sym is) ∙ is_itself t)
        ∙ seat_is ∙ ap (λ (n : ℕ). get_or widths n 0) same ∙ so_far.width q (subst (λ (n : ℕ). n < places p) same low) ∙ ap (λ (i : ℕ). length (filter (there p q) (take i line))) (sym e)

pub filter_all : (xs : List ℕ) → filter all_left xs ≡ xs
filter_all [] = refl
filter_all (x ∷ xs) = ap (λ (ys : List ℕ). x ∷ ys) (filter_all xs)

pub list_more : (p : Plan) (size : ℕ → ℕ) (q : ℕ) (line : List ℕ) (k : ℕ) → k < length line → values (there p q) all_left (held_by p size q) [] (take (k + 1) line)
    ≡ values (there p q) all_left (held_by p size q) [] (take k line) ++ cond (there p q (get_or line k 0)) (Some (usage p size (take (k + 1) line) q) ∷ []) []
list_more p size q line k l =
    ap (values (there p q) all_left (held_by p size q) []) (front_more line k l)
    ∙ values_append (there p q) all_left (held_by p size q) [] (take k line) (get_or line k 0 ∷ [])
    ∙ ap (λ (front : List ℕ). values (there p q) all_left (held_by p size q) [] (take k line) ++ values (there p q) all_left (held_by p size q) front (get_or line k 0 ∷ [])) (filter_all (take k line))
    ∙ ap (λ (front : List ℕ). values (there p q) all_left (held_by p size q) [] (take k line) ++ cond (there p q (get_or line k 0)) (Some (usage p size front q) ∷ []) []) (sym (front_more line k l))

append_none : (xs : List (Option ℕ)) → xs ++ [] ≡ xs
append_none [] = refl
append_none (x ∷ xs) = ap (λ (ys : List (Option ℕ)). x ∷ ys) (append_none xs)

pub some_last : (xs : List ℕ) (y : ℕ) → map Some (xs ++ y ∷ []) ≡ map Some xs ++ Some y ∷ []
some_last [] y = refl
some_last (x ∷ xs) y = ap (λ (ys : List (Option ℕ)). Some x ∷ ys) (some_last xs y)

-- a place that the task doesn't change
pub level_stays : (p : Plan) (size : ℕ → ℕ) (line : List ℕ) (k q : ℕ) → ChangesOnePlace p → k < length line → q < places p → (place p (get_or line k 0) ≡ Some q → ⊥) → usage p size (take (k + 1) line) q ≡ usage p size (take k line) q
level_stays p size line k q one l low away = ap (λ (xs : List ℕ). usage p size xs q) (front_more line k l) ∙ usage_away p size (take k line) (get_or line k 0) q one low away

pub list_stays : (p : Plan) (size : ℕ → ℕ) (line : List ℕ) (k q : ℕ) → k < length line → there p q (get_or line k 0) ≡ false → values (there p q) all_left (held_by p size q) [] (take (k + 1) line) ≡ values (there p q) all_left (held_by p size q) [] (take k line)
list_stays p size line k q l off = list_more p size q line k l ∙ ap (λ (b : Bool). values (there p q) all_left (held_by p size q) [] (take k line) ++ cond b (Some (usage p size (take (k + 1) line) q) ∷ []) []) off ∙ append_none (values (there p q) all_left (held_by p size q) [] (take k line))

-- the parts that are made of an order
pub record IsOpened (p : Plan) (size : ℕ → ℕ) (order : List ℕ) (b : Peaks) : Type 0 where
  pub line : line_of b ≡ order
  pub left : b.left.items ≡ replicate (count_tasks p) true
  pub needs : (t q : ℕ) → t < count_tasks p → place p t ≡ Some q → get_or b.needs.items t 0 ≡ sum_of (size_part p q) (makes p t)
  pub missing_long : length b.missing.items ≡ count_tasks p
  pub missing : (t : ℕ) → t < count_tasks p → get_or b.missing.items t 1 ≡ length (parents p t)
  pub seated : IsSeating p b.seating
  pub base : b.base.items ≡ replicate (places p) 0
  pub trees_long : length b.trees.items ≡ places p
  pub trees : (q : ℕ) → q < places p → get_or b.trees.items q [] ≡ values (there p q) all_left (held_by p size q) [] order

sum_ones : (us : List ℕ) → sum_of (λ u. cond (ended Waits) 0 1) us ≡ length us
sum_ones [] = refl
sum_ones (u ∷ us) = let e = sum_ones us in omega (arith, e)

pub same_on : (f : ℕ → Bool) (xs : List ℕ) → ((x : ℕ) → has xs x ≡ true → f x ≡ true) → AreSame f all_left xs
same_on f [] h = tt
same_on f (x ∷ xs) h = (h x (or_left (nat_eq x x) (has xs x) (is_itself x)), same_on f xs (λ y m. h y (or_right (nat_eq x y) (has xs y) m)))

pub opened_by : (p : Plan) (size : ℕ → ℕ) (order : List ℕ) (b : Peaks) → HasRules p → FitsFromStart p order → ((g : ℕ) → size g ≡ 0) → IsOpened p size order b → ArePeaks p (opened order) b
opened_by p size order b rules fits none is = record {
  rules = rules;
  sound = sound_opened p order fits;
  seated = is.seated;
  marked = λ t on. ap (λ (zs : List ℕ). has zs t) is.line ∙ fits.all t (low_of t (cases_lt t (count_tasks p)) on);
  marks_long = ap length is.left ∙ length-replicate (count_tasks p) true;
  bases_long = ap length is.base ∙ length-replicate (places p) 0;
  trees_long = is.trees_long;
  rest = sym (filter_same (left_of b) all_left (line_of b) all_on ∙ filter_all (line_of b) ∙ is.line);
  waiting = λ t m. absurd cc;
  needs = λ t q m kind at. is.needs t q (fits.fits.tasks t m) at ∙ (let none = sum_none p q (makes p t) in omega (arith, none));
  missing_long = is.missing_long;
  counts = λ t l. is.missing t l ∙ sym (sum_ones (parents p t));
  bases = λ q l. ap (λ (v : List ℕ). get_or v q 0) is.base ∙ get_or-replicate (places p) q 0 0 l ∙ sym (usage_none p q);
  trees = λ q l. is.trees q l
      ∙ ap (λ (f : ℕ → ℕ). values (there p q) all_left (held_by p f q) [] order) (fun_ext none)
      ∙ ap (values (there p q) all_left (held_by p nothing q) []) (sym is.line)
      ∙ sym (values_same (there p q) (left_of b) all_left (held_by p nothing q) [] (line_of b) all_on);
}
  where
    on_below : (t : ℕ) → t < count_tasks p → left_of b t ≡ true
    on_below t l = ap (λ (marks : List Bool). get_or marks t false) is.left ∙ get_or-replicate (count_tasks p) t true false l

    low_of : (t : ℕ) → (t < count_tasks p) ⊎ (count_tasks p ≤ t) → left_of b t ≡ true → t < count_tasks p
    low_of t (inl l) on = l
    low_of t (inr l) on = absurd (let off : left_of b t ≡ false = ap (λ (marks : List Bool). get_or marks t false) is.left ∙ get_or_past (replicate (count_tasks p) true) t false (let e = length-replicate (count_tasks p) true in omega (arith, e, l)) in cc)

    all_on : AreSame (left_of b) all_left (line_of b)
    all_on = same_on (left_of b) (line_of b) (λ t m. on_below t (fits.fits.tasks t (ap (λ (zs : List ℕ). has zs t) (sym is.line) ∙ m)))

-- a walk along the order, where nothing is held
pub walk_first : (p : Plan) (homes : List (Option ℕ)) (needs base : List ℕ) (st : Standing) (order : List ℕ) → IsWithinLimits p → HasRules p → FitsFromStart p order → IsStanding p st
    → ((g : ℕ) → sizes (held_of st) g ≡ 0) → ((t : ℕ) → phase_of st t ≡ Waits) → ((t : ℕ) → t < count_tasks p → get_or homes t None ≡ place p t)
    → ((t q : ℕ) → t < count_tasks p → place p t ≡ Some q → get_or needs t 0 ≡ sum_of (size_part p q) (makes p t)) → base ≡ replicate (places p) 0
    → CanWalk p homes needs base st order
walk_first p homes needs base st order limits rules fits standing none waits home need empty = record {
  limits = limits;
  rules = rules;
  standing = standing;
  small = λ g. let no = none g in omega (arith, no);
  follows = subst (λ (f : ℕ → Phase). Follows p f order) (sym (fun_ext waits)) (follows_of p (λ t. Waits) (λ g. Nothing) order fits.fits);
  homes = home;
  needs = λ t q m kind at. need t q (fits.fits.tasks t m) at ∙ (let no : sum_of (held_part p (sizes (held_of st)) q) (makes p t) ≡ 0 = ap (λ (f : ℕ → ℕ). sum_of (held_part p f q) (makes p t)) (fun_ext none) ∙ sum_none p q (makes p t) in omega (arith, no));
  bases = λ q l. ap (λ (v : List ℕ). get_or v q 0) empty ∙ get_or-replicate (places p) q 0 0 l ∙ sym (ap (λ (f : ℕ → ℕ). usage p f [] q) (fun_ext none) ∙ usage_none p q);
}

-- the line of an order of all tasks
pub opened_seating : (p : Plan) (order : List ℕ) (old new : Seating) → FitsFromStart p order → new ≡ record old { seats = new.seats; widths = new.widths } → task_numbers old.line.items ≡ order
    → ((t : ℕ) → t < count_tasks p → get_or old.homes.items t None ≡ place p t) → AreSeats p (task_numbers old.line.items) new.seats.items new.widths.items (length (task_numbers old.line.items)) → IsSeating p new
opened_seating p order old new fits same line homes counted = subst (IsSeating p) (sym same) (record {
  once = subst AreOnce (sym line) fits.fits.once;
  in_plan = λ t m. fits.fits.tasks t (ap (λ (zs : List ℕ). has zs t) (sym line) ∙ m);
  all = λ t l. ap (λ (zs : List ℕ). has zs t) line ∙ fits.all t l;
  homes = homes;
  counted = counted;
})

-- one tree more
pub one_tree_more : (f : ℕ → List (Option ℕ)) (vs : List (List (Option ℕ))) (v : List (Option ℕ)) (k : ℕ) → length vs ≡ k → ((q : ℕ) → q < k → get_or vs q [] ≡ f q) → v ≡ f k → (q : ℕ) → q < k + 1 → get_or (vs ++ v ∷ []) q [] ≡ f q
one_tree_more f vs v k long so_far is q l = by (cases_lt q k)
  where
    by : (q < k) ⊎ (k ≤ q) → get_or (vs ++ v ∷ []) q [] ≡ f q
    by (inl m) = get_or_append_left vs (v ∷ []) [] q (omega (arith, long, m)) ∙ so_far q m
    by (inr m) = ap (λ (i : ℕ). get_or (vs ++ v ∷ []) i []) (let at : q ≡ length vs = omega (arith, long, l, m) in at) ∙ get_or-append_seam vs v [] [] ∙ is ∙ ap f (let same : k ≡ q = omega (arith, m, l) in same)
