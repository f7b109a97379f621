-- A grant keeps what trees say; a task that brings no more and stands before another can start if that one can.
use Rattle.std.proofs.Common.{◌≡◌, ℕ, suc, ◌+◌, ◌-◌, ◌≤◌, ◌<◌, ◌||◌, ◌&&◌, Bool, true, false, cond, eqb, eqb-true, List, [], ◌∷◌, ◌++◌, length, take, drop, get_or, Option, Some, None, refl, sym, ap, subst, ◌∙◌, arith, ◌^◌}
use Rattle.std.specs.Prelude.{filter, not, set}
use Rattle.place_peaks.proofs.Offered.{choice_in, false_of, filter_without, good_small, greatest-append, once_parts, or_left, or_right, sound_more, sum_same, without_has}
use Rattle.lease_rules.specs.Choice.{HaveParentsEnded}
use Rattle.lease_rules.specs.Legal.{Allowed}
use Rattle.lease_rules.specs.State.{State, after, ended, put, reserved_for, without}
use Rattle.peak_tree.specs.Numbers.{greater, greatest}
use Rattle.plan_core.specs.declared.plan.Plan.{Plan}
use Rattle.plan_core.specs.Numbers.{has}
use Rattle.plan_core.specs.Words.{cleans, is_clean, parents}
use Rattle.run_record.specs.Events.{Grant}
use Rattle.storage_simulation.specs.declared.standing.Held.{Held}
use Rattle.storage_simulation.specs.declared.standing.Phase.{Phase}
use Rattle.storage_simulation.specs.declared.standing.Phase.TheVariants.{Ended, Runs, Waits}
use Rattle.storage_simulation.specs.code.Change.{held_part, size_part}
use Rattle.storage_simulation.specs.Following.{AreOnce}
use Rattle.storage_simulation.specs.code.Goods.{IsWithinLimits, place}
use Rattle.storage_simulation.specs.Goods.{good_size, lies_at, makes, place_bound, places}
use Rattle.storage_simulation.specs.Standings.{sizes, waits}
use Rattle.storage_simulation.specs.Usage.{sum_of, usage}
use Rattle.place_peaks.specs.declared.peaks.Peaks.{Peaks}
use Rattle.place_peaks.specs.Granting.{CanGrant, IsGranted}
use Rattle.place_peaks.specs.Peaks.{AreBehind, ArePeaks, AreSeated, left_of, line_of}
use Rattle.place_peaks.specs.Places.{brings, held_by, is_place, started, there}
use Rattle.place_peaks.specs.Tree.{AllFirst, CanRise, IsUpTo, front_changed}
use Rattle.place_peaks.specs.Values.{values}
use Rattle.place_peaks.proofs.ChoosingLemmas.{seated, split, spot_of, there_is}
use Rattle.place_peaks.proofs.CountLemmas.{counts_run, open_none}
use Rattle.place_peaks.proofs.DecisionLemmas.{HasPlaceFor, IsSpot, follows_spot, not_waiting, started_sizes, then_holds, then_same}
use Rattle.place_peaks.proofs.PlacesLemmas.{is_there, not_there, start_here, start_there}
use Rattle.place_peaks.proofs.ValuesLemmas.{AreSame, all_before, values_append}

-- Of two tasks of a place the one that stands first and brings no more has room if the other has.
up_to_first : (b : ℕ) (x y : Option ℕ) → IsUpTo b (greater x y) → IsUpTo b x
up_to_first b None y h = tt
up_to_first b (Some m) None h = h
up_to_first b (Some m) (Some n) h = omega (arith, h)

up_to_more : (b c : ℕ) (x : Option ℕ) → b ≤ c → IsUpTo b x → IsUpTo c x
up_to_more b c None l h = tt
up_to_more b c (Some n) l h = omega (arith, l, h)

pub first_has_place : (p : Plan) (size : ℕ → ℕ) (left : ℕ → Bool) (xs ys : List ℕ) (u t q : ℕ) → brings p size q u ≤ brings p size q t → HasPlaceFor p size left (xs ++ ys) t q → HasPlaceFor p size left xs u q
first_has_place p size left xs ys u t q less room = record {
  brings_less = let l = room.brings_less in omega (arith, less, l);
  base = let l = room.base in let m = room.brings_less in omega (arith, less, l, m);
  tops = up_to_more (place_bound p q - brings p size q t) (place_bound p q - brings p size q u) (greatest (values (there p q) left (held_by p size q) [] xs)) (omega (arith, less))
      (up_to_first (place_bound p q - brings p size q t) (greatest (values (there p q) left (held_by p size q) [] xs)) (greatest (values (there p q) left (held_by p size q) ([] ++ filter left xs) ys))
      (subst (IsUpTo (place_bound p q - brings p size q t)) (ap greatest (values_append (there p q) left (held_by p size q) [] xs ys) ∙ greatest-append (values (there p q) left (held_by p size q) [] xs) (values (there p q) left (held_by p size q) ([] ++ filter left xs) ys)) room.tops));
}

-- the tasks around one that isn't left any more
pub has_in : (xs : List ℕ) (t : ℕ) (ys : List ℕ) → has (xs ++ t ∷ ys) t ≡ true
has_in [] t ys = or_left (eqb t t) (has ys t) (let e : eqb t t ≡ true = grind arith in e)
has_in (x ∷ xs) t ys = or_right (eqb x t) (has (xs ++ t ∷ ys) t) (has_in xs t ys)

same_test : (f g : ℕ → Bool) (t u : ℕ) → g u ≡ (f u && not (eqb t u)) → eqb t u ≡ false → f u ≡ g u
same_test f g t u h off = sym (h ∙ ap (λ (b : Bool). f u && not b) off ∙ and_true (f u))
  where
    and_true : (b : Bool) → (b && true) ≡ b
    and_true true = refl
    and_true false = refl

pub same_but : (f g : ℕ → Bool) (t : ℕ) → ((u : ℕ) → g u ≡ (f u && not (eqb t u))) → (xs : List ℕ) → has xs t ≡ false → AreSame f g xs
same_but f g t h [] off = tt
same_but f g t h (x ∷ xs) off = parts (eqb x t) (has xs t) off (λ e m. (same_test f g t x (h x) (flip e), same_but f g t h xs m))
  where
    flip : eqb x t ≡ false → eqb t x ≡ false
    flip e = let same : eqb t x ≡ eqb x t = grind arith in same ∙ e

    parts : {P : Type 0} (a b : Bool) → (a || b) ≡ false → (a ≡ false → b ≡ false → P) → P
    parts true b e k = absurd cc
    parts false b e k = k refl e

pub absent_first : (xs : List ℕ) (t : ℕ) (ys : List ℕ) → AreOnce (xs ++ t ∷ ys) → (has xs t ≡ false) × (has ys t ≡ false)
absent_first [] t ys h = (refl, (once_parts t ys h).0)
absent_first (x ∷ xs) t ys h =
    let parts = once_parts x (xs ++ t ∷ ys) h in
    let less = absent_first xs t ys parts.1 in
    (neither (eqb x t) (has xs t) (false_of (eqb x t) (λ e. let there_too : has (xs ++ t ∷ ys) x ≡ true = ap (has (xs ++ t ∷ ys)) (eqb-true x t e) ∙ has_in xs t ys in let no = parts.0 in absurd cc)) less.0, less.1)
  where
    neither : (a b : Bool) → a ≡ false → b ≡ false → (a || b) ≡ false
    neither true b e k = absurd cc
    neither false b e k = k

-- phases
pub ended_stays : (f : ℕ → Phase) (t v : ℕ) → waits (f t) ≡ true → ended (f v) ≡ true → ended (put f t Runs v) ≡ true
ended_stays f t v w e = by (eqb t v) refl
  where
    clash : (x : Phase) → waits x ≡ true → ended x ≡ true → ⊥
    clash Waits h k = absurd cc
    clash Runs h k = absurd cc
    clash Ended h k = absurd cc

    by : (b : Bool) → eqb t v ≡ b → ended (cond b Runs (f v)) ≡ true
    by true at = absurd (clash (f v) (ap (λ (n : ℕ). waits (f n)) (sym (eqb-true t v at)) ∙ w) e)
    by false off = e

ended_was : (f : ℕ → Phase) (t v : ℕ) → ended (put f t Runs v) ≡ true → ended (f v) ≡ true
ended_was f t v e = by (eqb t v) e
  where
    by : (b : Bool) → ended (cond b Runs (f v)) ≡ true → ended (f v) ≡ true
    by true h = absurd cc
    by false h = h

-- what another task brings
pub brings_same : (p : Plan) (held : ℕ → Held) (t u q : ℕ) → ((g : ℕ) → has (makes p u) g ≡ true → has (makes p t) g ≡ false) → brings p (sizes (reserved_for p t held)) q u ≡ brings p (sizes held) q u
brings_same p held t u q apart = ap (λ (n : ℕ). sum_of (size_part p q) (makes p u) - n)
    (sum_same (held_part p (sizes (reserved_for p t held)) q) (held_part p (sizes held) q) (makes p u) (λ g m.
    ap (λ (f : ℕ → ℕ). held_part p f q g) (started_sizes p t held) ∙ ap (λ (b : Bool). cond (lies_at p g q) (cond b (good_size p g) (sizes held g)) 0) (apart g m)))

pub and_false : (b c : Bool) → c ≡ true → (b && not c) ≡ false
and_false true true e = refl
and_false false c e = refl
and_false true false e = absurd cc

pub and_first : (b c : Bool) → (b && c) ≡ true → b ≡ true
and_first true c e = refl
and_first false c e = absurd cc

-- A grant of a task of the line keeps what the trees say.
granted_by : (p : Plan) (s : State) (old new : Peaks) (w k t : ℕ) (xs ys : List ℕ) → ArePeaks p s old → line_of old ≡ xs ++ t ∷ ys → Allowed p s (Grant w t) → IsGranted old new t → left_of old t ≡ true
    → ((q : ℕ) → place p t ≡ Some q → get_or old.seating.seats.items t 0 ≡ length (filter (there p q) xs))
    → IsSpot p s (left_of old) xs t ys → ArePeaks p (after p s (Grant w t)) new
granted_by p s old new w k t xs ys peaks line allowed is on seat spot = subst (λ (b : Peaks). AreBehind p (after p s (Grant w t)) b []) (sym is.same) (record {
  rules = peaks.rules;
  sound = sound_more p s (Grant w t) peaks.rules.laws peaks.sound allowed;
  seated = peaks.seated;
  marked = λ u m. peaks.marked u (and_first (left_of old u) (not (eqb t u)) (sym (is.left u) ∙ m));
  marks_long = is.marks_long ∙ peaks.marks_long;
  bases_long = is.bases_long ∙ peaks.bases_long;
  trees_long = is.trees_long ∙ peaks.trees_long;
  waiting = λ u m. absurd cc;
  rest = ap (without t) peaks.rest ∙ sym (filter_without (left_of old) (left_of new) t is.left (line_of old));
  needs = λ u q m kind at. peaks.needs u q (was u m) kind at ∙ sym (brings_same p s.held t u q (λ g n. false_of (has (makes p t) g) (λ j. absurd (let same : t ≡ u = peaks.rules.laws.one_maker t u g j n in let off = (without_has t u s.rest m).1 in let yes : eqb t u ≡ true = grind (arith, same) in cc))));
  missing_long = peaks.missing_long;
  counts = λ u low. peaks.counts u low ∙ counts_run s.phase t (parents p u) waiting;
  bases = λ q l. is.base q ∙ ap (λ (o : Option ℕ). cond (is_place q o) (get_or old.base.items q 0 + get_or old.needs.items t 0) (get_or old.base.items q 0)) home ∙ base_then q l (is_place q (place p t)) refl;
  trees = λ q l. is.trees q ∙ ap (λ (o : Option ℕ). cond (is_place q o) (set (front_changed (get_or old.seating.seats.items t 0) (λ n. n + get_or old.needs.items t 0) (get_or old.trees.items q [])) (get_or old.seating.seats.items t 0) None) (get_or old.trees.items q [])) home ∙ tree_then q l (is_place q (place p t)) refl
      ∙ ap (λ (f : ℕ → ℕ). values (there p q) (left_of new) (held_by p f q) [] (xs ++ t ∷ ys)) (sym (started_sizes p t s.held)) ∙ ap (values (there p q) (left_of new) (held_by p (sizes (reserved_for p t s.held)) q) []) (sym line);
})
  where
    in_rest : has s.rest t ≡ true
    in_rest = choice_in p s t allowed.2

    waiting : waits (s.phase t) ≡ true
    waiting = peaks.sound.safe.waiting t in_rest

    home : get_or old.seating.homes.items t None ≡ place p t
    home = peaks.seated.homes t (peaks.sound.safe.tasks t in_rest)

    was : (u : ℕ) → has (without t s.rest) u ≡ true → has s.rest u ≡ true
    was u m = (without_has t u s.rest m).0

    gone : left_of new t ≡ false
    gone = is.left t ∙ and_false (left_of old t) (eqb t t) (let e : eqb t t ≡ true = grind arith in e)

    apart : (has xs t ≡ false) × (has ys t ≡ false)
    apart = absent_first xs t ys (subst AreOnce line peaks.seated.once)

    unclean : (g : ℕ) → cleans p t g ≡ false
    unclean g = peaks.rules.laws.cleans_only t g allowed.1

    base_then : (q : ℕ) → q < places p → (b : Bool) → is_place q (place p t) ≡ b → cond b (get_or old.base.items q 0 + get_or old.needs.items t 0) (get_or old.base.items q 0) ≡ usage p (sizes (reserved_for p t s.held)) [] q
    base_then q l true e =
        let holds = then_holds p s (left_of old) xs t ys q 0 spot l in
        let base = peaks.bases q l in
        let need = peaks.needs t q in_rest allowed.1 (is_there q (place p t) e) in
        omega (arith, holds, base, need)
    base_then q l false e = peaks.bases q l ∙ sym (then_same p s (left_of old) xs t ys q 0 spot l (not_there q (place p t) e))

    old_tree : (q : ℕ) → q < places p → get_or old.trees.items q [] ≡ values (there p q) (left_of old) (held_by p (sizes s.held) q) [] (xs ++ t ∷ ys)
    old_tree q l = peaks.trees q l ∙ ap (values (there p q) (left_of old) (held_by p (sizes s.held) q) []) line

    tree_then : (q : ℕ) → q < places p → (b : Bool) → is_place q (place p t) ≡ b
        → cond b (set (front_changed (get_or old.seating.seats.items t 0) (λ n. n + get_or old.needs.items t 0) (get_or old.trees.items q [])) (get_or old.seating.seats.items t 0) None) (get_or old.trees.items q [])
        ≡ values (there p q) (left_of new) (held_by p (started p t (sizes s.held)) q) [] (xs ++ t ∷ ys)
    tree_then q l true e =
        ap (λ (n : ℕ). set (front_changed n (λ m. m + get_or old.needs.items t 0) (get_or old.trees.items q [])) n None) (seat q (is_there q (place p t) e))
        ∙ ap (λ (d : ℕ). set (front_changed (length (filter (there p q) xs)) (λ m. m + d) (get_or old.trees.items q [])) (length (filter (there p q) xs)) None) (peaks.needs t q in_rest allowed.1 (is_there q (place p t) e))
        ∙ ap (λ (vs : List (Option ℕ)). set (front_changed (length (filter (there p q) xs)) (λ m. m + brings p (sizes s.held) q t) vs) (length (filter (there p q) xs)) None) (old_tree q l)
        ∙ sym (start_here p s.phase (sizes s.held) (left_of old) (left_of new) xs t ys q peaks.rules.keeps l peaks.sound.small unclean (follows_spot p s (left_of old) xs t ys spot) (not_waiting p s (left_of old) xs t ys spot) on gone (same_but (left_of old) (left_of new) t is.left xs apart.0) (same_but (left_of old) (left_of new) t is.left ys apart.1) e)
    tree_then q l false e = old_tree q l ∙ sym (start_there p (sizes s.held) (left_of old) (left_of new) xs t ys q peaks.rules.one l unclean on gone (same_but (left_of old) (left_of new) t is.left xs apart.0) (same_but (left_of old) (left_of new) t is.left ys apart.1) e)

pub granted_at : (p : Plan) (s : State) (old new : Peaks) (w k : ℕ) → ArePeaks p s old → Allowed p s (Grant w (get_or (line_of old) k 0)) → IsGranted old new (get_or (line_of old) k 0) → k < length (line_of old) → left_of old (get_or (line_of old) k 0) ≡ true
    → ArePeaks p (after p s (Grant w (get_or (line_of old) k 0))) new
granted_at p s old new w k peaks allowed is l on =
    granted_by p s old new w k (get_or (line_of old) k 0) (take k (line_of old)) (drop (suc k) (line_of old)) peaks (split (line_of old) k l) allowed is on (λ q at. peaks.seated.counted.seat k q l at)
    (spot_of p s old k peaks l on (open_none p s old [] peaks (get_or (line_of old) k 0) (choice_in p s (get_or (line_of old) k 0) allowed.2) allowed.2.can.parents_ended) allowed.1)

-- A task of the line that brings something can be granted: nothing leaves the range of the trees.
pub started_small : (p : Plan) (t : ℕ) (held : ℕ → Held) (g n : ℕ) → sizes held g ≤ good_size p g → good_size p g ≤ n → sizes (reserved_for p t held) g ≤ n
started_small p t held g n small most = let is = ap (λ (f : ℕ → ℕ). f g) (started_sizes p t held) in let low = by (has (makes p t) g) in omega (arith, is, low, most)
  where
    by : (b : Bool) → cond b (good_size p g) (sizes held g) ≤ good_size p g
    by true = omega arith
    by false = small

abbrev pub SumsAreSmall : Plan → Type 0
SumsAreSmall p = (size : ℕ → ℕ) (front : List ℕ) (s : ℕ) → ((g : ℕ) → size g ≤ 2 ^ 40) → usage p size front s < 2 ^ 62

can_grant_by : (p : Plan) (s : State) (b : Peaks) (k t q : ℕ) (xs ys : List ℕ) → IsWithinLimits p → SumsAreSmall p → ArePeaks p s b → AreSeated b → k < length (line_of b) → get_or (line_of b) k 0 ≡ t → line_of b ≡ xs ++ t ∷ ys
    → get_or b.seating.seats.items t 0 ≡ length (filter (there p q) xs) → IsSpot p s (left_of b) xs t ys → has s.rest t ≡ true → place p t ≡ Some q → CanGrant b t q
can_grant_by p s b k t q xs ys limits sums peaks seated l is line seat spot in_rest at = record {
  holds = record {
    base_in = let long = peaks.bases_long in omega (arith, long, low);
    base_small = let n = within 0 in let base = peaks.bases q low in omega (arith, n, need, base);
  };
  starts = record {
    tree_in = let long = peaks.trees_long in omega (arith, long, low);
    seat_in = subst (λ (n : ℕ). get_or b.seating.seats.items n 0 < length (get_or b.trees.items q [])) is (seated k q l (ap (λ (n : ℕ). get_or b.seating.homes.items n None) is ∙ peaks.seated.homes t (peaks.sound.safe.tasks t in_rest) ∙ at));
    need_small = let n = within 0 in omega (arith, n, need);
    can_rise = subst (λ (n : ℕ). AllFirst (get_or b.seating.seats.items t 0) (CanRise n) (get_or b.trees.items q [])) (sym need)
        (subst (λ (n : ℕ). AllFirst n (CanRise (brings p (sizes s.held) q t)) (get_or b.trees.items q [])) (sym seat)
        (subst (AllFirst (length (filter (there p q) xs)) (CanRise (brings p (sizes s.held) q t))) (sym (peaks.trees q low ∙ ap (values (there p q) (left_of b) (held_by p (sizes s.held) q) []) line))
        (all_before (CanRise (brings p (sizes s.held) q t)) (there p q) (left_of b) (held_by p (sizes s.held) q) [] xs (t ∷ ys) tt (λ j. let n = within j in omega (arith, n)))));
  };
}
  where
    low : q < places p
    low = spot.rules.one.place_below t q at

    need : get_or b.needs.items t 0 ≡ brings p (sizes s.held) q t
    need = peaks.needs t q in_rest spot.makes_goods at

    within : (j : ℕ) → usage p (sizes s.held) (take j (filter (left_of b) xs)) q + brings p (sizes s.held) q t < 2 ^ 62
    within j =
        let holds = then_holds p s (left_of b) xs t ys q j spot low in
        let few = sums (sizes (reserved_for p t s.held)) (take j (filter (left_of b) xs)) q (λ g. started_small p t s.held g (2 ^ 40) (peaks.sound.small g) (good_small p g limits)) in
        omega (arith, holds, few)

pub can_grant : (p : Plan) (s : State) (b : Peaks) (k q : ℕ) → IsWithinLimits p → SumsAreSmall p → ArePeaks p s b → k < length (line_of b) → left_of b (get_or (line_of b) k 0) ≡ true → is_clean p (get_or (line_of b) k 0) ≡ false → HaveParentsEnded p s (get_or (line_of b) k 0)
    → get_or b.seating.homes.items (get_or (line_of b) k 0) None ≡ Some q → CanGrant b (get_or (line_of b) k 0) q
can_grant p s b k q limits sums peaks l on kind ended home =
    let in_rest = there_is p s b k peaks l on in
    let at : place p (get_or (line_of b) k 0) ≡ Some q = sym (peaks.seated.homes (get_or (line_of b) k 0) (peaks.sound.safe.tasks (get_or (line_of b) k 0) in_rest)) ∙ home in
    can_grant_by p s b k (get_or (line_of b) k 0) q (take k (line_of b)) (drop (suc k) (line_of b)) limits sums peaks (seated p s b [] peaks) l refl (split (line_of b) k l) (peaks.seated.counted.seat k q l at)
    (spot_of p s b k peaks l on (open_none p s b [] peaks (get_or (line_of b) k 0) in_rest ended) kind) in_rest at
