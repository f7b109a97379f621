-- A Clean that is done keeps what trees say.
use Rattle.std.proofs.Common.{◌≡◌, ℕ, suc, ◌-◌, ◌<◌, ◌||◌, Bool, true, false, cond, eqb, nat_eq, List, [], ◌∷◌, ◌++◌, length, take, drop, get_or, Option, Some, None, refl, sym, ap, subst, ◌∙◌, arith}
use Rattle.std.specs.Prelude.{filter, not, set}
use Rattle.std.proofs.Math.Path.{fun_ext}
use Rattle.std.proofs.lemmas.List.Folds.{list_any-append}
use Rattle.place_peaks.proofs.Offered.{choice_in, cleaned_held, false_of, filter_without, follows_of, has_take, maker_of, not_both, or_left, or_right, sound_more, sum_same, without_has}
use Rattle.lease_rules.specs.Legal.{Allowed}
use Rattle.lease_rules.specs.State.{State, after, ended, put, without}
use Rattle.plan_core.specs.declared.plan.Plan.{Plan}
use Rattle.plan_core.specs.declared.plan.TaskKind.{TaskKind}
use Rattle.plan_core.specs.declared.plan.TaskKind.TheVariants.{Clean as CleanKind, Run, Transfer}
use Rattle.plan_core.specs.Numbers.{has}
use Rattle.plan_core.specs.Words.{cleans, is_clean, is_clean_kind, kind, kind_cleans, parents}
use Rattle.run_record.specs.Events.{Clean}
use Rattle.storage_simulation.specs.declared.standing.Held.{Held}
use Rattle.storage_simulation.specs.declared.standing.Held.TheVariants.{Nothing}
use Rattle.storage_simulation.specs.declared.standing.Phase.{Phase}
use Rattle.storage_simulation.specs.declared.standing.Phase.TheVariants.{Ended}
use Rattle.storage_simulation.specs.code.Change.{held_part, size_part}
use Rattle.storage_simulation.specs.Following.{AreOnce}
use Rattle.storage_simulation.specs.code.Following.{Follows}
use Rattle.storage_simulation.specs.Goods.{lies_at, makes, places}
use Rattle.storage_simulation.specs.code.Goods.{place}
use Rattle.storage_simulation.specs.Standings.{held_size, sizes, waits}
use Rattle.storage_simulation.specs.Usage.{made, sum_of, usage}
use Rattle.place_peaks.specs.declared.peaks.Peaks.{Peaks}
use Rattle.place_peaks.specs.Cleaning.{IsSwept}
use Rattle.place_peaks.specs.Peaks.{AreBehind, ArePeaks, left_of, line_of}
use Rattle.place_peaks.specs.Places.{brings, held_by, is_place, swept, there}
use Rattle.place_peaks.specs.Tree.{front_changed}
use Rattle.place_peaks.specs.Values.{values}
use Rattle.place_peaks.proofs.ChoosingLemmas.{rest_split, split}
use Rattle.place_peaks.proofs.CountLemmas.{counts_end, still_open}
use Rattle.place_peaks.proofs.DecisionLemmas.{no_wait}
use Rattle.place_peaks.proofs.GrantingLemmas.{absent_first, and_false, and_first, same_but}
use Rattle.place_peaks.proofs.PlacesLemmas.{AreUnmade, is_there, not_there, sweep_here, sweep_there}
use Rattle.place_peaks.proofs.UsageLemmas.{sweep_takes, sweep_usage, usage_away}
use Rattle.place_peaks.proofs.ValuesLemmas.{OnFronts}

-- what a Clean cleans
clean_kind : (o : Option TaskKind) → is_clean_kind o ≡ true → (g : ℕ) × ((x : ℕ) → kind_cleans o x ≡ nat_eq g x)
clean_kind None e = absurd cc
clean_kind (Some (Transfer f from to)) e = absurd cc
clean_kind (Some (Run s js)) e = absurd cc
clean_kind (Some (CleanKind q)) e = (q.0, λ x. refl)

pub cleaned_good : (p : Plan) (t : ℕ) → is_clean p t ≡ true → (g : ℕ) × ((x : ℕ) → cleans p t x ≡ nat_eq g x)
cleaned_good p t e = clean_kind (kind p t) e

-- what is held after the Clean, as a size
pub swept_sizes : (p : Plan) (t : ℕ) (held : ℕ → Held) → sizes (cleaned_held p t held) ≡ swept p t (sizes held)
swept_sizes p t held = fun_ext (λ g. by (cleans p t g) (held g))
  where
    by : (b : Bool) (h : Held) → held_size (cond b Nothing h) ≡ cond b 0 (held_size h)
    by true h = refl
    by false h = refl

-- a task that has ended goes on to have ended
pub ends_more : (f : ℕ → Phase) (t v : ℕ) → ended (f v) ≡ true → ended (put f t Ended v) ≡ true
ends_more f t v e = by (nat_eq t v)
  where
    by : (b : Bool) → ended (cond b Ended (f v)) ≡ true
    by true = refl
    by false = e

-- what another task brings
pub brings_kept : (p : Plan) (held : ℕ → Held) (t u q : ℕ) → ((g : ℕ) → has (makes p u) g ≡ true → cleans p t g ≡ false) → brings p (sizes (cleaned_held p t held)) q u ≡ brings p (sizes held) q u
brings_kept p held t u q apart = ap (λ (n : ℕ). sum_of (size_part p q) (makes p u) - n)
    (sum_same (held_part p (sizes (cleaned_held p t held)) q) (held_part p (sizes held) q) (makes p u) (λ g m.
    ap (λ (f : ℕ → ℕ). held_part p f q g) (swept_sizes p t held) ∙ ap (λ (b : Bool). cond (lies_at p g q) (cond b 0 (sizes held g)) 0) (apart g m)))

unclean_good : (p : Plan) (t g : ℕ) → cleans p t g ≡ true → is_clean p t ≡ true
unclean_good p t g e = by (kind p t) e
  where
    by : (o : Option TaskKind) → kind_cleans o g ≡ true → is_clean_kind o ≡ true
    by None h = absurd cc
    by (Some (Transfer f from to)) h = absurd cc
    by (Some (Run s js)) h = absurd cc
    by (Some (CleanKind q)) h = refl

swept_by : (p : Plan) (s : State) (old new : Peaks) (w t g q0 : ℕ) (xs ys : List ℕ) → ArePeaks p s old → line_of old ≡ xs ++ t ∷ ys → Allowed p s (Clean w t) → ((x : ℕ) → cleans p t x ≡ nat_eq g x) → ((q : ℕ) → place p t ≡ Some q → held_part p (sizes s.held) q g ≡ q0) → IsSwept p old new t q0 → left_of old t ≡ true
    → ((u : ℕ) → AreOnce (parents p u)) → ((q : ℕ) → place p t ≡ Some q → get_or old.seating.seats.items t 0 ≡ length (filter (there p q) xs))
    → Follows p s.phase (filter (left_of old) xs ++ t ∷ filter (left_of old) ys) → ArePeaks p (after p s (Clean w t)) new
swept_by p s old new w t g q0 xs ys peaks line allowed its frees is on once_parents seat follows = subst (λ (b : Peaks). AreBehind p (after p s (Clean w t)) b []) (sym is.same) (record {
  rules = peaks.rules;
  sound = sound_more p s (Clean w t) peaks.rules.laws peaks.sound allowed;
  seated = peaks.seated;
  marked = λ u m. peaks.marked u (and_first (left_of old u) (not (eqb t u)) (sym (is.left u) ∙ m));
  marks_long = is.marks_long ∙ peaks.marks_long;
  bases_long = is.bases_long ∙ peaks.bases_long;
  trees_long = is.trees_long ∙ peaks.trees_long;
  missing_long = is.missing_long ∙ peaks.missing_long;
  rest = ap (without t) peaks.rest ∙ sym (filter_without (left_of old) (left_of new) t is.left (line_of old));
  waiting = λ u m. absurd cc;
  needs = λ u q m kind at. peaks.needs u q (was u m) kind at ∙ sym (brings_kept p s.held t u q (λ x n. false_of (cleans p t x) (λ c. not_both (s.phase u) (peaks.sound.safe.waiting u (was u m)) (allowed.2.can.parents_ended u (peaks.rules.laws.cleans_after t u x c n)))));
  counts = λ u low. let less = is.missing u low in let had = peaks.counts u low in let now = counts_end s.phase t (parents p u) (once_parents u) (still_open (s.phase t) waits_now) in omega (arith, less, had, now);
  bases = λ q l. is.base q ∙ ap (λ (o : Option ℕ). cond (is_place q o) (get_or old.base.items q 0 - q0) (get_or old.base.items q 0)) home ∙ base_then q l (is_place q (place p t)) refl;
  trees = λ q l. is.trees q ∙ ap (λ (o : Option ℕ). cond (is_place q o) (set (front_changed (get_or old.seating.seats.items t 0) (λ n. n - q0) (get_or old.trees.items q [])) (get_or old.seating.seats.items t 0) None) (get_or old.trees.items q [])) home ∙ tree_then q l (is_place q (place p t)) refl
      ∙ ap (λ (f : ℕ → ℕ). values (there p q) (left_of new) (held_by p f q) [] (xs ++ t ∷ ys)) (sym (swept_sizes p t s.held)) ∙ ap (values (there p q) (left_of new) (held_by p (sizes (cleaned_held p t s.held)) q) []) (sym line);
})
  where
    in_rest : has s.rest t ≡ true
    in_rest = choice_in p s t allowed.2

    waits_now : waits (s.phase t) ≡ true
    waits_now = peaks.sound.safe.waiting t in_rest

    home : get_or old.seating.homes.items t None ≡ place p t
    home = peaks.seated.homes t (peaks.sound.safe.tasks t in_rest)

    was : (u : ℕ) → has (without t s.rest) u ≡ true → has s.rest u ≡ true
    was u m = (without_has t u s.rest m).0

    gone : left_of new t ≡ false
    gone = is.left t ∙ and_false (left_of old t) (eqb t t) (let e : eqb t t ≡ true = grind arith in e)

    apart : (has xs t ≡ false) × (has ys t ≡ false)
    apart = absent_first xs t ys (subst AreOnce line peaks.seated.once)

    makes_none : (x : ℕ) → has (makes p t) x ≡ false
    makes_none x = peaks.rules.laws.cleans_make t x allowed.1

    ready : (u : ℕ) → has (parents p t) u ≡ true → waits (s.phase u) ≡ false
    ready u m = no_wait (s.phase u) (allowed.2.can.parents_ended u m)

    unmade : (front : List ℕ) → ((u : ℕ) → has front u ≡ true → waits (s.phase u) ≡ true) → AreUnmade p t front
    unmade front all x c = false_of (made p front x) (λ m. let u = maker_of p front x m in not_both (s.phase u.0) (all u.0 u.1) (allowed.2.can.parents_ended u.0 (peaks.rules.laws.cleans_after t u.0 x c u.2)))

    has_both : (ls bs : List ℕ) (u : ℕ) → has (ls ++ bs) u ≡ (has ls u || has bs u)
    has_both ls bs u = list_any-append (λ y. nat_eq y u) ls bs

    all_wait : (u : ℕ) → has (filter (left_of old) xs ++ t ∷ filter (left_of old) ys) u ≡ true → waits (s.phase u) ≡ true
    all_wait = follows.waiting

    unmade_before : OnFronts (AreUnmade p t) (filter (left_of old) xs)
    unmade_before k = unmade (take k (filter (left_of old) xs)) (λ u m. all_wait u (has_both (filter (left_of old) xs) (t ∷ filter (left_of old) ys) u ∙ or_left (has (filter (left_of old) xs) u) (has (t ∷ filter (left_of old) ys) u) (has_take (filter (left_of old) xs) k u m)))

    unmade_behind : OnFronts (λ zs. AreUnmade p t (filter (left_of old) xs ++ zs)) (filter (left_of old) ys)
    unmade_behind k = unmade (filter (left_of old) xs ++ take k (filter (left_of old) ys)) (λ u m. case (has (filter (left_of old) xs) u) (has (take k (filter (left_of old) ys)) u) (sym (has_both (filter (left_of old) xs) (take k (filter (left_of old) ys)) u) ∙ m)
        (λ e. all_wait u (has_both (filter (left_of old) xs) (t ∷ filter (left_of old) ys) u ∙ or_left (has (filter (left_of old) xs) u) (has (t ∷ filter (left_of old) ys) u) e))
        (λ e. all_wait u (has_both (filter (left_of old) xs) (t ∷ filter (left_of old) ys) u ∙ or_right (has (filter (left_of old) xs) u) (has (t ∷ filter (left_of old) ys) u) (or_right (nat_eq t u) (has (filter (left_of old) ys) u) (has_take (filter (left_of old) ys) k u e)))))
      where
        case : {P : Type 0} (a b : Bool) → (a || b) ≡ true → (a ≡ true → P) → (b ≡ true → P) → P
        case true b h f k = f refl
        case false b h f k = k h

    base_then : (q : ℕ) → q < places p → (b : Bool) → is_place q (place p t) ≡ b → cond b (get_or old.base.items q 0 - q0) (get_or old.base.items q 0) ≡ usage p (sizes (cleaned_held p t s.held)) [] q
    base_then q l true e =
        let takes = sweep_takes p s.phase (sizes s.held) (filter (left_of old) xs) (filter (left_of old) ys) t q 0 g peaks.rules.keeps l its follows ready in
        let same = sweep_usage p (sizes s.held) [] t q makes_none (unmade_before 0) in
        let now = ap (λ (f : ℕ → ℕ). usage p f [] q) (swept_sizes p t s.held) in
        let base = peaks.bases q l in
        let free = frees q (is_there q (place p t) e) in
        omega (arith, takes, same, now, base, free)
    base_then q l false e = peaks.bases q l ∙ sym (ap (λ (f : ℕ → ℕ). usage p f [] q) (swept_sizes p t s.held) ∙ sweep_usage p (sizes s.held) [] t q makes_none (unmade_before 0) ∙ usage_away p (sizes s.held) [] t q peaks.rules.one l (not_there q (place p t) e))

    old_tree : (q : ℕ) → q < places p → get_or old.trees.items q [] ≡ values (there p q) (left_of old) (held_by p (sizes s.held) q) [] (xs ++ t ∷ ys)
    old_tree q l = peaks.trees q l ∙ ap (values (there p q) (left_of old) (held_by p (sizes s.held) q) []) line

    tree_then : (q : ℕ) → q < places p → (b : Bool) → is_place q (place p t) ≡ b
        → cond b (set (front_changed (get_or old.seating.seats.items t 0) (λ n. n - q0) (get_or old.trees.items q [])) (get_or old.seating.seats.items t 0) None) (get_or old.trees.items q [])
        ≡ values (there p q) (left_of new) (held_by p (swept p t (sizes s.held)) q) [] (xs ++ t ∷ ys)
    tree_then q l true e =
        ap (λ (n : ℕ). set (front_changed n (λ m. m - q0) (get_or old.trees.items q [])) n None) (seat q (is_there q (place p t) e))
        ∙ ap (λ (d : ℕ). set (front_changed (length (filter (there p q) xs)) (λ m. m - d) (get_or old.trees.items q [])) (length (filter (there p q) xs)) None) (sym (frees q (is_there q (place p t) e)))
        ∙ ap (λ (vs : List (Option ℕ)). set (front_changed (length (filter (there p q) xs)) (λ m. m - held_part p (sizes s.held) q g) vs) (length (filter (there p q) xs)) None) (old_tree q l)
        ∙ sym (sweep_here p s.phase (sizes s.held) (left_of old) (left_of new) xs t ys q g peaks.rules.keeps l its makes_none unmade_before unmade_behind follows ready on gone (same_but (left_of old) (left_of new) t is.left xs apart.0) (same_but (left_of old) (left_of new) t is.left ys apart.1) e)
    tree_then q l false e = old_tree q l ∙ sym (sweep_there p (sizes s.held) (left_of old) (left_of new) xs t ys q peaks.rules.one l makes_none unmade_before unmade_behind on gone (same_but (left_of old) (left_of new) t is.left xs apart.0) (same_but (left_of old) (left_of new) t is.left ys apart.1) e)

-- A Clean of the line keeps what the trees say.
pub swept_at : (p : Plan) (s : State) (old new : Peaks) (w k g frees : ℕ) → ArePeaks p s old → k < length (line_of old) → left_of old (get_or (line_of old) k 0) ≡ true → Allowed p s (Clean w (get_or (line_of old) k 0)) → ((u : ℕ) → AreOnce (parents p u))
    → ((x : ℕ) → cleans p (get_or (line_of old) k 0) x ≡ nat_eq g x) → ((q : ℕ) → place p (get_or (line_of old) k 0) ≡ Some q → held_part p (sizes s.held) q g ≡ frees) → IsSwept p old new (get_or (line_of old) k 0) frees
    → ArePeaks p (after p s (Clean w (get_or (line_of old) k 0))) new
swept_at p s old new w k g frees peaks l on allowed once_parents its free is =
    swept_by p s old new w (get_or (line_of old) k 0) g frees (take k (line_of old)) (drop (suc k) (line_of old)) peaks (split (line_of old) k l) allowed its free is on once_parents (λ q at. peaks.seated.counted.seat k q l at)
    (subst (Follows p s.phase) (rest_split p s old k peaks l on) (follows_of p s.phase s.held s.rest peaks.sound.safe))
