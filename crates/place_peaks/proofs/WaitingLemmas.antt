-- An Again keeps what trees say, and puts the task to the front.
use Rattle.std.proofs.Common.{◌≡◌, ℕ, suc, ◌-◌, ◌<◌, inl, inr, Bool, true, false, cond, nat_eq, List, [], ◌∷◌, ◌++◌, length, take, drop, get_or, Option, Some, None, refl, sym, ap, subst, ◌∙◌, arith, eqb-true}
use Rattle.std.specs.Prelude.{filter, not, set}
use Rattle.place_peaks.proofs.Offered.{false_of, filter_without, follows_of, has_head, is_waiting, or_case, sound_more, sum_same, without_absent, without_has}
use Rattle.lease_rules.specs.Choice.{HaveParentsEnded, IsChoice}
use Rattle.lease_rules.specs.code.Law.{IsSoundState}
use Rattle.lease_rules.specs.Legal.{Allowed, MayFail}
use Rattle.lease_rules.specs.State.{State, after, ended, put, without}
use Rattle.plan_core.specs.declared.plan.Plan.{Plan}
use Rattle.plan_core.specs.Numbers.{has}
use Rattle.plan_core.specs.Words.{cleans, is_clean, parents}
use Rattle.run_record.specs.declared.entry.Cause.{Cause}
use Rattle.run_record.specs.Events.{Again, Fail}
use Rattle.storage_simulation.specs.declared.standing.Phase.{Phase}
use Rattle.storage_simulation.specs.declared.standing.Phase.TheVariants.{Runs, Waits}
use Rattle.storage_simulation.specs.code.Change.{held_part, size_part}
use Rattle.storage_simulation.specs.Following.{AreOnce}
use Rattle.storage_simulation.specs.code.Following.{Follows}
use Rattle.storage_simulation.specs.Goods.{good_size, lies_at, makes, places}
use Rattle.storage_simulation.specs.code.Goods.{place}
use Rattle.storage_simulation.specs.Standings.{held_size, sizes, waits}
use Rattle.place_peaks.specs.declared.peaks.Peaks.{Peaks}
use Rattle.place_peaks.specs.Peaks.{AreBehind, ArePeaks, left_of, line_of}
use Rattle.place_peaks.specs.Waiting.{IsAgain, IsMoved}
use Rattle.place_peaks.specs.Places.{brings, held_by, is_place, there}
use Rattle.place_peaks.specs.Tree.{front_changed}
use Rattle.place_peaks.proofs.ChoosingLemmas.{rest_split, split}
use Rattle.place_peaks.proofs.DecisionLemmas.{no_wait}
use Rattle.place_peaks.proofs.FirstLemmas.{first_stays}
use Rattle.place_peaks.proofs.GrantingLemmas.{absent_first, and_false, and_first, has_in, same_but}
use Rattle.place_peaks.proofs.PlacesLemmas.{is_there}
use Rattle.place_peaks.specs.Values.{values}
use Rattle.place_peaks.proofs.CountLemmas.{open_one, sum_map}
use Rattle.place_peaks.proofs.SettleLemmas.{again_clean_here, again_clean_there, again_values}

-- phases
ended_waits : (f : ℕ → Phase) (t v : ℕ) → f t ≡ Runs → ended (f v) ≡ ended (put f t Waits v)
ended_waits f t v runs = by (nat_eq t v) refl
  where
    by : (b : Bool) → nat_eq t v ≡ b → ended (f v) ≡ ended (cond b Waits (f v))
    by true e = ap (λ (n : ℕ). ended (f n)) (sym (eqb-true t v e)) ∙ ap ended runs
    by false e = refl

-- what is held at the declared size is brought no more
brings_none : (p : Plan) (size : ℕ → ℕ) (q t : ℕ) → ((g : ℕ) → has (makes p t) g ≡ true → size g ≡ good_size p g) → brings p size q t ≡ 0
brings_none p size q t held =
    let same = sum_same (held_part p size q) (size_part p q) (makes p t) (λ g m. ap (λ (n : ℕ). cond (lies_at p g q) n 0) (held g m)) in
    omega (arith, same)

pub again_by : (p : Plan) (s : State) (old new : Peaks) (front : List ℕ) (w t : ℕ) (c : Cause) (ns : List ℕ) → AreBehind p s old front → Allowed p s (Again w t c ns) → s.phase t ≡ Runs → IsAgain old new t
    → AreBehind p (after p s (Again w t c ns)) new (t ∷ front)
again_by p s old new front w t c ns peaks allowed runs is = subst (λ (b : Peaks). AreBehind p (after p s (Again w t c ns)) b (t ∷ front)) (sym is.same) (record {
  rules = peaks.rules;
  sound = sound_more p s (Again w t c ns) peaks.rules.laws peaks.sound allowed;
  seated = peaks.seated;
  marked = λ u m. peaks.marked u m;
  marks_long = peaks.marks_long;
  bases_long = peaks.bases_long;
  trees_long = peaks.trees_long;
  missing_long = peaks.missing_long;
  rest = ap (λ (zs : List ℕ). t ∷ zs) (without_absent t s.rest absent ∙ peaks.rest);
  waiting = λ u m v n. still v (or_case (nat_eq t u) (has front u) m (λ at. peaks.sound.running_parents t v runs (ap (λ (k : ℕ). has (parents p k) v) (eqb-true t u at) ∙ n)) (λ k. peaks.waiting u k v n));
  needs = λ u q m kind at. is.needs u ∙ need u q (nat_eq t u) refl m kind at;
  counts = λ u low. peaks.counts u low ∙ sum_map (open_one s.phase) (open_one (put s.phase t Waits)) (parents p u) (λ v. ap (λ (b : Bool). cond b 0 1) (ended_waits s.phase t v runs));
  bases = λ q l. peaks.bases q l;
  trees = λ q l. peaks.trees q l ∙ sym (again_values p (sizes s.held) (left_of old) front (line_of old) t q unclean held);
})
  where
    absent : has s.rest t ≡ false
    absent = false_of (has s.rest t) (λ h. absurd (let wait = peaks.sound.safe.waiting t h in let no : waits (s.phase t) ≡ false = ap waits runs in cc))

    still : (v : ℕ) → ended (s.phase v) ≡ true → ended (put s.phase t Waits v) ≡ true
    still v e = sym (ended_waits s.phase t v runs) ∙ e

    unclean : (g : ℕ) → cleans p t g ≡ false
    unclean g = peaks.rules.laws.cleans_only t g (peaks.sound.running_kind t runs).0

    held : (g : ℕ) → has (makes p t) g ≡ true → sizes s.held g ≡ good_size p g
    held g m = ap held_size (peaks.sound.running_held t g runs m)

    need : (u q : ℕ) (b : Bool) → nat_eq t u ≡ b → has (t ∷ without t s.rest) u ≡ true → is_clean p u ≡ false → place p u ≡ Some q → cond b 0 (get_or old.needs.items u 0) ≡ brings p (sizes s.held) q u
    need u q true e m kind at = sym (brings_none p (sizes s.held) q u (λ g n. held g (ap (λ (k : ℕ). has (makes p k) g) (eqb-true t u e) ∙ n)))
    need u q false e m kind at = peaks.needs u q (or_case (nat_eq t u) (has (without t s.rest) u) m (λ y. absurd (let no = e in cc)) (λ n. ap (λ (zs : List ℕ). has zs u) (sym (without_absent t s.rest absent)) ∙ n)) kind at

-- a task that waits goes on to wait
wait_stays : (f : ℕ → Phase) (t v : ℕ) → waits (f t) ≡ true → put f t Waits v ≡ f v
wait_stays f t v w = by (nat_eq t v) refl
  where
    by : (b : Bool) → nat_eq t v ≡ b → cond b Waits (f v) ≡ f v
    by true e = sym (ap f (sym (eqb-true t v e)) ∙ is_waiting (f t) w)
    by false e = refl

-- An Again of the first task of rest, a Clean that waited again, changes nothing.
pub again_first : (p : Plan) (s : State) (b : Peaks) (front : List ℕ) (w t : ℕ) (c : Cause) (ns : List ℕ) → AreBehind p s b (t ∷ front) → Allowed p s (Again w t c ns) → AreBehind p (after p s (Again w t c ns)) b (t ∷ front)
again_first p s b front w t c ns peaks allowed = record {
  rules = peaks.rules;
  sound = sound_more p s (Again w t c ns) peaks.rules.laws peaks.sound allowed;
  seated = peaks.seated;
  marked = peaks.marked;
  marks_long = peaks.marks_long;
  bases_long = peaks.bases_long;
  trees_long = peaks.trees_long;
  rest = stays ∙ peaks.rest;
  waiting = λ u m v n. ap ended (wait_stays s.phase t v waiting) ∙ peaks.waiting u m v n;
  needs = λ u q m kind at. peaks.needs u q (ap (λ (zs : List ℕ). has zs u) (sym stays) ∙ m) kind at;
  missing_long = peaks.missing_long;
  counts = λ u low. peaks.counts u low ∙ sum_map (open_one s.phase) (open_one (put s.phase t Waits)) (parents p u) (λ v. ap (λ (x : Phase). cond (ended x) 0 1) (sym (wait_stays s.phase t v waiting)));
  bases = peaks.bases;
  trees = peaks.trees;
}
  where
    head : s.rest ≡ t ∷ (front ++ filter (left_of b) (line_of b))
    head = peaks.rest

    stays : t ∷ without t s.rest ≡ s.rest
    stays = first_stays s.rest t (front ++ filter (left_of b) (line_of b)) head peaks.sound.safe.once

    waiting : waits (s.phase t) ≡ true
    waiting = peaks.sound.safe.waiting t (ap (λ (zs : List ℕ). has zs t) head ∙ has_head t (front ++ filter (left_of b) (line_of b)))

-- An Again of a Clean of the line puts it to the front.
moved_by : (p : Plan) (s : State) (old new : Peaks) (w t g frees : ℕ) (c : Cause) (ns xs ys : List ℕ) → ArePeaks p s old → line_of old ≡ xs ++ t ∷ ys → Allowed p s (Again w t c ns) → HaveParentsEnded p s t
    → ((x : ℕ) → cleans p t x ≡ nat_eq g x) → ((q : ℕ) → place p t ≡ Some q → held_part p (sizes s.held) q g ≡ frees) → IsMoved old new t frees → left_of old t ≡ true
    → ((q : ℕ) → place p t ≡ Some q → get_or old.seating.seats.items t 0 ≡ length (filter (there p q) xs))
    → s.rest ≡ filter (left_of old) xs ++ t ∷ filter (left_of old) ys → AreBehind p (after p s (Again w t c ns)) new (t ∷ [])
moved_by p s old new w t g frees c ns xs ys peaks line allowed parents_ended its free is on seat rest_is = subst (λ (b : Peaks). AreBehind p (after p s (Again w t c ns)) b (t ∷ [])) (sym is.same) (record {
  rules = peaks.rules;
  sound = sound_more p s (Again w t c ns) peaks.rules.laws peaks.sound allowed;
  seated = peaks.seated;
  marked = λ u m. peaks.marked u (and_first (left_of old u) (not (nat_eq t u)) (sym (is.left u) ∙ m));
  marks_long = is.marks_long ∙ peaks.marks_long;
  bases_long = peaks.bases_long;
  trees_long = is.trees_long ∙ peaks.trees_long;
  missing_long = peaks.missing_long;
  rest = ap (λ (zs : List ℕ). t ∷ zs) (ap (without t) peaks.rest ∙ sym (filter_without (left_of old) (left_of new) t is.left (line_of old)));
  waiting = λ u m v n. ap ended (wait_stays s.phase t v waiting) ∙ or_case (nat_eq t u) false m (λ at. parents_ended v (ap (λ (k : ℕ). has (parents p k) v) (eqb-true t u at) ∙ n)) (λ no. absurd cc);
  needs = λ u q m kind at. peaks.needs u q (or_case (nat_eq t u) (has (without t s.rest) u) m (λ y. ap (has s.rest) (sym (eqb-true t u y)) ∙ in_rest) (λ n. (without_has t u s.rest n).0)) kind at;
  counts = λ u low. peaks.counts u low ∙ sum_map (open_one s.phase) (open_one (put s.phase t Waits)) (parents p u) (λ v. ap (λ (x : Phase). cond (ended x) 0 1) (sym (wait_stays s.phase t v waiting)));
  bases = λ q l. peaks.bases q l;
  trees = λ q l. is.trees q ∙ ap (λ (o : Option ℕ). cond (is_place q o) (set (front_changed (get_or old.seating.seats.items t 0) (λ n. n - frees) (get_or old.trees.items q [])) (get_or old.seating.seats.items t 0) None) (get_or old.trees.items q [])) home ∙ tree_then q l (is_place q (place p t)) refl
      ∙ ap (values (there p q) (left_of new) (held_by p (sizes s.held) q) (t ∷ [])) (sym line);
})
  where
    in_rest : has s.rest t ≡ true
    in_rest = ap (λ (zs : List ℕ). has zs t) rest_is ∙ has_in (filter (left_of old) xs) t (filter (left_of old) ys)

    waiting : waits (s.phase t) ≡ true
    waiting = peaks.sound.safe.waiting t in_rest

    home : get_or old.seating.homes.items t None ≡ place p t
    home = peaks.seated.homes t (peaks.sound.safe.tasks t in_rest)

    gone : left_of new t ≡ false
    gone = is.left t ∙ and_false (left_of old t) (nat_eq t t) (let e : nat_eq t t ≡ true = grind arith in e)

    apart : (has xs t ≡ false) × (has ys t ≡ false)
    apart = absent_first xs t ys (subst AreOnce line peaks.seated.once)

    ready : (u : ℕ) → has (parents p t) u ≡ true → waits (s.phase u) ≡ false
    ready u m = no_wait (s.phase u) (parents_ended u m)

    follows : Follows p s.phase (filter (left_of old) xs ++ t ∷ filter (left_of old) ys)
    follows = subst (Follows p s.phase) rest_is (follows_of p s.phase s.held s.rest peaks.sound.safe)

    old_tree : (q : ℕ) → q < places p → get_or old.trees.items q [] ≡ values (there p q) (left_of old) (held_by p (sizes s.held) q) [] (xs ++ t ∷ ys)
    old_tree q l = peaks.trees q l ∙ ap (values (there p q) (left_of old) (held_by p (sizes s.held) q) []) line

    tree_then : (q : ℕ) → q < places p → (b : Bool) → is_place q (place p t) ≡ b
        → cond b (set (front_changed (get_or old.seating.seats.items t 0) (λ n. n - frees) (get_or old.trees.items q [])) (get_or old.seating.seats.items t 0) None) (get_or old.trees.items q [])
        ≡ values (there p q) (left_of new) (held_by p (sizes s.held) q) (t ∷ []) (xs ++ t ∷ ys)
    tree_then q l true e =
        ap (λ (n : ℕ). set (front_changed n (λ m. m - frees) (get_or old.trees.items q [])) n None) (seat q (is_there q (place p t) e))
        ∙ ap (λ (d : ℕ). set (front_changed (length (filter (there p q) xs)) (λ m. m - d) (get_or old.trees.items q [])) (length (filter (there p q) xs)) None) (sym (free q (is_there q (place p t) e)))
        ∙ ap (λ (vs : List (Option ℕ)). set (front_changed (length (filter (there p q) xs)) (λ m. m - held_part p (sizes s.held) q g) vs) (length (filter (there p q) xs)) None) (old_tree q l)
        ∙ sym (again_clean_here p s.phase (sizes s.held) (left_of old) (left_of new) xs t ys q g peaks.rules.keeps l its follows ready on gone (same_but (left_of old) (left_of new) t is.left xs apart.0) (same_but (left_of old) (left_of new) t is.left ys apart.1) e)
    tree_then q l false e = old_tree q l ∙ sym (again_clean_there p (sizes s.held) (left_of old) (left_of new) xs t ys q peaks.rules.one l on gone (same_but (left_of old) (left_of new) t is.left xs apart.0) (same_but (left_of old) (left_of new) t is.left ys apart.1) e)

-- a Clean that may fail is the Choice
pub clean_choice : (p : Plan) (s : State) (w t : ℕ) → IsSoundState p s → is_clean p t ≡ true → MayFail p s w t → IsChoice p s t
clean_choice p s w t sound kind (inl o) = absurd (let no = (sound.running_kind t o.runs).0 in cc)
clean_choice p s w t sound kind (inr k) = k.1

pub moved_at : (p : Plan) (s : State) (old new : Peaks) (w k g frees : ℕ) (c : Cause) (ns : List ℕ) → ArePeaks p s old → k < length (line_of old) → left_of old (get_or (line_of old) k 0) ≡ true
    → is_clean p (get_or (line_of old) k 0) ≡ true → Allowed p s (Again w (get_or (line_of old) k 0) c ns)
    → ((x : ℕ) → cleans p (get_or (line_of old) k 0) x ≡ nat_eq g x) → ((q : ℕ) → place p (get_or (line_of old) k 0) ≡ Some q → held_part p (sizes s.held) q g ≡ frees) → IsMoved old new (get_or (line_of old) k 0) frees
    → AreBehind p (after p s (Again w (get_or (line_of old) k 0) c ns)) new (get_or (line_of old) k 0 ∷ [])
moved_at p s old new w k g frees c ns peaks l on kind allowed its free is =
    moved_by p s old new w (get_or (line_of old) k 0) g frees c ns (take k (line_of old)) (drop (suc k) (line_of old)) peaks (split (line_of old) k l) allowed
    (clean_choice p s w (get_or (line_of old) k 0) peaks.sound kind allowed.1).can.parents_ended its free is on (λ q at. peaks.seated.counted.seat k q l at) (rest_split p s old k peaks l on)

-- A Fail changes nothing.
pub failed_by : (p : Plan) (s : State) (b : Peaks) (front : List ℕ) (w t : ℕ) (c : Cause) (ns : List ℕ) → AreBehind p s b front → Allowed p s (Fail w t c ns) → AreBehind p (after p s (Fail w t c ns)) b front
failed_by p s b front w t c ns peaks allowed = record {
  rules = peaks.rules;
  sound = peaks.sound;
  seated = peaks.seated;
  marked = peaks.marked;
  marks_long = peaks.marks_long;
  bases_long = peaks.bases_long;
  trees_long = peaks.trees_long;
  rest = peaks.rest;
  waiting = peaks.waiting;
  needs = peaks.needs;
  missing_long = peaks.missing_long;
  counts = peaks.counts;
  bases = peaks.bases;
  trees = peaks.trees;
}
