-- The first task of rest, which waited again, begins: what trees say is kept.
use Rattle.std.proofs.Common.{◌≡◌, ℕ, ◌+◌, ◌-◌, ◌<◌, ◌||◌, Bool, true, false, cond, nat_eq, List, [], ◌∷◌, ◌++◌, take, get_or, Option, Some, None, refl, sym, ap, subst, ◌∙◌, arith}
use Rattle.std.specs.Prelude.{filter}
use Rattle.std.proofs.lemmas.List.Folds.{list_any-append}
use Rattle.place_peaks.proofs.Offered.{cleaned_held, false_of, follows_of, has_head, has_take, maker_of, not_both, or_case, or_left, or_right, sound_more, without_has, without_head}
use Rattle.lease_rules.specs.Choice.{HaveParentsEnded}
use Rattle.lease_rules.specs.code.Law.{IsSoundState}
use Rattle.lease_rules.specs.Legal.{Allowed}
use Rattle.lease_rules.specs.State.{State, after, reserved_for, without}
use Rattle.plan_core.specs.declared.plan.Plan.{Plan}
use Rattle.plan_core.specs.Numbers.{has}
use Rattle.plan_core.specs.Words.{cleans, is_clean, parents}
use Rattle.run_record.specs.Events.{Clean, Grant}
use Rattle.storage_simulation.specs.code.Change.{held_part}
use Rattle.storage_simulation.specs.Following.{AreOnce}
use Rattle.storage_simulation.specs.code.Following.{Follows}
use Rattle.storage_simulation.specs.Goods.{makes, places}
use Rattle.storage_simulation.specs.code.Goods.{place}
use Rattle.storage_simulation.specs.Standings.{sizes, waits}
use Rattle.storage_simulation.specs.Usage.{made, usage}
use Rattle.place_peaks.specs.declared.peaks.Peaks.{Peaks}
use Rattle.place_peaks.specs.Cleaning.{IsSweptAgain}
use Rattle.place_peaks.specs.Granting.{IsGrantedAgain}
use Rattle.place_peaks.specs.Peaks.{AreBehind, HasRules, left_of, line_of}
use Rattle.place_peaks.specs.Places.{brings, held_by, is_place, started, swept, there}
use Rattle.place_peaks.specs.Values.{values}
use Rattle.place_peaks.proofs.AgainLemmas.{front_started, front_swept}
use Rattle.place_peaks.proofs.CleaningLemmas.{brings_kept, ends_more, swept_sizes}
use Rattle.place_peaks.proofs.CountLemmas.{counts_end, counts_run, still_open}
use Rattle.place_peaks.proofs.DecisionLemmas.{no_wait, started_sizes}
use Rattle.place_peaks.proofs.GrantingLemmas.{brings_same, ended_stays}
use Rattle.place_peaks.proofs.PlacesLemmas.{AreUnmade, brings_more, is_there, not_there}
use Rattle.place_peaks.proofs.UsageLemmas.{Adds, start_adds, start_usage, sweep_takes, sweep_usage, usage_away}
use Rattle.place_peaks.proofs.ValuesLemmas.{OnFronts}

-- The first task of rest, and rest without it.
pub first_leaves : (rest : List ℕ) (t : ℕ) (ts : List ℕ) → rest ≡ t ∷ ts → AreOnce rest → without t rest ≡ ts
first_leaves rest t ts is once = ap (without t) is ∙ without_head t ts (subst AreOnce is once)

pub first_stays : (rest : List ℕ) (t : ℕ) (ts : List ℕ) → rest ≡ t ∷ ts → AreOnce rest → t ∷ without t rest ≡ rest
first_stays rest t ts is once = ap (λ (zs : List ℕ). t ∷ zs) (first_leaves rest t ts is once) ∙ sym is

-- what is the same for the lemmas on the first task of rest: it waits, and its parents have ended
pub record IsFirst (p : Plan) (s : State) (t : ℕ) (ts : List ℕ) : Type 0 where
  pub rules : HasRules p
  pub sound : IsSoundState p s
  pub is : s.rest ≡ t ∷ ts
  pub parents_ended : HaveParentsEnded p s t

follows_first : (p : Plan) (s : State) (t : ℕ) (ts : List ℕ) → IsFirst p s t ts → Follows p s.phase ([] ++ t ∷ ts)
follows_first p s t ts first = subst (Follows p s.phase) first.is (follows_of p s.phase s.held s.rest first.sound.safe)

ready_first : (p : Plan) (s : State) (t : ℕ) (ts : List ℕ) → IsFirst p s t ts → (u : ℕ) → has (parents p t) u ≡ true → waits (s.phase u) ≡ false
ready_first p s t ts first u m = no_wait (s.phase u) (first.parents_ended u m)

-- what a place holds once the first task of rest has started
pub first_brings : (p : Plan) (s : State) (t : ℕ) (ts : List ℕ) (q : ℕ) → IsFirst p s t ts → is_clean p t ≡ false → q < places p → usage p (sizes (reserved_for p t s.held)) [] q ≡ usage p (sizes s.held) [] q + brings p (sizes s.held) q t
first_brings p s t ts q first kind l =
    let adds : Adds p (sizes s.held) [] t q = start_adds p s.phase (sizes s.held) [] ts t q 0 first.rules.keeps l (λ g. first.rules.laws.cleans_only t g kind) (follows_first p s t ts first) (ready_first p s t ts first) in
    let more = brings_more p (sizes s.held) q t first.sound.small in
    let same : usage p (started p t (sizes s.held)) [] q ≡ usage p (sizes s.held) ([] ++ t ∷ []) q = start_usage p (sizes s.held) [] t q (λ g. first.rules.laws.cleans_only t g kind) in
    let is = ap (λ (f : ℕ → ℕ). usage p f [] q) (started_sizes p t s.held) in
    omega (arith, adds.0, adds.1, more, same, is)

pub first_brings_away : (p : Plan) (s : State) (t : ℕ) (ts : List ℕ) (q : ℕ) → IsFirst p s t ts → is_clean p t ≡ false → q < places p → (place p t ≡ Some q → ⊥) → usage p (sizes (reserved_for p t s.held)) [] q ≡ usage p (sizes s.held) [] q
first_brings_away p s t ts q first kind l away =
    ap (λ (f : ℕ → ℕ). usage p f [] q) (started_sizes p t s.held)
    ∙ start_usage p (sizes s.held) [] t q (λ g. first.rules.laws.cleans_only t g kind)
    ∙ usage_away p (sizes s.held) [] t q first.rules.one l away

-- and once the first task of rest, a Clean, is done
pub first_frees : (p : Plan) (s : State) (t : ℕ) (ts : List ℕ) (q g : ℕ) → IsFirst p s t ts → is_clean p t ≡ true → ((x : ℕ) → cleans p t x ≡ nat_eq g x) → q < places p
    → usage p (sizes (cleaned_held p t s.held)) [] q + held_part p (sizes s.held) q g ≡ usage p (sizes s.held) [] q
first_frees p s t ts q g first kind its l =
    let takes : usage p (sizes s.held) ([] ++ t ∷ []) q + held_part p (sizes s.held) q g ≡ usage p (sizes s.held) [] q = sweep_takes p s.phase (sizes s.held) [] ts t q 0 g first.rules.keeps l its (follows_first p s t ts first) (ready_first p s t ts first) in
    let same : usage p (swept p t (sizes s.held)) [] q ≡ usage p (sizes s.held) ([] ++ t ∷ []) q = sweep_usage p (sizes s.held) [] t q (λ x. first.rules.laws.cleans_make t x kind) (λ x m. refl) in
    let is = ap (λ (f : ℕ → ℕ). usage p f [] q) (swept_sizes p t s.held) in
    omega (arith, takes, same, is)

pub first_frees_away : (p : Plan) (s : State) (t : ℕ) (ts : List ℕ) (q : ℕ) → IsFirst p s t ts → is_clean p t ≡ true → q < places p → (place p t ≡ Some q → ⊥) → usage p (sizes (cleaned_held p t s.held)) [] q ≡ usage p (sizes s.held) [] q
first_frees_away p s t ts q first kind l away =
    ap (λ (f : ℕ → ℕ). usage p f [] q) (swept_sizes p t s.held)
    ∙ sweep_usage p (sizes s.held) [] t q (λ x. first.rules.laws.cleans_make t x kind) (λ x m. refl)
    ∙ usage_away p (sizes s.held) [] t q first.rules.one l away

-- tasks of rest make nothing that the ended parents of a Clean have made
pub first_unmade : (p : Plan) (s : State) (t : ℕ) (ts : List ℕ) → IsFirst p s t ts → (front : List ℕ) → ((u : ℕ) → has front u ≡ true → has s.rest u ≡ true) → AreUnmade p t front
first_unmade p s t ts first front inside x c = false_of (made p front x) (λ m. let u = maker_of p front x m in not_both (s.phase u.0) (first.sound.safe.waiting u.0 (inside u.0 u.1)) (first.parents_ended u.0 (first.rules.laws.cleans_after t u.0 x c u.2)))

has_both : (xs ys : List ℕ) (u : ℕ) → has (xs ++ ys) u ≡ (has xs u || has ys u)
has_both xs ys u = list_any-append (λ y. nat_eq y u) xs ys

has_front : (xs ys : List ℕ) (k u : ℕ) → has (xs ++ take k ys) u ≡ true → has (xs ++ ys) u ≡ true
has_front xs ys k u m = has_both xs ys u ∙ or_case (has xs u) (has (take k ys) u) (sym (has_both xs (take k ys) u) ∙ m) (λ a. or_left (has xs u) (has ys u) a) (λ b. or_right (has xs u) (has ys u) (has_take ys k u b))

pub first_of : (p : Plan) (s : State) (b : Peaks) (front : List ℕ) (t : ℕ) → AreBehind p s b (t ∷ front) → IsFirst p s t (front ++ filter (left_of b) (line_of b))
first_of p s b front t peaks = record {
  rules = peaks.rules;
  sound = peaks.sound;
  is = peaks.rest;
  parents_ended = peaks.waiting t (has_head t front);
}

-- its grant
pub granted_again : (p : Plan) (s : State) (old new : Peaks) (front : List ℕ) (w t : ℕ) → AreBehind p s old (t ∷ front) → Allowed p s (Grant w t) → IsGrantedAgain old new t → AreBehind p (after p s (Grant w t)) new front
granted_again p s old new front w t peaks allowed is = subst (λ (b : Peaks). AreBehind p (after p s (Grant w t)) b front) (sym is.same) (record {
  rules = peaks.rules;
  sound = sound_more p s (Grant w t) peaks.rules.laws peaks.sound allowed;
  seated = peaks.seated;
  marked = λ u m. peaks.marked u m;
  marks_long = peaks.marks_long;
  bases_long = is.bases_long ∙ peaks.bases_long;
  trees_long = peaks.trees_long;
  missing_long = peaks.missing_long;
  rest = first_leaves s.rest t (front ++ filter (left_of old) (line_of old)) peaks.rest peaks.sound.safe.once;
  waiting = λ u m v n. ended_stays s.phase t v waiting (peaks.waiting u (or_right (nat_eq t u) (has front u) m) v n);
  needs = λ u q m kind at. peaks.needs u q (was u m) kind at ∙ sym (brings_same p s.held t u q (λ g n. false_of (has (makes p t) g) (λ j. absurd (let same : t ≡ u = peaks.rules.laws.one_maker t u g j n in let off = (without_has t u s.rest m).1 in let yes : nat_eq t u ≡ true = grind (arith, same) in cc))));
  counts = λ u low. peaks.counts u low ∙ counts_run s.phase t (parents p u) waiting;
  bases = λ q l. is.base q ∙ ap (λ (o : Option ℕ). cond (is_place q o) (get_or old.base.items q 0 + get_or old.needs.items t 0) (get_or old.base.items q 0)) home ∙ base_then q l (is_place q (place p t)) refl;
  trees = λ q l. peaks.trees q l ∙ sym (front_started p (sizes s.held) (left_of old) front (line_of old) t q (λ g. peaks.rules.laws.cleans_only t g allowed.1))
      ∙ ap (λ (f : ℕ → ℕ). values (there p q) (left_of old) (held_by p f q) front (line_of old)) (sym (started_sizes p t s.held));
})
  where
    in_rest : has s.rest t ≡ true
    in_rest = ap (λ (zs : List ℕ). has zs t) peaks.rest ∙ has_head t (front ++ filter (left_of old) (line_of old))

    waiting : waits (s.phase t) ≡ true
    waiting = peaks.sound.safe.waiting t in_rest

    home : get_or old.seating.homes.items t None ≡ place p t
    home = peaks.seated.homes t (peaks.sound.safe.tasks t in_rest)

    was : (u : ℕ) → has (without t s.rest) u ≡ true → has s.rest u ≡ true
    was u m = (without_has t u s.rest m).0

    first : IsFirst p s t (front ++ filter (left_of old) (line_of old))
    first = first_of p s old front t peaks

    base_then : (q : ℕ) → q < places p → (b : Bool) → is_place q (place p t) ≡ b → cond b (get_or old.base.items q 0 + get_or old.needs.items t 0) (get_or old.base.items q 0) ≡ usage p (sizes (reserved_for p t s.held)) [] q
    base_then q l true e =
        let holds = first_brings p s t (front ++ filter (left_of old) (line_of old)) q first allowed.1 l in
        let base = peaks.bases q l in
        let need = peaks.needs t q in_rest allowed.1 (is_there q (place p t) e) in
        omega (arith, holds, base, need)
    base_then q l false e = peaks.bases q l ∙ sym (first_brings_away p s t (front ++ filter (left_of old) (line_of old)) q first allowed.1 l (not_there q (place p t) e))

-- its Clean
pub swept_again : (p : Plan) (s : State) (old new : Peaks) (front : List ℕ) (w t g frees : ℕ) → AreBehind p s old (t ∷ front) → Allowed p s (Clean w t) → ((u : ℕ) → AreOnce (parents p u))
    → ((x : ℕ) → cleans p t x ≡ nat_eq g x) → ((q : ℕ) → place p t ≡ Some q → held_part p (sizes s.held) q g ≡ frees) → IsSweptAgain p old new t frees → AreBehind p (after p s (Clean w t)) new front
swept_again p s old new front w t g q0 peaks allowed once_parents its frees is = subst (λ (b : Peaks). AreBehind p (after p s (Clean w t)) b front) (sym is.same) (record {
  rules = peaks.rules;
  sound = sound_more p s (Clean w t) peaks.rules.laws peaks.sound allowed;
  seated = peaks.seated;
  marked = λ u m. peaks.marked u m;
  marks_long = peaks.marks_long;
  bases_long = is.bases_long ∙ peaks.bases_long;
  trees_long = peaks.trees_long;
  missing_long = is.missing_long ∙ peaks.missing_long;
  rest = first_leaves s.rest t (front ++ filter (left_of old) (line_of old)) peaks.rest peaks.sound.safe.once;
  waiting = λ u m v n. ends_more s.phase t v (peaks.waiting u (or_right (nat_eq t u) (has front u) m) v n);
  needs = λ u q m kind at. peaks.needs u q (was u m) kind at ∙ sym (brings_kept p s.held t u q (λ x n. false_of (cleans p t x) (λ c. not_both (s.phase u) (peaks.sound.safe.waiting u (was u m)) (allowed.2.can.parents_ended u (peaks.rules.laws.cleans_after t u x c n)))));
  counts = λ u low. let less = is.missing u low in let had = peaks.counts u low in let now = counts_end s.phase t (parents p u) (once_parents u) (still_open (s.phase t) waiting) in omega (arith, less, had, now);
  bases = λ q l. is.base q ∙ ap (λ (o : Option ℕ). cond (is_place q o) (get_or old.base.items q 0 - q0) (get_or old.base.items q 0)) home ∙ base_then q l (is_place q (place p t)) refl;
  trees = λ q l. peaks.trees q l ∙ sym (front_swept p (sizes s.held) (left_of old) front (line_of old) t q (λ x. peaks.rules.laws.cleans_make t x allowed.1) unmade)
      ∙ ap (λ (f : ℕ → ℕ). values (there p q) (left_of old) (held_by p f q) front (line_of old)) (sym (swept_sizes p t s.held));
})
  where
    in_rest : has s.rest t ≡ true
    in_rest = ap (λ (zs : List ℕ). has zs t) peaks.rest ∙ has_head t (front ++ filter (left_of old) (line_of old))

    waiting : waits (s.phase t) ≡ true
    waiting = peaks.sound.safe.waiting t in_rest

    home : get_or old.seating.homes.items t None ≡ place p t
    home = peaks.seated.homes t (peaks.sound.safe.tasks t in_rest)

    was : (u : ℕ) → has (without t s.rest) u ≡ true → has s.rest u ≡ true
    was u m = (without_has t u s.rest m).0

    first : IsFirst p s t (front ++ filter (left_of old) (line_of old))
    first = first_of p s old front t peaks

    unmade : OnFronts (λ zs. AreUnmade p t (front ++ zs)) (filter (left_of old) (line_of old))
    unmade k = first_unmade p s t (front ++ filter (left_of old) (line_of old)) first (front ++ take k (filter (left_of old) (line_of old)))
        (λ u m. ap (λ (zs : List ℕ). has zs u) peaks.rest ∙ or_right (nat_eq t u) (has (front ++ filter (left_of old) (line_of old)) u) (has_front front (filter (left_of old) (line_of old)) k u m))

    base_then : (q : ℕ) → q < places p → (b : Bool) → is_place q (place p t) ≡ b → cond b (get_or old.base.items q 0 - q0) (get_or old.base.items q 0) ≡ usage p (sizes (cleaned_held p t s.held)) [] q
    base_then q l true e =
        let holds = first_frees p s t (front ++ filter (left_of old) (line_of old)) q g first allowed.1 its l in
        let base = peaks.bases q l in
        let free = frees q (is_there q (place p t) e) in
        omega (arith, holds, base, free)
    base_then q l false e = peaks.bases q l ∙ sym (first_frees_away p s t (front ++ filter (left_of old) (line_of old)) q first allowed.1 l (not_there q (place p t) e))
