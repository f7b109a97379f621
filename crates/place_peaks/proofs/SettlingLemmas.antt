-- The Arrive or the End of a task keeps what trees say.
use Rattle.std.proofs.Common.{◌≡◌, ℕ, suc, ◌-◌, ◌≤◌, ◌<◌, ◌||◌, inl, inr, Bool, true, false, cond, nat_eq, eqb-true, List, [], ◌∷◌, ◌++◌, length, take, drop, get_or, Option, Some, None, refl, sym, ap, subst, ◌∙◌, arith}
use Rattle.std.specs.Prelude.{filter, replicate}
use Rattle.std.proofs.Math.Path.{fun_ext}
use Rattle.std.proofs.lemmas.List.Folds.{list_any-append}
use Rattle.place_peaks.proofs.Offered.{absent_filter, false_of, has_filter, has_head, has_take, maker_of, once_parts, or_case, or_left, or_right, place_of, rises_once, sound_more, sum_same}
use Rattle.lease_rules.specs.code.Law.{IsSoundState}
use Rattle.lease_rules.specs.Legal.{Allowed, AreDeclared}
use Rattle.lease_rules.specs.State.{State, after, ended, put, stored_among}
use Rattle.run_record.specs.Events.{Arrive, End}
use Rattle.plan_core.specs.declared.plan.Plan.{Plan}
use Rattle.plan_core.specs.Numbers.{has}
use Rattle.plan_core.specs.Words.{cleans, parents}
use Rattle.storage_simulation.specs.declared.standing.Held.{Held}
use Rattle.storage_simulation.specs.declared.standing.Held.TheVariants.{Stored}
use Rattle.storage_simulation.specs.declared.standing.Phase.{Phase}
use Rattle.storage_simulation.specs.declared.standing.Phase.TheVariants.{Ended, Runs}
use Rattle.storage_simulation.specs.code.Change.{held_part, size_part}
use Rattle.storage_simulation.specs.Following.{AreOnce}
use Rattle.storage_simulation.specs.Goods.{good_size, lies_at, makes, places}
use Rattle.storage_simulation.specs.code.Goods.{place}
use Rattle.storage_simulation.specs.Standings.{held_size, sizes, waits}
use Rattle.storage_simulation.specs.Usage.{cleaned, made, sum_of, usage}
use Rattle.place_peaks.specs.declared.links.Links.{Links}
use Rattle.place_peaks.specs.declared.peaks.Peaks.{Peaks}
use Rattle.place_peaks.specs.Links.{AreLinks, IsCleaner}
use Rattle.place_peaks.specs.Peaks.{AreBehind, left_of, line_of}
use Rattle.place_peaks.specs.Places.{brings, held_by, there}
use Rattle.place_peaks.specs.Settling.{IsSettled, count_at, count_by, lowered, settled}
use Rattle.place_peaks.specs.Tree.{front_changed}
use Rattle.place_peaks.specs.Values.{values}
use Rattle.place_peaks.proofs.ChoosingLemmas.{filter_split, placed_there, split, take_past}
use Rattle.place_peaks.proofs.CleaningLemmas.{ends_more}
use Rattle.place_peaks.proofs.CountLemmas.{counts_end, open_one, sum_map}
use Rattle.place_peaks.proofs.GrantingLemmas.{absent_first}
use Rattle.place_peaks.proofs.GoodsLemmas.{AreLess, HasCount, IsAlways, IsUntil, other_size, resized_all, settle_goods}
use Rattle.place_peaks.proofs.SettleLemmas.{resized, resized_away, resized_counts}

-- what is held after a settling, as a size
stored_sizes : (xs ns : List ℕ) (held : ℕ → Held) (g : ℕ) → held_size (stored_among xs ns g (held g)) ≡ resized_all xs ns (sizes held) g
stored_sizes [] ns held g = refl
stored_sizes (x ∷ xs) [] held g = refl
stored_sizes (x ∷ xs) (n ∷ ns) held g = by (nat_eq x g) (stored_among xs ns g (held g)) ∙ ap (λ (m : ℕ). cond (nat_eq x g) n m) (stored_sizes xs ns held g)
  where
    by : (b : Bool) (h : Held) → held_size (cond b (Stored n) h) ≡ cond b n (held_size h)
    by true h = refl
    by false h = refl

pub end_sizes : (xs ns : List ℕ) (held : ℕ → Held) → sizes (λ g. stored_among xs ns g (held g)) ≡ resized_all xs ns (sizes held)
end_sizes xs ns held = fun_ext (λ g. stored_sizes xs ns held g)

one_size : (xs : List ℕ) (n : ℕ) (held : ℕ → Held) (g : ℕ) → held_size (cond (has xs g) (Stored n) (held g)) ≡ resized_all xs (replicate (length xs) n) (sizes held) g
one_size [] n held g = refl
one_size (x ∷ xs) n held g = by (nat_eq x g) (has xs g) (held g) ∙ ap (λ (m : ℕ). cond (nat_eq x g) n m) (one_size xs n held g)
  where
    by : (b c : Bool) (h : Held) → held_size (cond (b || c) (Stored n) h) ≡ cond b n (held_size (cond c (Stored n) h))
    by true c h = refl
    by false c h = refl

pub arrive_sizes : (xs : List ℕ) (n : ℕ) (held : ℕ → Held) → sizes (λ g. cond (has xs g) (Stored n) (held g)) ≡ resized_all xs (replicate (length xs) n) (sizes held)
arrive_sizes xs n held = fun_ext (λ g. one_size xs n held g)

pub arrive_declared : (p : Plan) (xs : List ℕ) (n : ℕ) → ((g : ℕ) → has xs g ≡ true → n ≤ good_size p g) → AreDeclared p xs (replicate (length xs) n)
arrive_declared p [] n h = tt
arrive_declared p (x ∷ xs) n h = (h x (has_head x xs), arrive_declared p xs n (λ g m. h g (or_right (nat_eq x g) (has xs g) m)))

-- sizes of goods that are held as declared
pub are_less : (p : Plan) (size : ℕ → ℕ) (xs ns : List ℕ) → AreDeclared p xs ns → ((g : ℕ) → has xs g ≡ true → size g ≡ good_size p g) → AreLess size xs ns
are_less p size [] [] d h = tt
are_less p size [] (n ∷ ns) d h = absurd d
are_less p size (x ∷ xs) [] d h = absurd d
are_less p size (x ∷ xs) (n ∷ ns) d h = (let e = h x (has_head x xs) in let l = d.0 in omega (arith, e, l), are_less p size xs ns d.1 (λ g m. h g (or_right (nat_eq x g) (has xs g) m)))

pub settled_same : (p : Plan) (s : ℕ) (count v w : ℕ → ℕ) (xs ns : List ℕ) (vs : List (Option ℕ)) → ((g : ℕ) → has xs g ≡ true → v g ≡ w g) → settled p s count v xs ns vs ≡ settled p s count w xs ns vs
settled_same p s count v w [] ns vs h = refl
settled_same p s count v w (x ∷ xs) [] vs h = refl
settled_same p s count v w (x ∷ xs) (n ∷ ns) vs h =
    ap (λ (us : List (Option ℕ)). cond (lies_at p x s) (front_changed (count x) (λ m. m - (v x - n)) us) us) (settled_same p s count v w xs ns vs (λ g m. h g (or_right (nat_eq x g) (has xs g) m)))
    ∙ ap (λ (d : ℕ). cond (lies_at p x s) (front_changed (count x) (λ m. m - (d - n)) (settled p s count w xs ns vs)) (settled p s count w xs ns vs)) (h x (has_head x xs))

pub lowered_same : (p : Plan) (s : ℕ) (v w : ℕ → ℕ) (xs ns : List ℕ) (b : ℕ) → ((g : ℕ) → has xs g ≡ true → v g ≡ w g) → lowered p s v xs ns b ≡ lowered p s w xs ns b
lowered_same p s v w [] ns b h = refl
lowered_same p s v w (x ∷ xs) [] b h = refl
lowered_same p s v w (x ∷ xs) (n ∷ ns) b h =
    ap (λ (c : ℕ). cond (lies_at p x s) (c - (v x - n)) c) (lowered_same p s v w xs ns b (λ g m. h g (or_right (nat_eq x g) (has xs g) m)))
    ∙ ap (λ (d : ℕ). cond (lies_at p x s) (lowered p s w xs ns b - (d - n)) (lowered p s w xs ns b)) (h x (has_head x xs))

-- what a place holds before the first task
pub lowered_usage : (p : Plan) (size : ℕ → ℕ) (s : ℕ) (xs ns : List ℕ) → s < places p → AreOnce xs → AreLess size xs ns → usage p (resized_all xs ns size) [] s ≡ lowered p s size xs ns (usage p size [] s)
lowered_usage p size s [] ns l once less = refl
lowered_usage p size s (x ∷ xs) [] l once less = refl
lowered_usage p size s (x ∷ xs) (n ∷ ns) l once less = by (lies_at p x s) refl (lowered_usage p size s xs ns l (once_parts x xs once).1 less.1)
  where
    same : resized_all xs ns size x ≡ size x
    same = other_size xs ns size x (once_parts x xs once).0

    by : (b : Bool) → lies_at p x s ≡ b → usage p (resized_all xs ns size) [] s ≡ lowered p s size xs ns (usage p size [] s)
        → usage p (resized x n (resized_all xs ns size)) [] s ≡ cond b (lowered p s size xs ns (usage p size [] s) - (size x - n)) (lowered p s size xs ns (usage p size [] s))
    by true at rest =
        let all = resized_counts p (resized_all xs ns size) [] x n s l refl refl in
        let old : held_part p (resized_all xs ns size) s x ≡ size x = ap (λ (b : Bool). cond b (resized_all xs ns size x) 0) at ∙ same in
        let new : cond (lies_at p x s) n 0 ≡ n = ap (λ (b : Bool). cond b n 0) at in
        let few = less.0 in
        omega (arith, all, old, new, few, rest)
    by false at rest = resized_away p (resized_all xs ns size) [] x n s at ∙ rest

-- A front of rest neither makes what a running task makes, nor cleans it where the Clean isn't in it.
has_both : (xs ys : List ℕ) (u : ℕ) → has (xs ++ ys) u ≡ (has xs u || has ys u)
has_both xs ys u = list_any-append (λ y. nat_eq y u) xs ys

unmade_by_rest : (p : Plan) (s : State) (b : Peaks) (front : List ℕ) (t g : ℕ) (zs : List ℕ) → AreBehind p s b front → s.phase t ≡ Runs → has (makes p t) g ≡ true → ((u : ℕ) → has zs u ≡ true → has s.rest u ≡ true) → made p zs g ≡ false
unmade_by_rest p s b front t g zs peaks runs m inside = false_of (made p zs g) (λ h. absurd (
    let u = maker_of p zs g h in
    let same : u.0 ≡ t = peaks.rules.laws.one_maker u.0 t g u.2 m in
    let wait : waits (s.phase t) ≡ true = ap (λ (n : ℕ). waits (s.phase n)) (sym same) ∙ peaks.sound.safe.waiting u.0 (inside u.0 u.1) in
    let no : waits (s.phase t) ≡ false = ap waits runs in cc))

cleaner_of : (p : Plan) (ts : List ℕ) (g : ℕ) → cleaned p ts g ≡ true → (u : ℕ) × (has ts u ≡ true) × (cleans p u g ≡ true)
cleaner_of p [] g h = absurd cc
cleaner_of p (t ∷ ts) g h = or_case (cleans p t g) (cleaned p ts g) h
    (λ is. (t, has_head t ts, is))
    (λ is. let rest = cleaner_of p ts g is in (rest.0, or_right (nat_eq t rest.0) (has ts rest.0) rest.1, rest.2))

cleans_here : (p : Plan) (ts : List ℕ) (c g : ℕ) → has ts c ≡ true → cleans p c g ≡ true → cleaned p ts g ≡ true
cleans_here p [] c g m is = absurd cc
cleans_here p (t ∷ ts) c g m is = or_case (nat_eq t c) (has ts c) m
    (λ at. or_left (cleans p t g) (cleaned p ts g) (ap (λ (n : ℕ). cleans p n g) (eqb-true t c at) ∙ is))
    (λ n. or_right (cleans p t g) (cleaned p ts g) (cleans_here p ts c g n is))

-- the fronts of rest
in_rest : (p : Plan) (s : State) (b : Peaks) (front : List ℕ) → AreBehind p s b front → (k u : ℕ) → has (front ++ take k (filter (left_of b) (line_of b))) u ≡ true → has s.rest u ≡ true
in_rest p s b front peaks k u m = ap (λ (zs : List ℕ). has zs u) peaks.rest ∙ has_both front (filter (left_of b) (line_of b)) u
    ∙ or_case (has front u) (has (take k (filter (left_of b) (line_of b))) u) (sym (has_both front (take k (filter (left_of b) (line_of b))) u) ∙ m)
    (λ a. or_left (has front u) (has (filter (left_of b) (line_of b)) u) a)
    (λ c. or_right (has front u) (has (filter (left_of b) (line_of b)) u) (has_take (filter (left_of b) (line_of b)) k u c))

-- the Clean of what a running task makes isn't among the tasks that wait again, since their parents have ended
not_in_front : (p : Plan) (s : State) (b : Peaks) (front : List ℕ) (t g c : ℕ) → AreBehind p s b front → s.phase t ≡ Runs → has (makes p t) g ≡ true → cleans p c g ≡ true → has front c ≡ false
not_in_front p s b front t g c peaks runs m is = false_of (has front c) (λ h. absurd (
    let done = peaks.waiting c h t (peaks.rules.laws.cleans_after c t g is m) in
    let no : ended (s.phase t) ≡ false = ap ended runs in cc))

-- where no Clean of the good is left, no front of rest cleans it
always : (p : Plan) (s : State) (b : Peaks) (front : List ℕ) (t g q : ℕ) → AreBehind p s b front → s.phase t ≡ Runs → has (makes p t) g ≡ true → q < places p
    → ((c : ℕ) → cleans p c g ≡ true → left_of b c ≡ false) → IsAlways p (left_of b) front (line_of b) g q (get_or b.seating.widths.items q 0)
always p s b front t g q peaks runs m low gone = record {
  count_is = peaks.seated.counted.width q low ∙ ap (λ (zs : List ℕ). length (filter (there p q) zs)) (take_past (line_of b) (length (line_of b)) (omega arith));
  counts = λ k. (
    false_of (cleaned p (front ++ take k (filter (left_of b) (line_of b))) g) (λ h. absurd (
        let u = cleaner_of p (front ++ take k (filter (left_of b) (line_of b))) g h in
        let off = not_in_front p s b front t g u.0 peaks runs m u.2 in
        let inside = or_case (has front u.0) (has (take k (filter (left_of b) (line_of b))) u.0) (sym (has_both front (take k (filter (left_of b) (line_of b))) u.0) ∙ u.1) (λ y. absurd (let no = off in cc)) (λ y. has_take (filter (left_of b) (line_of b)) k u.0 y) in
        let on : left_of b u.0 ≡ true = has_filter (left_of b) u.0 (line_of b) inside in
        let no = gone u.0 u.2 in cc)),
    unmade_by_rest p s b front t g (front ++ take k (filter (left_of b) (line_of b))) peaks runs m (in_rest p s b front peaks k),
  );
}

-- where the Clean of the good is left, each front up to it counts what is held, and each further one cleans the good
until : (p : Plan) (s : State) (b : Peaks) (front : List ℕ) (t g q c : ℕ) (xs ys : List ℕ) → AreBehind p s b front → s.phase t ≡ Runs → has (makes p t) g ≡ true → q < places p → lies_at p g q ≡ true → cleans p c g ≡ true → left_of b c ≡ true
    → line_of b ≡ xs ++ c ∷ ys → get_or b.seating.seats.items c 0 ≡ length (filter (there p q) xs) → IsUntil p (left_of b) front (line_of b) g q (get_or b.seating.seats.items c 0)
until p s b front t g q c xs ys peaks runs m low at its on line seat = record {
  before = xs;
  clean = c;
  behind = ys;
  is = line;
  left_clean = on;
  clean_there = placed_there q (place p c) (peaks.rules.one.cleans_there c g q low its at);
  count_is = seat;
  counts = λ k. (
    false_of (cleaned p (front ++ take k (filter (left_of b) xs)) g) (λ h. absurd (
        let u = cleaner_of p (front ++ take k (filter (left_of b) xs)) g h in
        let same : u.0 ≡ c = peaks.rules.keeps.one_clean u.0 c g u.2 its in
        let inside : has (front ++ take k (filter (left_of b) xs)) c ≡ true = ap (has (front ++ take k (filter (left_of b) xs))) (sym same) ∙ u.1 in
        let off = not_in_front p s b front t g c peaks runs m its in
        let gone = absent_filter (left_of b) c xs (absent_first xs c ys (subst AreOnce line peaks.seated.once)).0 in
        let early : has (filter (left_of b) xs) c ≡ true = or_case (has front c) (has (take k (filter (left_of b) xs)) c) (sym (has_both front (take k (filter (left_of b) xs)) c) ∙ inside) (λ y. absurd (let no = off in cc)) (λ y. has_take (filter (left_of b) xs) k c y) in
        cc)),
    unmade_by_rest p s b front t g (front ++ take k (filter (left_of b) xs)) peaks runs m (λ u h. front_in_rest k u h),
  );
  gone = λ k. cleans_here p (((front ++ filter (left_of b) xs) ++ c ∷ []) ++ take k (filter (left_of b) ys)) c g
      (has_both ((front ++ filter (left_of b) xs) ++ c ∷ []) (take k (filter (left_of b) ys)) c ∙ or_left (has ((front ++ filter (left_of b) xs) ++ c ∷ []) c) (has (take k (filter (left_of b) ys)) c)
      (has_both (front ++ filter (left_of b) xs) (c ∷ []) c ∙ or_right (has (front ++ filter (left_of b) xs) c) (has (c ∷ []) c) (has_head c []))) its;
}
  where
    order_is : filter (left_of b) (line_of b) ≡ filter (left_of b) xs ++ c ∷ filter (left_of b) ys
    order_is = ap (filter (left_of b)) line ∙ filter_split (left_of b) xs c ys on

    front_in_rest : (k u : ℕ) → has (front ++ take k (filter (left_of b) xs)) u ≡ true → has s.rest u ≡ true
    front_in_rest k u h = ap (λ (zs : List ℕ). has zs u) peaks.rest ∙ has_both front (filter (left_of b) (line_of b)) u
        ∙ or_case (has front u) (has (take k (filter (left_of b) xs)) u) (sym (has_both front (take k (filter (left_of b) xs)) u) ∙ h)
        (λ a. or_left (has front u) (has (filter (left_of b) (line_of b)) u) a)
        (λ d. or_right (has front u) (has (filter (left_of b) (line_of b)) u) (ap (λ (zs : List ℕ). has zs u) order_is ∙ has_both (filter (left_of b) xs) (c ∷ filter (left_of b) ys) u
        ∙ or_left (has (filter (left_of b) xs) u) (has (c ∷ filter (left_of b) ys) u) (has_take (filter (left_of b) xs) k u d)))

pub count_holds : (p : Plan) (s : State) (b : Peaks) (front : List ℕ) (t g q : ℕ) (o : Option ℕ) → AreBehind p s b front → s.phase t ≡ Runs → has (makes p t) g ≡ true → q < places p → lies_at p g q ≡ true → IsCleaner p g o → HasCount p (left_of b) front (line_of b) g q (count_by b q o)
count_holds p s b front t g q None peaks runs m low at none = inr (always p s b front t g q peaks runs m low (λ c is. absurd (let no = none c in cc)))
count_holds p s b front t g q (Some c) peaks runs m low at its = by (left_of b c) refl
  where
    here : (k : ℕ) → k < length (line_of b) → get_or (line_of b) k 0 ≡ c → left_of b c ≡ true → IsUntil p (left_of b) front (line_of b) g q (get_or b.seating.seats.items c 0)
    here k l is on = until p s b front t g q c (take k (line_of b)) (drop (suc k) (line_of b)) peaks runs m low at its on
        (split (line_of b) k l ∙ ap (λ (n : ℕ). take k (line_of b) ++ n ∷ drop (suc k) (line_of b)) is)
        (ap (λ (n : ℕ). get_or b.seating.seats.items n 0) (sym is) ∙ peaks.seated.counted.seat k q l (ap (place p) is ∙ peaks.rules.one.cleans_there c g q low its at))

    by : (x : Bool) → left_of b c ≡ x → HasCount p (left_of b) front (line_of b) g q (cond x (get_or b.seating.seats.items c 0) (get_or b.seating.widths.items q 0))
    by true on = let spot = place_of (line_of b) c (peaks.marked c on) in inl (here spot.0 spot.1 spot.2 on)
    by false off = inr (always p s b front t g q peaks runs m low (λ d is. ap (left_of b) (peaks.rules.keeps.one_clean d c g is its) ∙ off))

-- The Arrive or the End.
pub settled_by : (p : Plan) (s later : State) (links : Links) (old new : Peaks) (front : List ℕ) (t : ℕ) (ns : List ℕ) → AreBehind p s old front → AreLinks p links → s.phase t ≡ Runs → IsSoundState p later → ((v : ℕ) → later.phase v ≡ put s.phase t Ended v)
    → sizes later.held ≡ resized_all (makes p t) ns (sizes s.held) → later.rest ≡ s.rest → AreDeclared p (makes p t) ns → ((u : ℕ) → AreOnce (parents p u)) → AreOnce (makes p t) → IsSettled p links old new t ns → AreBehind p later new front
settled_by p s later links old new front t ns peaks linked runs sound phase held rest declared once_parents once_made is = subst (λ (b : Peaks). AreBehind p (later) b front) (sym is.same) (record {
  rules = peaks.rules;
  sound = sound;
  seated = peaks.seated;
  marked = λ u m. peaks.marked u m;
  marks_long = peaks.marks_long;
  bases_long = is.bases_long ∙ peaks.bases_long;
  trees_long = is.trees_long ∙ peaks.trees_long;
  missing_long = is.missing_long ∙ peaks.missing_long;
  rest = rest ∙ peaks.rest;
  waiting = λ u m v n. ap ended (phase v) ∙ ends_more s.phase t v (peaks.waiting u m v n);
  needs = λ u q m kind at. peaks.needs u q (was u m) kind at ∙ sym (brings_as_before u q (was u m));
  counts = λ u low. let less = is.missing u low in let had = peaks.counts u low in let now = counts_end s.phase t (parents p u) (once_parents u) (ap ended runs) in
      let same = sum_map (open_one later.phase) (open_one (put s.phase t Ended)) (parents p u) (λ v. ap (λ (x : Phase). cond (ended x) 0 1) (phase v)) in omega (arith, less, had, now, same);
  bases = λ q l. is.lowered.0 q l ∙ lowered_same p q (good_size p) (sizes s.held) (makes p t) ns (get_or old.base.items q 0) (λ g m. sym (declared_size g m)) ∙ ap (lowered p q (sizes s.held) (makes p t) ns) (peaks.bases q l)
      ∙ sym (lowered_usage p (sizes s.held) q (makes p t) ns l once_made less) ∙ ap (λ (f : ℕ → ℕ). usage p f [] q) (sym held);
  trees = λ q l. is.lowered.1 q l ∙ settled_same p q (count_at old links q) (good_size p) (sizes s.held) (makes p t) ns (get_or old.trees.items q []) (λ g m. sym (declared_size g m))
      ∙ ap (settled p q (count_at old links q) (sizes s.held) (makes p t) ns) (peaks.trees q l)
      ∙ sym (settle_goods p (sizes s.held) (left_of old) front (line_of old) q (count_at old links q) (makes p t) ns l once_made less (λ g m at. count_holds p s old front t g q (get_or links.cleaners.items g None) peaks runs m l at (linked.cleaners g)))
      ∙ ap (λ (f : ℕ → ℕ). values (there p q) (left_of old) (held_by p f q) front (line_of old)) (sym held);
})
  where
    was : (u : ℕ) → has later.rest u ≡ true → has s.rest u ≡ true
    was u m = ap (λ (zs : List ℕ). has zs u) (sym rest) ∙ m

    declared_size : (g : ℕ) → has (makes p t) g ≡ true → sizes s.held g ≡ good_size p g
    declared_size g m = ap held_size (peaks.sound.running_held t g runs m)

    less : AreLess (sizes s.held) (makes p t) ns
    less = are_less p (sizes s.held) (makes p t) ns declared declared_size

    apart : (u : ℕ) → has s.rest u ≡ true → (g : ℕ) → has (makes p u) g ≡ true → has (makes p t) g ≡ false
    apart u m g n = false_of (has (makes p t) g) (λ j. absurd (
        let same : u ≡ t = peaks.rules.laws.one_maker u t g n j in
        let wait : waits (s.phase t) ≡ true = ap (λ (k : ℕ). waits (s.phase k)) (sym same) ∙ peaks.sound.safe.waiting u m in
        let no : waits (s.phase t) ≡ false = ap waits runs in cc))

    brings_as_before : (u q : ℕ) → has s.rest u ≡ true → brings p (sizes later.held) q u ≡ brings p (sizes s.held) q u
    brings_as_before u q m = ap (λ (n : ℕ). sum_of (size_part p q) (makes p u) - n)
        (sum_same (held_part p (sizes later.held) q) (held_part p (sizes s.held) q) (makes p u) (λ g n.
        ap (λ (d : ℕ). cond (lies_at p g q) d 0) (ap (λ (f : ℕ → ℕ). f g) held ∙ other_size (makes p t) ns (sizes s.held) g (apart u m g n))))

-- with its records of events
pub arrived : (p : Plan) (s : State) (links : Links) (old new : Peaks) (front : List ℕ) (w t n : ℕ) → AreBehind p s old front → AreLinks p links → ((u : ℕ) → AreOnce (parents p u)) → Allowed p s (Arrive w t n) → IsSettled p links old new t (replicate (length (makes p t)) n) → AreBehind p (after p s (Arrive w t n)) new front
arrived p s links old new front w t n peaks linked once_parents allowed is =
    settled_by p s (after p s (Arrive w t n)) links old new front t (replicate (length (makes p t)) n) peaks linked allowed.2.runs (sound_more p s (Arrive w t n) peaks.rules.laws peaks.sound allowed) (λ v. refl)
    (arrive_sizes (makes p t) n s.held) refl (arrive_declared p (makes p t) n allowed.3) once_parents (rises_once 0 (makes p t) (peaks.rules.keeps.rises t)) is

pub ended_at : (p : Plan) (s : State) (links : Links) (old new : Peaks) (front : List ℕ) (w t : ℕ) (ns : List ℕ) → AreBehind p s old front → AreLinks p links → ((u : ℕ) → AreOnce (parents p u)) → Allowed p s (End w t ns) → IsSettled p links old new t ns → AreBehind p (after p s (End w t ns)) new front
ended_at p s links old new front w t ns peaks linked once_parents allowed is =
    settled_by p s (after p s (End w t ns)) links old new front t ns peaks linked allowed.2.runs (sound_more p s (End w t ns) peaks.rules.laws peaks.sound allowed) (λ v. refl)
    (end_sizes (makes p t) ns s.held) refl allowed.3 once_parents (rises_once 0 (makes p t) (peaks.rules.keeps.rises t)) is
