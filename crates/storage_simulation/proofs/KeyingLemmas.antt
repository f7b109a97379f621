-- Keys by slots, and the best key of a home.
use Rattle.std.proofs.Common.{◌≡◌, ℕ, ◌+◌, ◌-◌, ◌^◌, ◌<◌, ◌≤◌, ◌||◌, ◌&&◌, ◌⊎◌, inl, inr, min, Bool, true, false, cond, nat_eq, nat_le, nat_lt, eqb-true, ltb-true, leb-true, List, [], ◌∷◌, ◌++◌, length, get_or, refl, sym, ap, subst, ◌∙◌, arith}
use Rattle.std.specs.Prelude.{Option, Some, None, Vec}
use Rattle.std.specs.declared.alloc.Global.{Global}
use Rattle.std.proofs.lemmas.Bool.{cases_lt, eqb-false}
use Rattle.tournament_tree.specs.declared.tree.Key.{Key}
use Rattle.tournament_tree.specs.Tree.{IsLeast, IsTree, entry, row}
use Rattle.plan_core.specs.declared.plan.Plan.{Plan}
use Rattle.plan_core.specs.Words.{count_tasks, is_clean, is_clean_kind, kind, kind_cleans}
use Rattle.plan_core.specs.declared.plan.TaskKind.{TaskKind}
use Rattle.plan_core.specs.declared.plan.TaskKind.TheVariants.{Transfer, Run, Clean}
use Rattle.storage_simulation.specs.declared.front.Front.{Front}
use Rattle.storage_simulation.specs.declared.index.Index.{Index}
use Rattle.storage_simulation.specs.declared.standing.Standing.{Standing}
use Rattle.storage_simulation.specs.code.Change.{held_part, size_part}
use Rattle.storage_simulation.specs.code.Front.{IsSet, front_of}
use Rattle.storage_simulation.specs.Goods.{makes, place_bound, places}
use Rattle.storage_simulation.specs.code.Goods.{place}
use Rattle.storage_simulation.specs.code.Index.{AreSpots, IsBestAt, IsCut, IsKeyed, IsLaid, IsSettled, IsUpTo, Spot, home, is_before_home, is_up_to, key, need, need_at, open_key, or_number, ready_key, spot_at, told}
use Rattle.storage_simulation.specs.OrderLaw.{fits_after, is_open}
use Rattle.storage_simulation.specs.Ordering.{Progress, comes, goes, size}
use Rattle.storage_simulation.specs.code.Ordering.{progress, IsOpen}
use Rattle.storage_simulation.specs.Usage.{sum_of, usage}
use Rattle.storage_simulation.proofs.FollowingLemmas.{both, by_bool, false_of, have_both, is_itself, or_case, or_left, or_right}
use Rattle.storage_simulation.proofs.OrderLawLemmas.{comes_open, fits_is, is_fits, opens_come}
use Rattle.storage_simulation.proofs.RoomLemmas.{fits_here, fits_nowhere, making_next}
use Rattle.storage_simulation.proofs.SpotLemmas.{held_small, made_small, size_small}

-- one key changes
pub slot_same : (p : Plan) (st : Progress) (ix : Index) (t u : ℕ) → IsLaid p st ix → t < count_tasks p → u < count_tasks p → nat_eq (get_or ix.slots.items u 0) (get_or ix.slots.items t 0) ≡ nat_eq u t
slot_same p st ix t u is l m = by (nat_eq u t) refl
  where
    by : (b : Bool) → nat_eq u t ≡ b → nat_eq (get_or ix.slots.items u 0) (get_or ix.slots.items t 0) ≡ b
    by true e = ap (λ (n : ℕ). nat_eq (get_or ix.slots.items n 0) (get_or ix.slots.items t 0)) (eqb-true u t e) ∙ is_itself (get_or ix.slots.items t 0)
    by false e = false_of (nat_eq (get_or ix.slots.items u 0) (get_or ix.slots.items t 0)) (λ k. eqb-false u t e
        (sym (is.spots.slot_is u m) ∙ ap (λ (n : ℕ). (spot_at ix.spots.items n).2) (eqb-true (get_or ix.slots.items u 0) (get_or ix.slots.items t 0) k) ∙ is.spots.slot_is t l))

pub told_set : (p : Plan) (st : Progress) (old : Index) (rows : List (Vec (Option Key) Global)) (t u : ℕ) (k : Option Key) → IsLaid p st old → t < count_tasks p → u < count_tasks p → ((i : ℕ) → entry rows 0 i ≡ cond (nat_eq i (get_or old.slots.items t 0)) k (entry old.keys.rows.items 0 i))
    → entry rows 0 (get_or old.slots.items u 0) ≡ cond (nat_eq u t) k (told old u)
told_set p st old rows t u k is l m each = each (get_or old.slots.items u 0) ∙ ap (λ (b : Bool). cond b k (told old u)) (slot_same p st old t u is l m)

-- a key that is at hand
pub key_none : (p : Plan) (st : Progress) (front : List ℕ) (t : ℕ) → t < count_tasks p → (IsOpen p st front t → ⊥) → ready_key p st front t ≡ None
key_none p st front t l off = ap (λ (b : Bool). cond b (Some (key p st front t)) None) (false_of (is_open p st front t) (λ e. off (opens_come p st front t l e)))

abbrev pub keyed : ℕ → ℕ → Key
keyed s t = record { score = s; number = t }

pub key_some : (p : Plan) (st : Progress) (front : List ℕ) (t s : ℕ) → IsOpen p st front t → s ≡ cond (is_clean p t) 0 (2 ^ 62 + comes p st t - goes p st front t) → Some (keyed s t) ≡ ready_key p st front t
key_some p st front t s opens is = ap (λ (n : ℕ). Some (keyed n t)) is ∙ sym (ap (λ (b : Bool). cond b (Some (key p st front t)) None) (comes_open p st front t opens))

-- a task fits where its need is within the room
pub need_fits : (p : Plan) (st : Standing) (b : Front) (t s n : ℕ) → IsSet p st b → IsOpen p (progress st) (front_of b) t → is_clean p t ≡ false → place p t ≡ Some s → n ≡ 2 ^ 62 + min (place_bound p s - get_or b.used.items s 0) (2 ^ 62)
    → nat_le (need_at p (progress st) t (Some s)) n ≡ fits_after p (progress st) (front_of b) t
need_fits p st b t s n is opens clean at room = by_fit (fits_after p (progress st) (front_of b) t) refl
  where
    below : s < places p
    below = is.orderable.place_below t s at

    no_clean : (o : Option TaskKind) (g : ℕ) → is_clean_kind o ≡ false → kind_cleans o g ≡ false
    no_clean None g h = refl
    no_clean (Some (Transfer f from to)) g h = refl
    no_clean (Some (Run a js)) g h = refl
    no_clean (Some (Clean q)) g h = absurd cc

    numbers : (usage_then held usage_now sized used bound : ℕ) → usage_then + held ≡ usage_now + sized → held ≤ usage_now → used ≡ usage_now → used ≤ bound → sized < 2 ^ 62 → held < 2 ^ 62 → n ≡ 2 ^ 62 + min (bound - used) (2 ^ 62) → (2 ^ 62 + sized - held ≤ n → usage_then ≤ bound) × (usage_then ≤ bound → 2 ^ 62 + sized - held ≤ n)
    numbers a h u z used bound e l f m k i r = (λ g. omega (arith, e, l, f, m, k, i, r, g), λ g. omega (arith, e, l, f, m, k, i, r, g))

    all : (need_at p (progress st) t (Some s) ≤ n → usage p (size (progress st)) (front_of b ++ t ∷ []) s ≤ place_bound p s) × (usage p (size (progress st)) (front_of b ++ t ∷ []) s ≤ place_bound p s → need_at p (progress st) t (Some s) ≤ n)
    all =
        let make = making_next p (progress st) (front_of b) t s is.orderable.keeps is.front.steps opens below (λ g. no_clean (kind p t) g clean) in
        let used = is.front.used_is s below in
        let within = is.front.within s below in
        numbers (usage p (size (progress st)) (front_of b ++ t ∷ []) s) (sum_of (held_part p (size (progress st)) s) (makes p t)) (usage p (size (progress st)) (front_of b) s) (sum_of (size_part p s) (makes p t)) (get_or b.used.items s 0) (place_bound p s)
        make.0 make.1 used (omega (arith, used, within)) (made_small p t (size_part p s) is.orderable is.limits (λ g. size_small p s g is.limits)) (made_small p t (held_part p (size (progress st)) s) is.orderable is.limits (λ g. held_small p (size (progress st)) s g is.standing.small)) room

    by_fit : (c : Bool) → fits_after p (progress st) (front_of b) t ≡ c → nat_le (need_at p (progress st) t (Some s)) n ≡ c
    by_fit true e = let l = all.1 (is_fits p (progress st) (front_of b) t e s below) in grind (arith, l)
    by_fit false e = false_of (nat_le (need_at p (progress st) t (Some s)) n) (λ h.
        let fit = fits_here p (progress st) (front_of b) t s 0 is.orderable is.front.within at (all.0 (leb-true (need_at p (progress st) t (Some s)) n h)) in
        let yes = fits_is p (progress st) (front_of b) t fit in cc)

pub room_fits : (p : Plan) (st : Standing) (b : Front) (t h n : ℕ) → IsSet p st b → IsOpen p (progress st) (front_of b) t → is_clean p t ≡ false → home p t ≡ h → h < places p → n ≡ 2 ^ 62 + min (place_bound p h - get_or b.used.items h 0) (2 ^ 62)
    → nat_le (need p (progress st) t) n ≡ fits_after p (progress st) (front_of b) t
room_fits p st b t h n is opens clean at l room =
    ap (λ (c : Bool). nat_le (cond c 0 (need_at p (progress st) t (place p t))) n) clean ∙ by_place (place p t) refl (sym (ap (λ (c : Bool). cond c (places p + 1) (or_number (places p) (place p t))) clean) ∙ at)
  where
    by_place : (o : Option ℕ) → place p t ≡ o → or_number (places p) o ≡ h → nat_le (need_at p (progress st) t o) n ≡ fits_after p (progress st) (front_of b) t
    by_place None e f = absurd (omega (arith, f, l))
    by_place (Some s) e f = need_fits p st b t s n is opens clean e (room ∙ ap (λ (r : ℕ). 2 ^ 62 + min (place_bound p r - get_or b.used.items r 0) (2 ^ 62)) (sym f))

pub room_nowhere : (p : Plan) (st : Standing) (b : Front) (t h : ℕ) → IsSet p st b → IsOpen p (progress st) (front_of b) t → is_clean p t ≡ false → home p t ≡ h → places p ≤ h → nat_le (need p (progress st) t) 0 ≡ fits_after p (progress st) (front_of b) t
room_nowhere p st b t h is opens clean at l =
    ap (λ (c : Bool). nat_le (cond c 0 (need_at p (progress st) t (place p t))) 0) clean ∙ by_place (place p t) refl (sym (ap (λ (c : Bool). cond c (places p + 1) (or_number (places p) (place p t))) clean) ∙ at)
  where
    by_place : (o : Option ℕ) → place p t ≡ o → or_number (places p) o ≡ h → nat_le (need_at p (progress st) t o) 0 ≡ fits_after p (progress st) (front_of b) t
    by_place None e f = let g : nat_le 0 0 ≡ true = grind arith in g ∙ sym (fits_is p (progress st) (front_of b) t (fits_nowhere p (progress st) (front_of b) t is.orderable is.front.within e))
    by_place (Some s) e f = absurd (let low = is.orderable.place_below t s e in omega (arith, low, f, l))

-- the tests of a binary search
pub before_back : (h : ℕ) (x y : Spot) → IsUpTo x y → is_before_home h y ≡ true → is_before_home h x ≡ true
before_back h x y (inl l) e = grind (arith, l, e)
before_back h x y (inr k) e = let same = k.0 in grind (arith, same, e)

pub up_back : (h r : ℕ) (x y : Spot) → IsUpTo x y → is_up_to h r y ≡ true → is_up_to h r x ≡ true
up_back h r x y (inl l) e = or_case (nat_lt y.0 h) (nat_eq y.0 h && nat_le y.1 r) e
    (λ m. or_left (nat_lt x.0 h) (nat_eq x.0 h && nat_le x.1 r) (let g : nat_lt x.0 h ≡ true = grind (arith, l, m) in g))
    (λ m. let same = eqb-true y.0 h (both (nat_eq y.0 h) (nat_le y.1 r) m).0 in or_left (nat_lt x.0 h) (nat_eq x.0 h && nat_le x.1 r) (let g : nat_lt x.0 h ≡ true = grind (arith, l, same) in g))
up_back h r x y (inr k) e = let same = k.0 in let less = k.1 in or_case (nat_lt y.0 h) (nat_eq y.0 h && nat_le y.1 r) e
    (λ m. or_left (nat_lt x.0 h) (nat_eq x.0 h && nat_le x.1 r) (let g : nat_lt x.0 h ≡ true = grind (arith, same, m) in g))
    (λ m. let parts = both (nat_eq y.0 h) (nat_le y.1 r) m in or_right (nat_lt x.0 h) (nat_eq x.0 h && nat_le x.1 r) (have_both (nat_eq x.0 h) (nat_le x.1 r) (ap (λ (n : ℕ). nat_eq n h) same ∙ parts.0) (let l = leb-true y.1 r parts.1 in let g : nat_le x.1 r ≡ true = grind (arith, less, l) in g)))

pub true_false : (b : Bool) → b ≡ true → b ≡ false → ⊥
true_false true e f = absurd cc
true_false false e f = absurd cc

-- the least key between the two cuts
pub best_is : (p : Plan) (st : Progress) (front : List ℕ) (ix : Index) (h r from to : ℕ) (best : Option Key) → IsLaid p st ix → ((u : ℕ) → u < count_tasks p → told ix u ≡ ready_key p st front u)
    → ((t : ℕ) → IsOpen p st front t → home p t ≡ h → is_clean p t ≡ false → nat_le (need p st t) r ≡ fits_after p st front t)
    → IsCut (λ j. is_before_home h (spot_at ix.spots.items j)) (count_tasks p) from → IsCut (λ j. is_up_to h r (spot_at ix.spots.items j)) (count_tasks p) to
    → IsLeast (entry ix.keys.rows.items 0) from to best → IsBestAt p st front h best
best_is p st front ix h r from to best is told_is fits start end least = by_best best least
  where
    -- the key at a position
    at_place : (j : ℕ) → j < count_tasks p → entry ix.keys.rows.items 0 j ≡ ready_key p st front (spot_at ix.spots.items j).2
    at_place j l = ap (entry ix.keys.rows.items 0) (sym (is.spots.slotted j l)) ∙ told_is (spot_at ix.spots.items j).2 (is.spots.below j l)

    -- a task of the home that may be placed stands between the cuts
    stands : (t : ℕ) (k : Key) → t < count_tasks p → home p t ≡ h → open_key p st front t ≡ Some k → (from ≤ get_or ix.slots.items t 0) × (get_or ix.slots.items t 0 < to) × (entry ix.keys.rows.items 0 (get_or ix.slots.items t 0) ≡ Some k)
    stands t k l at e = by_open (is_open p st front t) refl (is_clean p t || fits_after p st front t) refl e
      where
        j : ℕ
        j = get_or ix.slots.items t 0

        low : get_or ix.slots.items t 0 < count_tasks p
        low = is.spots.slot_in t l

        there : (spot_at ix.spots.items (get_or ix.slots.items t 0)).2 ≡ t
        there = is.spots.slot_is t l

        home_there : (spot_at ix.spots.items (get_or ix.slots.items t 0)).0 ≡ h
        home_there = is.spots.home_is (get_or ix.slots.items t 0) low ∙ ap (home p) there ∙ at

        need_there : (spot_at ix.spots.items (get_or ix.slots.items t 0)).1 ≡ need p st t
        need_there = is.spots.need_is (get_or ix.slots.items t 0) low ∙ ap (need p st) there

        within : is_open p st front t ≡ true → (is_clean p t || fits_after p st front t) ≡ true → nat_le (need p st t) r ≡ true
        within o f = by_bool (is_clean p t)
            (λ c. ap (λ (b : Bool). nat_le (cond b 0 (need_at p st t (place p t))) r) c ∙ (let g : nat_le 0 r ≡ true = grind arith in g))
            (λ c. fits t (opens_come p st front t l o) at c ∙ sym (ap (λ (b : Bool). b || fits_after p st front t) c) ∙ f)

        by_open : (o : Bool) → is_open p st front t ≡ o → (f : Bool) → (is_clean p t || fits_after p st front t) ≡ f → cond (o && f) (Some (key p st front t)) None ≡ Some k
            → (from ≤ get_or ix.slots.items t 0) × (get_or ix.slots.items t 0 < to) × (entry ix.keys.rows.items 0 (get_or ix.slots.items t 0) ≡ Some k)
        by_open false o f g e = absurd cc
        by_open true o false g e = absurd cc
        by_open true o true g e = (from_is (cases_lt (get_or ix.slots.items t 0) from), to_is (cases_lt (get_or ix.slots.items t 0) to), told_is t l ∙ ap (λ (b : Bool). cond b (Some (key p st front t)) None) o ∙ e)
          where
            from_is : (get_or ix.slots.items t 0 < from) ⊎ (from ≤ get_or ix.slots.items t 0) → from ≤ get_or ix.slots.items t 0
            from_is (inl m) = absurd (let yes = start.within (get_or ix.slots.items t 0) m in let less = ltb-true (spot_at ix.spots.items (get_or ix.slots.items t 0)).0 h yes in omega (arith, less, home_there))
            from_is (inr m) = m

            to_is : (get_or ix.slots.items t 0 < to) ⊎ (to ≤ get_or ix.slots.items t 0) → get_or ix.slots.items t 0 < to
            to_is (inl m) = m
            to_is (inr m) = absurd (true_false (is_up_to h r (spot_at ix.spots.items (get_or ix.slots.items t 0)))
                (or_right (nat_lt (spot_at ix.spots.items (get_or ix.slots.items t 0)).0 h) (nat_eq (spot_at ix.spots.items (get_or ix.slots.items t 0)).0 h && nat_le (spot_at ix.spots.items (get_or ix.slots.items t 0)).1 r)
                (have_both (nat_eq (spot_at ix.spots.items (get_or ix.slots.items t 0)).0 h) (nat_le (spot_at ix.spots.items (get_or ix.slots.items t 0)).1 r) (let g : nat_eq (spot_at ix.spots.items (get_or ix.slots.items t 0)).0 h ≡ true = grind (arith, home_there) in g) (ap (λ (n : ℕ). nat_le n r) need_there ∙ within o g)))
                (end.past (get_or ix.slots.items t 0) m low))

    -- a ready task between the cuts is of the home, and may be placed
    between : (j : ℕ) (k : Key) → from ≤ j → j < to → entry ix.keys.rows.items 0 j ≡ Some k → (home p (spot_at ix.spots.items j).2 ≡ h) × (open_key p st front (spot_at ix.spots.items j).2 ≡ Some k)
    between j k l m e =
        let low : j < count_tasks p = (let most = end.most in omega (arith, m, most)) in
        let not_before = start.past j l low in
        let up = end.within j m in
        let parts = or_case (nat_lt (spot_at ix.spots.items j).0 h) (nat_eq (spot_at ix.spots.items j).0 h && nat_le (spot_at ix.spots.items j).1 r) up (λ x. absurd (true_false (nat_lt (spot_at ix.spots.items j).0 h) x not_before)) (λ x. both (nat_eq (spot_at ix.spots.items j).0 h) (nat_le (spot_at ix.spots.items j).1 r) x) in
        let at : home p (spot_at ix.spots.items j).2 ≡ h = sym (is.spots.home_is j low) ∙ eqb-true (spot_at ix.spots.items j).0 h parts.0 in
        let needs : nat_le (need p st (spot_at ix.spots.items j).2) r ≡ true = ap (λ (n : ℕ). nat_le n r) (sym (is.spots.need_is j low)) ∙ parts.1 in
        (at, by_open (spot_at ix.spots.items j).2 (is.spots.below j low) at needs (is_open p st front (spot_at ix.spots.items j).2) refl (sym (at_place j low) ∙ e))
      where
        by_open : (t : ℕ) → t < count_tasks p → home p t ≡ h → nat_le (need p st t) r ≡ true → (o : Bool) → is_open p st front t ≡ o → cond o (Some (key p st front t)) None ≡ Some k → open_key p st front t ≡ Some k
        by_open t l at needs false o e = absurd cc
        by_open t l at needs true o e =
            ap (λ (b : Bool). cond (b && (is_clean p t || fits_after p st front t)) (Some (key p st front t)) None) o
            ∙ ap (λ (b : Bool). cond b (Some (key p st front t)) None) (by_bool (is_clean p t) (λ c. or_left (is_clean p t) (fits_after p st front t) c) (λ c. or_right (is_clean p t) (fits_after p st front t) (sym (fits t (opens_come p st front t l o) at c) ∙ needs)))
            ∙ e

    by_best : (b : Option Key) → IsLeast (entry ix.keys.rows.items 0) from to b → IsBestAt p st front h b
    by_best None none = λ t l at. absent t l at (open_key p st front t) refl
      where
        absent : (t : ℕ) → t < count_tasks p → home p t ≡ h → (o : Option Key) → open_key p st front t ≡ o → o ≡ None
        absent t l at None e = refl
        absent t l at (Some k) e = absurd (let s = stands t k l at e in let no = none (get_or ix.slots.items t 0) s.0 s.1 in let yes = s.2 in cc)
    by_best (Some k) some =
        let j = some.0.0 in
        let low : j < count_tasks p = (let most = end.most in let m = some.0.2 in omega (arith, m, most)) in
        let here = between j k some.0.1 some.0.2 some.0.3 in
        (((spot_at ix.spots.items j).2, is.spots.below j low, here.0, here.1), λ t l m at e. let s = stands t l m at e in some.1 (get_or ix.slots.items t 0) l s.0 s.1 s.2)

-- the index with other keys, or with another best
pub laid_keyed : (p : Plan) (st : Progress) (old new : Index) → IsLaid p st old → IsKeyed old new → IsTree new.keys.rows.items → length (row new.keys.rows.items 0) ≡ length (row old.keys.rows.items 0) → IsLaid p st new
laid_keyed p st old new is k tree wide = record {
  made_for = record {
    spots_long = ap (λ v. length v.items) k.spots ∙ is.made_for.spots_long;
    slots_long = ap (λ v. length v.items) k.slots ∙ is.made_for.slots_long;
    keys_tree = tree;
    keys_wide = wide ∙ is.made_for.keys_wide;
    best_tree = subst (λ t. IsTree t.rows.items) (sym k.best) is.made_for.best_tree;
    best_wide = ap (λ t. length (row t.rows.items 0)) k.best ∙ is.made_for.best_wide;
    comes_long = ap (λ v. length v.items) k.comes ∙ is.made_for.comes_long;
    goes_long = ap (λ v. length v.items) k.goes ∙ is.made_for.goes_long;
  };
  spots = subst (λ v. AreSpots p st v.items new.slots.items) (sym k.spots) (subst (λ v. AreSpots p st old.spots.items v.items) (sym k.slots) is.spots);
  comes_are = λ t l. ap (λ v. get_or v.items t 0) k.comes ∙ is.comes_are t l;
}

pub laid_settled : (p : Plan) (st : Progress) (old new : Index) → IsLaid p st old → IsSettled old new → IsTree new.best.rows.items → length (row new.best.rows.items 0) ≡ length (row old.best.rows.items 0) → IsLaid p st new
laid_settled p st old new is k tree wide = record {
  made_for = record {
    spots_long = ap (λ v. length v.items) k.spots ∙ is.made_for.spots_long;
    slots_long = ap (λ v. length v.items) k.slots ∙ is.made_for.slots_long;
    keys_tree = subst (λ t. IsTree t.rows.items) (sym k.keys) is.made_for.keys_tree;
    keys_wide = ap (λ t. length (row t.rows.items 0)) k.keys ∙ is.made_for.keys_wide;
    best_tree = tree;
    best_wide = wide ∙ is.made_for.best_wide;
    comes_long = ap (λ v. length v.items) k.comes ∙ is.made_for.comes_long;
    goes_long = ap (λ v. length v.items) k.goes ∙ is.made_for.goes_long;
  };
  spots = subst (λ v. AreSpots p st v.items new.slots.items) (sym k.spots) (subst (λ v. AreSpots p st old.spots.items v.items) (sym k.slots) is.spots);
  comes_are = λ t l. ap (λ v. get_or v.items t 0) k.comes ∙ is.comes_are t l;
}
