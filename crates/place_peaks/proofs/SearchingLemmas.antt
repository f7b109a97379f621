-- The first task that can begin, by groups.
use Rattle.std.proofs.Common.{◌≡◌, ℕ, zero, suc, ◌+◌, ◌-◌, ◌<◌, ◌≤◌, ◌&&◌, ◌⊎◌, inl, inr, Bool, true, false, cond, nat_eq, List, [], ◌∷◌, length, take, get_or, Option, Some, None, refl, sym, ap, subst, ◌∙◌, arith}
use Rattle.std.specs.Prelude.{min}
use Rattle.std.proofs.lemmas.Bool.{cases_lt}
use Rattle.std.proofs.lemmas.List.{get_or-map, get_or-take, length-map, length-take}
use Rattle.group_index.specs.Index.{IsBefore, IsLeastAt, IsLeastBefore, count, group, number}
use Rattle.place_peaks.proofs.Offered.{absent_filter, has_filter, place_of}
use Rattle.lease_rules.specs.Choice.{CanStart, HasNoChoice, IsChoice}
use Rattle.lease_rules.specs.State.{State}
use Rattle.peak_tree.specs.Numbers.{greatest}
use Rattle.plan_core.specs.declared.plan.Plan.{Plan}
use Rattle.plan_core.specs.Numbers.{has}
use Rattle.plan_core.specs.Words.{is_clean}
use Rattle.storage_simulation.specs.Goods.{place_bound, places}
use Rattle.place_peaks.specs.declared.peaks.Peaks.{Peaks}
use Rattle.place_peaks.specs.Choosing.{AtAll, CanBegin, HasRoomAt, InGroup, InGroupBelow, IsFirst, IsFirstAt, earlier}
use Rattle.place_peaks.specs.Peaks.{ArePeaks, left_of, line_of}
use Rattle.place_peaks.specs.Ready.{IsIndexed, group_of, ready_score, score, score_of}
use Rattle.place_peaks.specs.Tree.{HasRoom, IsUpTo}
use Rattle.place_peaks.proofs.ChoosingLemmas.{NoneOfLine, choice_of, clean, closed, no_choice, placed, placeless}
use Rattle.place_peaks.proofs.ValuesLemmas.{greater_up_to, up_to_greater}

-- room for less, before fewer tasks
up_to_more : (b c : ℕ) (o : Option ℕ) → b ≤ c → IsUpTo b o → IsUpTo c o
up_to_more b c None l h = h
up_to_more b c (Some n) l h = omega (arith, l, h)

up_to_front : (b : ℕ) (i j : ℕ) (vs : List (Option ℕ)) → i ≤ j → IsUpTo b (greatest (take j vs)) → IsUpTo b (greatest (take i vs))
up_to_front b zero j [] l h = tt
up_to_front b zero j (v ∷ vs) l h = tt
up_to_front b (suc i) zero vs l h = absurd (omega (arith, l))
up_to_front b (suc i) (suc j) [] l h = tt
up_to_front b (suc i) (suc j) (v ∷ vs) l h =
    let both = up_to_greater b v (greatest (take j vs)) h in
    greater_up_to b v (greatest (take i vs)) both.0 (up_to_front b i j vs (omega (arith, l)) both.1)

room_less : (n m base bound i j : ℕ) (vs : List (Option ℕ)) → n ≤ m → i ≤ j → HasRoom m base (greatest (take j vs)) bound → HasRoom n base (greatest (take i vs)) bound
room_less n m base bound i j vs less before room =
    (let h = room.0 in omega (arith, h, less), let h = room.1 in let g = room.0 in omega (arith, h, g, less), up_to_front (bound - n) i j vs before (up_to_more (bound - m) (bound - n) (greatest (take j vs)) (let g = room.0 in omega (arith, g, less)) room.2))

-- what a score says
some_is : (a b : ℕ) → Some a ≡ Some b → a ≡ b
some_is a b e = cc

pub can_score : (p : Plan) (b : Peaks) (t : ℕ) → CanBegin p b t → ready_score p b t ≡ Some (score p b t)
can_score p b t can = by (left_of b t) (get_or b.missing.items t 1) can.left can.none_open
  where
    by : (l : Bool) (m : ℕ) → l ≡ true → m ≡ 0 → cond (l && nat_eq m 0) (Some (score p b t)) None ≡ Some (score p b t)
    by true zero e f = refl
    by true (suc m) e f = absurd cc
    by false m e f = absurd cc

record IsReadyWith (p : Plan) (b : Peaks) (t n : ℕ) : Type 0 where
  left : left_of b t ≡ true
  none_open : get_or b.missing.items t 1 ≡ 0
  scored : n ≡ score p b t

ready_with : (p : Plan) (b : Peaks) (t n : ℕ) → ready_score p b t ≡ Some n → IsReadyWith p b t n
ready_with p b t n = by (left_of b t) (get_or b.missing.items t 1) refl refl
  where
    by : (l : Bool) (m : ℕ) → left_of b t ≡ l → get_or b.missing.items t 1 ≡ m → cond (l && nat_eq m 0) (Some (score p b t)) None ≡ Some n → IsReadyWith p b t n
    by true zero e f h = record { left = e; none_open = f; scored = sym (some_is (score p b t) n h) }
    by true (suc m) e f h = absurd (not_some (nat_eq (suc m) 0) (let off : nat_eq (suc m) 0 ≡ false = grind arith in off) h)
      where
        not_some : (c : Bool) → c ≡ false → cond (true && c) (Some (score p b t)) None ≡ Some n → ⊥
        not_some true e h = absurd cc
        not_some false e h = absurd cc
    by false m e f h = absurd cc

-- a task that is scored like one that can begin, or less, and stands before it can begin
home_of_group : (last g : ℕ) (o : Option ℕ) → g < last → group_of last o ≡ g → o ≡ Some g
home_of_group last g None l e = absurd (omega (arith, l, e))
home_of_group last g (Some q) l e = ap (λ (n : ℕ). Some n) e

scored_more : (clean : Bool) (need n : ℕ) (home : Option ℕ) → n + 1 ≤ score_of clean need home → (clean ≡ false) × (n ≤ need)
scored_more clean need n None l = absurd (omega (arith, l))
scored_more true need n (Some q) l = absurd (omega (arith, l))
scored_more false need n (Some q) l = (refl, omega (arith, l))

scored_some : (clean : Bool) (need n : ℕ) (home : Option ℕ) (q : ℕ) → clean ≡ false → home ≡ Some q → n ≡ score_of clean need home → n ≡ need + 1
scored_some true need n home q e f h = absurd cc
scored_some false need n None q e f h = absurd cc
scored_some false need n (Some r) q e f h = h

pub group_home : (p : Plan) (b : Peaks) (k : ℕ) → IsIndexed p b → k < length (line_of b) → group b.ready.index k ≡ group_of (places p) (get_or b.seating.homes.items (get_or (line_of b) k 0) None)
group_home p b k indexed l =
    ap (λ (gs : List ℕ). get_or gs k 0) indexed.grouped.groups ∙ get_or-map (λ t. group_of (places p) (get_or b.seating.homes.items t None)) (line_of b) k 0 0 l

pub long_of : (p : Plan) (b : Peaks) → IsIndexed p b → count b.ready.index ≡ length (line_of b)
long_of p b indexed = ap length indexed.grouped.groups ∙ length-map (line_of b) (λ t. group_of (places p) (get_or b.seating.homes.items t None))

earlier_can : (p : Plan) (b : Peaks) (k j m : ℕ) → IsIndexed p b → k < j → j < length (line_of b) → group b.ready.index j ≡ group b.ready.index k
    → number b.ready.index k ≡ Some m → m ≤ score p b (get_or (line_of b) j 0) → CanBegin p b (get_or (line_of b) j 0) → CanBegin p b (get_or (line_of b) k 0)
earlier_can p b k j m indexed before l same is less can = record {
  left = ready.left;
  none_open = ready.none_open;
  room = room;
}
  where
    ready : IsReadyWith p b (get_or (line_of b) k 0) m
    ready = ready_with p b (get_or (line_of b) k 0) m (sym (indexed.scores k (omega (arith, before, l)) refl) ∙ is)

    room : (q : ℕ) → is_clean p (get_or (line_of b) k 0) ≡ false → get_or b.seating.homes.items (get_or (line_of b) k 0) None ≡ Some q → HasRoomAt b (get_or (line_of b) k 0) q (place_bound p q)
    room q clean home =
        let needs = scored_some (is_clean p (get_or (line_of b) k 0)) (get_or b.needs.items (get_or (line_of b) k 0) 0) m (get_or b.seating.homes.items (get_or (line_of b) k 0) None) q clean home ready.scored in
        let others = scored_more (is_clean p (get_or (line_of b) j 0)) (get_or b.needs.items (get_or (line_of b) j 0) 0) (get_or b.needs.items (get_or (line_of b) k 0) 0) (get_or b.seating.homes.items (get_or (line_of b) j 0) None) (omega (arith, needs, less)) in
        let in_group : group_of (places p) (get_or b.seating.homes.items (get_or (line_of b) j 0) None) ≡ q = sym (group_home p b j indexed l) ∙ same ∙ group_home p b k indexed (omega (arith, before, l)) ∙ ap (group_of (places p)) home in
        let there = home_of_group (places p) q (get_or b.seating.homes.items (get_or (line_of b) j 0) None) (indexed.grouped.low (get_or (line_of b) k 0) q (indexed.grouped.in_plan k (omega (arith, before, l))) home) in_group in
        room_less (get_or b.needs.items (get_or (line_of b) k 0) 0) (get_or b.needs.items (get_or (line_of b) j 0) 0) (get_or b.base.items q 0) (place_bound p q) (get_or b.seating.seats.items (get_or (line_of b) k 0) 0) (get_or b.seating.seats.items (get_or (line_of b) j 0) 0) (get_or b.trees.items q []) others.1
        (indexed.rising k j q before l home there) (can.room q others.0 there)

-- one question of a group: of those before the end the one with the least score
abbrev pub Passed : Peaks → ℕ → Option ℕ → ℕ → Type 0
Passed b g end k = InGroup b g k × (IsBefore end k → ⊥)

is_before : (end : Option ℕ) (k : ℕ) → (IsBefore end k) ⊎ (IsBefore end k → ⊥)
is_before None k = inl tt
is_before (Some e) k = by (cases_lt k e)
  where
    by : (k < e) ⊎ (e ≤ k) → (k < e) ⊎ (k < e → ⊥)
    by (inl l) = inl l
    by (inr m) = inr (λ l. omega (arith, l, m))

pub passed_none : (p : Plan) (b : Peaks) (g : ℕ) → IsFirst p b (Passed b g None) None
passed_none p b g j l some can = some.1 tt

not_scored : (p : Plan) (b : Peaks) (j : ℕ) → IsIndexed p b → j < length (line_of b) → number b.ready.index j ≡ None → CanBegin p b (get_or (line_of b) j 0) → ⊥
not_scored p b j indexed l none can = absurd (let is : None ≡ Some (score p b (get_or (line_of b) j 0)) = sym none ∙ indexed.scores j l refl ∙ can_score p b (get_or (line_of b) j 0) can in cc)

in_index : (p : Plan) (b : Peaks) (j : ℕ) → IsIndexed p b → j < length (line_of b) → j < count b.ready.index
in_index p b j indexed l = let e = long_of p b indexed in omega (arith, e, l)

pub passed_all : (p : Plan) (b : Peaks) (g : ℕ) (end first : Option ℕ) → IsIndexed p b → IsLeastBefore b.ready.index g end None → IsFirst p b (Passed b g end) first → IsFirst p b (InGroup b g) first
passed_all p b g end None indexed none h = λ j l some can. by j l some can (is_before end j)
  where
    by : (j : ℕ) → j < length (line_of b) → InGroup b g j → CanBegin p b (get_or (line_of b) j 0) → (IsBefore end j) ⊎ (IsBefore end j → ⊥) → ⊥
    by j l some can (inl before) = not_scored p b j indexed l (none j (in_index p b j indexed l) some before) can
    by j l some can (inr after) = h j l (some, after) can
passed_all p b g end (Some k) indexed none h = record {
  within = h.within;
  can = h.can;
  first = λ j l some can. by j l some can (is_before end j);
}
  where
    by : (j : ℕ) → j < length (line_of b) → InGroup b g j → CanBegin p b (get_or (line_of b) j 0) → (IsBefore end j) ⊎ (IsBefore end j → ⊥) → k ≤ j
    by j l some can (inl before) = absurd (not_scored p b j indexed l (none j (in_index p b j indexed l) some before) can)
    by j l some can (inr after) = h.first j l (some, after) can

-- the question finds a task that can begin
pub passed_taken : (p : Plan) (b : Peaks) (g : ℕ) (k : ℕ) → k < length (line_of b) → CanBegin p b (get_or (line_of b) k 0) → IsFirst p b (Passed b g (Some k)) (Some k)
passed_taken p b g k l can = record {
  within = l;
  can = can;
  first = λ j m some other. by some.1 (cases_lt j k);
}
  where
    by : {j : ℕ} → (j < k → ⊥) → (j < k) ⊎ (k ≤ j) → k ≤ j
    by late (inl less) = absurd (late less)
    by late (inr more) = more

-- or one that can't: nor can those behind it
none_behind : (p : Plan) (b : Peaks) (g : ℕ) (end : Option ℕ) (k j : ℕ) → IsIndexed p b → IsLeastAt b.ready.index g end k → (CanBegin p b (get_or (line_of b) k 0) → ⊥) → j < length (line_of b) → InGroup b g j → IsBefore end j → (j < k → ⊥) → CanBegin p b (get_or (line_of b) j 0) → ⊥
none_behind p b g end k j indexed least not l some before late can = by (cases_lt k j)
  where
    by : (k < j) ⊎ (j ≤ k) → ⊥
    by (inl more) = not (earlier_can p b k j least.least indexed more l (some ∙ sym least.in_group) least.is (least.none_less j (score p b (get_or (line_of b) j 0)) (in_index p b j indexed l) some before (indexed.scores j l refl ∙ can_score p b (get_or (line_of b) j 0) can)) can)
    by (inr same) = not_later (cases_lt j k)
      where
        not_later : (j < k) ⊎ (k ≤ j) → ⊥
        not_later (inl less) = late less
        not_later (inr more) = not (subst (λ (n : ℕ). CanBegin p b (get_or (line_of b) n 0)) (let e : j ≡ k = omega (arith, same, more) in e) can)

pub passed_refused : (p : Plan) (b : Peaks) (g : ℕ) (end : Option ℕ) (k : ℕ) (first : Option ℕ) → IsIndexed p b → IsLeastAt b.ready.index g end k → (CanBegin p b (get_or (line_of b) k 0) → ⊥) → IsFirst p b (Passed b g end) first → IsFirst p b (Passed b g (Some k)) first
passed_refused p b g end k None indexed least not h = λ j l some can. by j l some can (is_before end j)
  where
    by : (j : ℕ) → j < length (line_of b) → Passed b g (Some k) j → CanBegin p b (get_or (line_of b) j 0) → (IsBefore end j) ⊎ (IsBefore end j → ⊥) → ⊥
    by j l some can (inl before) = none_behind p b g end k j indexed least not l some.0 before some.1 can
    by j l some can (inr after) = h j l (some.0, after) can
passed_refused p b g end k (Some i) indexed least not h = record {
  within = h.within;
  can = h.can;
  first = λ j l some can. by j l some can (is_before end j);
}
  where
    by : (j : ℕ) → j < length (line_of b) → Passed b g (Some k) j → CanBegin p b (get_or (line_of b) j 0) → (IsBefore end j) ⊎ (IsBefore end j → ⊥) → i ≤ j
    by j l some can (inl before) = absurd (none_behind p b g end k j indexed least not l some.0 before some.1 can)
    by j l some can (inr after) = h.first j l (some.0, after) can

-- all groups
pub none_below : (p : Plan) (b : Peaks) (n : ℕ) → n ≡ 0 → IsFirst p b (InGroupBelow b n) None
none_below p b n e j l some can = absurd (omega (arith, some, e))

first_any : (p : Plan) (b : Peaks) (P Q R : ℕ → Type 0) (x y : Option ℕ) → ((j : ℕ) → R j → (P j) ⊎ (Q j)) → IsFirst p b P x → IsFirst p b Q y → IsFirst p b R (earlier x y)
first_any p b P Q R None None split f g = λ j l some can. by j l can (split j some)
  where
    by : (j : ℕ) → j < length (line_of b) → CanBegin p b (get_or (line_of b) j 0) → (P j) ⊎ (Q j) → ⊥
    by j l can (inl a) = f j l a can
    by j l can (inr a) = g j l a can
first_any p b P Q R None (Some k) split f g = record { within = g.within; can = g.can; first = λ j l some can. by j l can (split j some) }
  where
    by : (j : ℕ) → j < length (line_of b) → CanBegin p b (get_or (line_of b) j 0) → (P j) ⊎ (Q j) → k ≤ j
    by j l can (inl a) = absurd (f j l a can)
    by j l can (inr a) = g.first j l a can
first_any p b P Q R (Some i) None split f g = record { within = f.within; can = f.can; first = λ j l some can. by j l can (split j some) }
  where
    by : (j : ℕ) → j < length (line_of b) → CanBegin p b (get_or (line_of b) j 0) → (P j) ⊎ (Q j) → i ≤ j
    by j l can (inl a) = f.first j l a can
    by j l can (inr a) = absurd (g j l a can)
first_any p b P Q R (Some i) (Some k) split f g = by_case (cases_lt i k)
  where
    by : (m : ℕ) → m ≤ i → m ≤ k → (j : ℕ) → j < length (line_of b) → CanBegin p b (get_or (line_of b) j 0) → (P j) ⊎ (Q j) → m ≤ j
    by m c d j l can (inl a) = let h = f.first j l a can in omega (arith, c, h)
    by m c d j l can (inr a) = let h = g.first j l a can in omega (arith, d, h)

    at : (m : ℕ) → m ≡ min i k → IsFirstAt p b R m → IsFirstAt p b R (min i k)
    at m e h = subst (IsFirstAt p b R) e h

    by_case : (i < k) ⊎ (k ≤ i) → IsFirstAt p b R (min i k)
    by_case (inl less) = at i (let e : i ≡ min i k = grind (arith, less) in e) (record { within = f.within; can = f.can; first = λ j l some can. by i (omega arith) (omega (arith, less)) j l can (split j some) })
    by_case (inr more) = at k (let e : k ≡ min i k = grind (arith, more) in e) (record { within = g.within; can = g.can; first = λ j l some can. by k (omega (arith, more)) (omega arith) j l can (split j some) })

pub first_more : (p : Plan) (b : Peaks) (n : ℕ) (x y : Option ℕ) → IsFirst p b (InGroupBelow b n) x → IsFirst p b (InGroup b n) y → IsFirst p b (InGroupBelow b (n + 1)) (earlier x y)
first_more p b n x y f g = first_any p b (InGroupBelow b n) (InGroup b n) (InGroupBelow b (n + 1)) x y (λ j some. by (group b.ready.index j) some (cases_lt (group b.ready.index j) n)) f g
  where
    by : (h : ℕ) → h < n + 1 → (h < n) ⊎ (n ≤ h) → (h < n) ⊎ (h ≡ n)
    by h l (inl less) = inl less
    by h l (inr more) = inr (omega (arith, l, more))

pub first_of_all : (p : Plan) (b : Peaks) (n : ℕ) (x : Option ℕ) → IsIndexed p b → n ≡ places p + 1 → IsFirst p b (InGroupBelow b n) x → IsFirst p b AtAll x
first_of_all p b n x indexed e h = by x h
  where
    low : (j : ℕ) → j < length (line_of b) → group b.ready.index j < n
    low j l = let had = indexed.grouped.index.in_groups j (in_index p b j indexed l) in let long = indexed.grouped.trees_long in omega (arith, had, long, e)

    by : (o : Option ℕ) → IsFirst p b (InGroupBelow b n) o → IsFirst p b AtAll o
    by None h = λ j l some can. h j l (low j l) can
    by (Some k) h = record { within = h.within; can = h.can; first = λ j l some can. h.first j l (low j l) can }

-- A task of the line can begin exactly where it can start.
pub begin_start : (p : Plan) (s : State) (b : Peaks) (k : ℕ) → ArePeaks p s b → k < length (line_of b) → CanBegin p b (get_or (line_of b) k 0) → CanStart p s (get_or (line_of b) k 0)
begin_start p s b k peaks l can = by_kind (is_clean p (get_or (line_of b) k 0)) refl
  where
    by_home : (o : Option ℕ) → get_or b.seating.homes.items (get_or (line_of b) k 0) None ≡ o → is_clean p (get_or (line_of b) k 0) ≡ false → CanStart p s (get_or (line_of b) k 0)
    by_home None e kind = (placeless p s b k peaks l can.left can.none_open kind (sym e)).0 refl
    by_home (Some q) e kind = (placed p s b k q true peaks l can.left can.none_open kind (sym e) (λ h. can.room q kind e, λ h. refl)).0 refl

    by_kind : (c : Bool) → is_clean p (get_or (line_of b) k 0) ≡ c → CanStart p s (get_or (line_of b) k 0)
    by_kind true e = (clean p s b k peaks l can.left can.none_open e).0 refl
    by_kind false e = by_home (get_or b.seating.homes.items (get_or (line_of b) k 0) None) refl e

decide_up : (b : ℕ) (o : Option ℕ) → (IsUpTo b o) ⊎ (IsUpTo b o → ⊥)
decide_up b None = inl tt
decide_up b (Some n) = by (cases_lt b n)
  where
    by : (b < n) ⊎ (n ≤ b) → (n ≤ b) ⊎ (n ≤ b → ⊥)
    by (inl less) = inr (λ m. omega (arith, less, m))
    by (inr more) = inl more

decide_room : (n b : ℕ) (o : Option ℕ) (bound : ℕ) → (HasRoom n b o bound) ⊎ (HasRoom n b o bound → ⊥)
decide_room n b o bound = by (cases_lt bound n) (cases_lt (bound - n) b) (decide_up (bound - n) o)
  where
    by : (bound < n) ⊎ (n ≤ bound) → (bound - n < b) ⊎ (b ≤ bound - n) → (IsUpTo (bound - n) o) ⊎ (IsUpTo (bound - n) o → ⊥) → (HasRoom n b o bound) ⊎ (HasRoom n b o bound → ⊥)
    by (inl less) x y = inr (λ h. let m = h.0 in omega (arith, less, m))
    by (inr more) (inl less) y = inr (λ h. let m = h.1 in omega (arith, less, m))
    by (inr more) (inr low) (inl up) = inl (more, low, up)
    by (inr more) (inr low) (inr up) = inr (λ h. up h.2)

pub start_begin : (p : Plan) (s : State) (b : Peaks) (k : ℕ) → ArePeaks p s b → k < length (line_of b) → left_of b (get_or (line_of b) k 0) ≡ true → CanStart p s (get_or (line_of b) k 0) → CanBegin p b (get_or (line_of b) k 0)
start_begin p s b k peaks l left can = record { left = left; none_open = none; room = λ q kind home. room q kind home (decide_room (get_or b.needs.items (get_or (line_of b) k 0) 0) (get_or b.base.items q 0) (greatest (take (get_or b.seating.seats.items (get_or (line_of b) k 0) 0) (get_or b.trees.items q []))) (place_bound p q)) }
  where
    not_open : (m : ℕ) → get_or b.missing.items (get_or (line_of b) k 0) 1 ≡ m → m ≡ 0
    not_open zero e = refl
    not_open (suc m) e = absurd (let no = (closed p s b k peaks l left (omega (arith, e))).1 can in cc)

    none : get_or b.missing.items (get_or (line_of b) k 0) 1 ≡ 0
    none = not_open (get_or b.missing.items (get_or (line_of b) k 0) 1) refl

    room : (q : ℕ) → is_clean p (get_or (line_of b) k 0) ≡ false → get_or b.seating.homes.items (get_or (line_of b) k 0) None ≡ Some q → (HasRoomAt b (get_or (line_of b) k 0) q (place_bound p q)) ⊎ (HasRoomAt b (get_or (line_of b) k 0) q (place_bound p q) → ⊥) → HasRoomAt b (get_or (line_of b) k 0) q (place_bound p q)
    room q kind home (inl has_room) = has_room
    room q kind home (inr off) = absurd (let no = (placed p s b k q false peaks l left none kind (sym home) (λ h. absurd cc, λ h. absurd (off h))).1 can in cc)

-- The Choice.
none_first : (p : Plan) (b : Peaks) (k : ℕ) → ((j : ℕ) → j < k → j < length (line_of b) → CanBegin p b (get_or (line_of b) j 0) → ⊥) → NoneOfLine p b k
none_first p b k none s peaks u h can = none at.0 before within begins
  where
    passes : has (take k (line_of b)) u ≡ true
    passes = by (has (take k (line_of b)) u) refl
      where
        by : (c : Bool) → has (take k (line_of b)) u ≡ c → c ≡ true
        by true e = refl
        by false e = absurd (let no = absent_filter (left_of b) u (take k (line_of b)) e in cc)

    at : (j : ℕ) × (j < length (take k (line_of b))) × (get_or (take k (line_of b)) j 0 ≡ u)
    at = place_of (take k (line_of b)) u passes

    before : at.0 < k
    before = let l = at.1 in let m = length-take k (line_of b) in omega (arith, l, m)

    within : at.0 < length (line_of b)
    within = let l = at.1 in let m = length-take k (line_of b) in omega (arith, l, m)

    is : get_or (line_of b) at.0 0 ≡ u
    is = sym (get_or-take k (line_of b) at.0 0 before) ∙ at.2

    begins : CanBegin p b (get_or (line_of b) at.0 0)
    begins = start_begin p s b at.0 peaks within (ap (left_of b) is ∙ has_filter (left_of b) u (take k (line_of b)) h) (subst (CanStart p s) (sym is) can)

pub no_first : (p : Plan) (s : State) (b : Peaks) → ArePeaks p s b → IsFirst p b AtAll None → HasNoChoice p s
no_first p s b peaks none = no_choice p s b (length (line_of b)) peaks (omega arith) (none_first p b (length (line_of b)) (λ j before l can. none j l tt can))

pub first_choice : (p : Plan) (s : State) (b : Peaks) (k : ℕ) → ArePeaks p s b → s.failing ≡ false → IsFirstAt p b AtAll k → IsChoice p s (get_or (line_of b) k 0)
first_choice p s b k peaks unfailed first =
    choice_of p s b k peaks unfailed first.within first.can.left (none_first p b k (λ j before l can. absurd (let late = first.first j l tt can in omega (arith, late, before)))) (begin_start p s b k peaks first.within first.can)

-- how many positions stand before an end
abbrev pub room_before : ℕ → Option ℕ → ℕ
room_before n None = n
room_before n (Some k) = k

pub room_falls : (n k : ℕ) (end : Option ℕ) → k < n → IsBefore end k → k < room_before n end
room_falls n k None within before = within
room_falls n k (Some m) within before = before
