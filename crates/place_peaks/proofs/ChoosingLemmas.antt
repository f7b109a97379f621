-- The first task that can start, by trees.
use Rattle.std.proofs.Common.{◌≡◌, ℕ, zero, suc, ◌+◌, ◌-◌, ◌<◌, ◌≤◌, ◌||◌, Bool, true, false, cond, nat_eq, List, [], ◌∷◌, ◌++◌, length, take, drop, get_or, Option, Some, None, refl, sym, ap, subst, ◌∙◌, arith, eqb-true, length-append}
use Rattle.std.specs.Prelude.{Decides, filter, slice_get}
use Rattle.values.specs.declared.numbers.TaskId.{TaskId}
use Rattle.std.proofs.lemmas.List.{take_more}
use Rattle.std.proofs.lemmas.List.Folds.{list_any-append}
use Rattle.place_peaks.proofs.Offered.{choice_in, clean_can_start, first_is_choice}
use Rattle.lease_rules.specs.Choice.{CanStart, HasNoChoice, IsChoice}
use Rattle.lease_rules.specs.State.{State}
use Rattle.peak_tree.specs.Numbers.{greatest}
use Rattle.plan_core.specs.declared.plan.Plan.{Plan}
use Rattle.plan_core.specs.Numbers.{has}
use Rattle.plan_core.specs.Words.{is_clean, task_numbers}
use Rattle.storage_simulation.specs.code.Goods.{place}
use Rattle.storage_simulation.specs.Goods.{place_bound}
use Rattle.storage_simulation.specs.Standings.{sizes}
use Rattle.storage_simulation.specs.Usage.{usage}
use Rattle.place_peaks.specs.declared.peaks.Peaks.{Peaks}
use Rattle.place_peaks.specs.Peaks.{AreBehind, ArePeaks, AreSeated, HasPassed, left_of, line_of, stack_of}
use Rattle.place_peaks.specs.Stack.{stacked}
use Rattle.place_peaks.specs.Places.{brings, held_by, is_place, there}
use Rattle.place_peaks.specs.Choosing.{HasRoomAt}
use Rattle.place_peaks.specs.Tree.{HasRoom}
use Rattle.place_peaks.specs.Values.{values}
use Rattle.place_peaks.proofs.DecisionLemmas.{HasPlaceFor, IsSpot, can_has_place, place_can}
use Rattle.place_peaks.proofs.ValuesLemmas.{values_before, values_long}
use Rattle.place_peaks.proofs.CountLemmas.{none_open, open_none}

-- lists
pub split : (xs : List ℕ) (i : ℕ) → i < length xs → xs ≡ take i xs ++ get_or xs i 0 ∷ drop (suc i) xs
split [] i h = absurd (omega arith)
split (x ∷ xs) zero h = refl
split (x ∷ xs) (suc i) h = ap (λ (l : List ℕ). x ∷ l) (split xs i (omega arith))

pub filter_both : (f : ℕ → Bool) (xs ys : List ℕ) → filter f (xs ++ ys) ≡ filter f xs ++ filter f ys
filter_both f [] ys = refl
filter_both f (x ∷ xs) ys = by (f x) (filter_both f xs ys)
  where
    by : (b : Bool) → filter f (xs ++ ys) ≡ filter f xs ++ filter f ys → cond b (x ∷ filter f (xs ++ ys)) (filter f (xs ++ ys)) ≡ cond b (x ∷ filter f xs) (filter f xs) ++ filter f ys
    by true e = ap (λ (l : List ℕ). x ∷ l) e
    by false e = e

pub filter_split : (f : ℕ → Bool) (xs : List ℕ) (t : ℕ) (ys : List ℕ) → f t ≡ true → filter f (xs ++ t ∷ ys) ≡ filter f xs ++ t ∷ filter f ys
filter_split f xs t ys e = filter_both f xs (t ∷ ys) ∙ ap (λ (b : Bool). filter f xs ++ cond b (t ∷ filter f ys) (filter f ys)) e

pub rest_split : (p : Plan) (s : State) (b : Peaks) (k : ℕ) → ArePeaks p s b → k < length (line_of b) → left_of b (get_or (line_of b) k 0) ≡ true
    → s.rest ≡ filter (left_of b) (take k (line_of b)) ++ get_or (line_of b) k 0 ∷ filter (left_of b) (drop (suc k) (line_of b))
rest_split p s b k peaks l is = peaks.rest ∙ ap (filter (left_of b)) (split (line_of b) k l) ∙ filter_split (left_of b) (take k (line_of b)) (get_or (line_of b) k 0) (drop (suc k) (line_of b)) is

has_middle : (xs : List ℕ) (t : ℕ) (ys : List ℕ) → has (xs ++ t ∷ ys) t ≡ true
has_middle [] t ys = or (nat_eq t t) (has ys t) (let e : nat_eq t t ≡ true = grind arith in e)
  where
    or : (a b : Bool) → a ≡ true → (a || b) ≡ true
    or true b e = refl
    or false b e = absurd cc
has_middle (x ∷ xs) t ys = or (nat_eq x t) (has (xs ++ t ∷ ys) t) (has_middle xs t ys)
  where
    or : (a b : Bool) → b ≡ true → (a || b) ≡ true
    or true b e = refl
    or false b e = e

pub there_is : (p : Plan) (s : State) (b : Peaks) (k : ℕ) → ArePeaks p s b → k < length (line_of b) → left_of b (get_or (line_of b) k 0) ≡ true → has s.rest (get_or (line_of b) k 0) ≡ true
there_is p s b k peaks l is = ap (λ (xs : List ℕ). has xs (get_or (line_of b) k 0)) (rest_split p s b k peaks l is) ∙ has_middle (filter (left_of b) (take k (line_of b))) (get_or (line_of b) k 0) (filter (left_of b) (drop (suc k) (line_of b)))

-- a task with open parents
pub closed : (p : Plan) (s : State) (b : Peaks) (k : ℕ) → ArePeaks p s b → k < length (line_of b) → left_of b (get_or (line_of b) k 0) ≡ true → 0 < get_or b.missing.items (get_or (line_of b) k 0) 1 → Decides false (CanStart p s (get_or (line_of b) k 0))
closed p s b k peaks l is some = (λ h. absurd cc, λ can. absurd (let none = open_none p s b [] peaks (get_or (line_of b) k 0) (there_is p s b k peaks l is) can.parents_ended in omega (arith, none, some)))

-- a Clean without open parents
pub clean : (p : Plan) (s : State) (b : Peaks) (k : ℕ) → ArePeaks p s b → k < length (line_of b) → left_of b (get_or (line_of b) k 0) ≡ true → get_or b.missing.items (get_or (line_of b) k 0) 1 ≡ 0 → is_clean p (get_or (line_of b) k 0) ≡ true → Decides true (CanStart p s (get_or (line_of b) k 0))
clean p s b k peaks l is none kind = (λ h. clean_can_start p s (get_or (line_of b) k 0) peaks.rules.laws peaks.sound (there_is p s b k peaks l is) kind (none_open p s b [] peaks (get_or (line_of b) k 0) (there_is p s b k peaks l is) none), λ can. refl)

pub spot_of : (p : Plan) (s : State) (b : Peaks) (k : ℕ) → ArePeaks p s b → k < length (line_of b) → left_of b (get_or (line_of b) k 0) ≡ true → get_or b.missing.items (get_or (line_of b) k 0) 1 ≡ 0 → is_clean p (get_or (line_of b) k 0) ≡ false
    → IsSpot p s (left_of b) (take k (line_of b)) (get_or (line_of b) k 0) (drop (suc k) (line_of b))
spot_of p s b k peaks l is none kind = record {
  rules = peaks.rules;
  sound = peaks.sound;
  is = rest_split p s b k peaks l is;
  makes_goods = kind;
  parents_ended = none_open p s b [] peaks (get_or (line_of b) k 0) (there_is p s b k peaks l is) none;
}

home_is : (p : Plan) (s : State) (b : Peaks) (k : ℕ) → ArePeaks p s b → k < length (line_of b) → left_of b (get_or (line_of b) k 0) ≡ true → (o : Option ℕ) → o ≡ get_or b.seating.homes.items (get_or (line_of b) k 0) None → place p (get_or (line_of b) k 0) ≡ o
home_is p s b k peaks l is o e = sym (peaks.seated.homes (get_or (line_of b) k 0) (peaks.sound.safe.tasks (get_or (line_of b) k 0) (there_is p s b k peaks l is))) ∙ sym e

-- a task of no place
pub placeless : (p : Plan) (s : State) (b : Peaks) (k : ℕ) → ArePeaks p s b → k < length (line_of b) → left_of b (get_or (line_of b) k 0) ≡ true → get_or b.missing.items (get_or (line_of b) k 0) 1 ≡ 0 → is_clean p (get_or (line_of b) k 0) ≡ false
    → None ≡ get_or b.seating.homes.items (get_or (line_of b) k 0) None → Decides true (CanStart p s (get_or (line_of b) k 0))
placeless p s b k peaks l is none kind home = (
  λ h. place_can p s (left_of b) (take k (line_of b)) (get_or (line_of b) k 0) (drop (suc k) (line_of b)) (spot_of p s b k peaks l is none kind) (λ q at. absurd (let no : None ≡ Some q = sym (home_is p s b k peaks l is None home) ∙ at in cc)),
  λ can. refl,
)

-- a task of a place
room_same : (n m b c : ℕ) (x y : Option ℕ) (bound : ℕ) → n ≡ m → b ≡ c → x ≡ y → HasRoom n b x bound → HasRoom m c y bound
room_same n m b c x y bound e f g r = subst (λ (k : ℕ). HasRoom k c y bound) e (subst (λ (k : ℕ). HasRoom n k y bound) f (subst (λ (z : Option ℕ). HasRoom n b z bound) g r))

some_same : (a b : ℕ) → Some a ≡ Some b → a ≡ b
some_same a b e = cc

placed_by : (p : Plan) (s : State) (left : ℕ → Bool) (xs : List ℕ) (t : ℕ) (ys : List ℕ) (q n b : ℕ) (top : Option ℕ) (c : Bool) → IsSpot p s left xs t ys → place p t ≡ Some q
    → n ≡ brings p (sizes s.held) q t → b ≡ usage p (sizes s.held) [] q → top ≡ greatest (values (there p q) left (held_by p (sizes s.held) q) [] xs)
    → Decides c (HasRoom n b top (place_bound p q)) → Decides c (CanStart p s t)
placed_by p s left xs t ys q n b top c spot at need base tops d = (
  λ h. place_can p s left xs t ys spot (λ r same. subst (HasPlaceFor p (sizes s.held) left xs t) (some_same q r (sym at ∙ same)) (forth (d.0 h))),
  λ can. d.1 (back (can_has_place p s left xs t ys q spot at can)),
)
  where
    forth : HasRoom n b top (place_bound p q) → HasPlaceFor p (sizes s.held) left xs t q
    forth r = let m = room_same n (brings p (sizes s.held) q t) b (usage p (sizes s.held) [] q) top (greatest (values (there p q) left (held_by p (sizes s.held) q) [] xs)) (place_bound p q) need base tops r in record { brings_less = m.0; base = m.1; tops = m.2 }

    back : HasPlaceFor p (sizes s.held) left xs t q → HasRoom n b top (place_bound p q)
    back r = room_same (brings p (sizes s.held) q t) n (usage p (sizes s.held) [] q) b (greatest (values (there p q) left (held_by p (sizes s.held) q) [] xs)) top (place_bound p q) (sym need) (sym base) (sym tops) (r.brings_less, r.base, r.tops)

-- the values before the seat of a task are those of the tasks before it
top_is : (p : Plan) (s : State) (b : Peaks) (k q : ℕ) → ArePeaks p s b → k < length (line_of b) → place p (get_or (line_of b) k 0) ≡ Some q
    → take (get_or b.seating.seats.items (get_or (line_of b) k 0) 0) (get_or b.trees.items q []) ≡ values (there p q) (left_of b) (held_by p (sizes s.held) q) [] (take k (line_of b))
top_is p s b k q peaks l at =
    ap (λ (n : ℕ). take n (get_or b.trees.items q [])) (peaks.seated.counted.seat k q l at)
    ∙ ap (take (length (filter (there p q) (take k (line_of b))))) (peaks.trees q (peaks.rules.one.place_below (get_or (line_of b) k 0) q at) ∙ ap (values (there p q) (left_of b) (held_by p (sizes s.held) q) []) (split (line_of b) k l))
    ∙ values_before (there p q) (left_of b) (held_by p (sizes s.held) q) [] (take k (line_of b)) (get_or (line_of b) k 0 ∷ drop (suc k) (line_of b))

pub placed : (p : Plan) (s : State) (b : Peaks) (k q : ℕ) (c : Bool) → ArePeaks p s b → k < length (line_of b) → left_of b (get_or (line_of b) k 0) ≡ true → get_or b.missing.items (get_or (line_of b) k 0) 1 ≡ 0 → is_clean p (get_or (line_of b) k 0) ≡ false
    → Some q ≡ get_or b.seating.homes.items (get_or (line_of b) k 0) None → Decides c (HasRoomAt b (get_or (line_of b) k 0) q (place_bound p q)) → Decides c (CanStart p s (get_or (line_of b) k 0))
placed p s b k q c peaks l is none kind home d =
    let at = home_is p s b k peaks l is (Some q) home in
    placed_by p s (left_of b) (take k (line_of b)) (get_or (line_of b) k 0) (drop (suc k) (line_of b)) q (get_or b.needs.items (get_or (line_of b) k 0) 0) (get_or b.base.items q 0) (greatest (take (get_or b.seating.seats.items (get_or (line_of b) k 0) 0) (get_or b.trees.items q []))) c
    (spot_of p s b k peaks l is none kind) at (peaks.needs (get_or (line_of b) k 0) q (there_is p s b k peaks l is) kind at) (peaks.bases q (peaks.rules.one.place_below (get_or (line_of b) k 0) q at)) (ap greatest (top_is p s b k q peaks l at)) d

pub take_none : (n : ℕ) → greatest (take n []) ≡ None
take_none zero = refl
take_none (suc n) = refl

-- none of the first tasks of the line can start
abbrev pub NoneOfLine : Plan → Peaks → ℕ → Type 0
NoneOfLine p b k = (s : State) → ArePeaks p s b → (u : ℕ) → has (filter (left_of b) (take k (line_of b))) u ≡ true → CanStart p s u → ⊥

pub none_before : (p : Plan) (b : Peaks) → HasPassed b → NoneOfLine p b b.first
none_before p b passed s peaks u h can = absurd (let no : has [] u ≡ true = ap (λ (xs : List ℕ). has xs u) (sym passed) ∙ h in cc)

has_both : (xs ys : List ℕ) (u : ℕ) → has (xs ++ ys) u ≡ (has xs u || has ys u)
has_both xs ys u = list_any-append (λ y. nat_eq y u) xs ys

pub none_more : (p : Plan) (b : Peaks) (k : ℕ) → k < length (line_of b) → NoneOfLine p b k → ((s : State) → ArePeaks p s b → left_of b (get_or (line_of b) k 0) ≡ true → CanStart p s (get_or (line_of b) k 0) → ⊥) → NoneOfLine p b (k + 1)
none_more p b k l none here s peaks u h can = by (left_of b (get_or (line_of b) k 0)) refl more
  where
    more : has (filter (left_of b) (take k (line_of b)) ++ filter (left_of b) (get_or (line_of b) k 0 ∷ [])) u ≡ true
    more = ap (λ (xs : List ℕ). has xs u) (sym (filter_both (left_of b) (take k (line_of b)) (get_or (line_of b) k 0 ∷ []))) ∙ ap (λ (xs : List ℕ). has (filter (left_of b) xs) u) (sym (take_more (line_of b) k 0 l)) ∙ h

    case : {P : Type 0} (a c : Bool) → (a || c) ≡ true → (a ≡ true → P) → (c ≡ true → P) → P
    case true c e f g = f refl
    case false c e f g = g e

    by : (c : Bool) → left_of b (get_or (line_of b) k 0) ≡ c → has (filter (left_of b) (take k (line_of b)) ++ cond c (get_or (line_of b) k 0 ∷ []) []) u ≡ true → ⊥
    by true e m = case (has (filter (left_of b) (take k (line_of b))) u) (nat_eq (get_or (line_of b) k 0) u || false) (sym (has_both (filter (left_of b) (take k (line_of b))) (get_or (line_of b) k 0 ∷ []) u) ∙ m)
        (λ early. none s peaks u early can)
        (λ late. case (nat_eq (get_or (line_of b) k 0) u) false late (λ same. here s peaks e (subst (CanStart p s) (sym (eqb-true (get_or (line_of b) k 0) u same)) can)) (λ no. absurd cc))
    by false e m = case (has (filter (left_of b) (take k (line_of b))) u) false (sym (has_both (filter (left_of b) (take k (line_of b))) [] u) ∙ m) (λ early. none s peaks u early can) (λ no. absurd cc)

-- the Choice
pub choice_of : (p : Plan) (s : State) (b : Peaks) (k : ℕ) → ArePeaks p s b → s.failing ≡ false → k < length (line_of b) → left_of b (get_or (line_of b) k 0) ≡ true → NoneOfLine p b k → CanStart p s (get_or (line_of b) k 0) → IsChoice p s (get_or (line_of b) k 0)
choice_of p s b k peaks unfailed l is none can = record {
  no_fail = unfailed;
  before = filter (left_of b) (take k (line_of b));
  later = filter (left_of b) (drop (suc k) (line_of b));
  is = rest_split p s b k peaks l is;
  can = can;
  first = none s peaks;
}

pub take_past : (xs : List ℕ) (k : ℕ) → length xs ≤ k → take k xs ≡ xs
take_past [] zero l = refl
take_past [] (suc k) l = refl
take_past (x ∷ xs) zero l = absurd (omega (arith, l))
take_past (x ∷ xs) (suc k) l = ap (λ (ys : List ℕ). x ∷ ys) (take_past xs k (omega (arith, l)))

pub no_choice : (p : Plan) (s : State) (b : Peaks) (k : ℕ) → ArePeaks p s b → length (line_of b) ≤ k → NoneOfLine p b k → HasNoChoice p s
no_choice p s b k peaks end none t choice =
    none s peaks t (ap (λ (xs : List ℕ). has (filter (left_of b) xs) t) (take_past (line_of b) k end) ∙ ap (λ (xs : List ℕ). has xs t) (sym peaks.rest) ∙ choice_in p s t choice) choice.can

-- the last task of the stack is the first of rest
pub last_first : (xs more : List ℕ) (t : ℕ) → slice_get xs (length xs - 1) ≡ Some t → (ys : List ℕ) × (stacked xs more ≡ t ∷ ys)
last_first [] more t e = absurd cc
last_first (x ∷ []) more t e = (more, ap (λ (y : ℕ). y ∷ more) (some_same x t e))
last_first (x ∷ y ∷ zs) more t e = last_first (y ∷ zs) (x ∷ more) t (ap (slice_get (x ∷ y ∷ zs)) (let same : suc (length (y ∷ zs) - 1) ≡ length (x ∷ y ∷ zs) - 1 = omega arith in same) ∙ e)

pub waiting_is_choice : (p : Plan) (s : State) (b : Peaks) (t : ℕ) → AreBehind p s b (stack_of b) → s.failing ≡ false → slice_get (task_numbers b.again.items) (length (task_numbers b.again.items) - 1) ≡ Some t → IsChoice p s t
waiting_is_choice p s b t peaks unfailed e =
    let f = last_first (task_numbers b.again.items) [] t e in
    first_is_choice p s t (f.0 ++ filter (left_of b) (line_of b)) peaks.rules.laws peaks.sound unfailed (peaks.rest ∙ ap (λ (xs : List ℕ). xs ++ filter (left_of b) (line_of b)) f.1) (peaks.waiting t (ap (λ (xs : List ℕ). has xs t) f.1 ∙ has_middle [] t f.0))

pub none_stacked : (xs : List TaskId) → xs ≡ [] → stacked (task_numbers xs) [] ≡ []
none_stacked xs e = ap (λ (ys : List TaskId). stacked (task_numbers ys) []) e

pub behind_none : (p : Plan) (s : State) (b : Peaks) → b.again.items ≡ [] → AreBehind p s b (stack_of b) → ArePeaks p s b
behind_none p s b e peaks = subst (AreBehind p s b) (none_stacked b.again.items e) peaks

-- seats of the line
filter_long : (f : ℕ → Bool) (xs : List ℕ) (k : ℕ) → k < length xs → f (get_or xs k 0) ≡ true → length (filter f (take k xs)) < length (filter f xs)
filter_long f xs k l e =
    let all = ap (λ (ys : List ℕ). length (filter f ys)) (split xs k l) in
    let parts = ap length (filter_split f (take k xs) (get_or xs k 0) (drop (suc k) xs) e) in
    let sum = length-append (filter f (take k xs)) (get_or xs k 0 ∷ filter f (drop (suc k) xs)) in
    omega (arith, all, parts, sum)

pub placed_there : (q : ℕ) (o : Option ℕ) → o ≡ Some q → is_place q o ≡ true
placed_there q o e = ap (is_place q) e ∙ (let k : nat_eq q q ≡ true = grind arith in k)

has_at : (xs : List ℕ) (k : ℕ) → k < length xs → has xs (get_or xs k 0) ≡ true
has_at xs k l = ap (λ (ys : List ℕ). has ys (get_or xs k 0)) (split xs k l) ∙ has_middle (take k xs) (get_or xs k 0) (drop (suc k) xs)

pub seated : (p : Plan) (s : State) (b : Peaks) (front : List ℕ) → AreBehind p s b front → AreSeated b
seated p s b front peaks k q l e =
    let at : place p (get_or (line_of b) k 0) ≡ Some q = sym (peaks.seated.homes (get_or (line_of b) k 0) (peaks.seated.in_plan (get_or (line_of b) k 0) (has_at (line_of b) k l))) ∙ e in
    let seat = peaks.seated.counted.seat k q l at in
    let tree = ap length (peaks.trees q (peaks.rules.one.place_below (get_or (line_of b) k 0) q at)) in
    let long = values_long (there p q) (left_of b) (held_by p (sizes s.held) q) front (line_of b) in
    let less = filter_long (there p q) (line_of b) k l (placed_there q (place p (get_or (line_of b) k 0)) at) in
    omega (arith, seat, tree, long, less)
