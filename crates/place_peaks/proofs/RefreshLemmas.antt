-- Scores that become right, one after the other, and the positions and groups of a line.
use Rattle.std.proofs.Common.{◌≡◌, ℕ, suc, ◌+◌, ◌<◌, ◌≤◌, ◌&&◌, ◌||◌, ◌⊎◌, inl, inr, Bool, true, false, cond, nat_eq, eqb-true, List, [], ◌∷◌, ◌++◌, length, take, drop, get_or, Option, Some, None, refl, sym, ap, ◌∙◌, arith}
use Rattle.std.specs.Prelude.{filter, not, set}
use Rattle.std.proofs.lemmas.Bool.{cases_eq}
use Rattle.std.proofs.lemmas.List.{get_or-map, get_or-set_other, get_or-set_same, get_or-take, length-map, length-take, take-append-drop, take_more}
use Rattle.std.proofs.lemmas.List.Folds.{list_any-append}
use Rattle.group_index.specs.declared.index.GroupIndex.{GroupIndex}
use Rattle.group_index.specs.Index.{count, number}
use Rattle.plan_core.specs.declared.plan.Plan.{Plan}
use Rattle.plan_core.specs.Numbers.{has}
use Rattle.plan_core.specs.Words.{count_tasks}
use Rattle.place_peaks.proofs.Offered.{at_place, once_at}
use Rattle.storage_simulation.specs.Following.{AreOnce}
use Rattle.storage_simulation.specs.Goods.{places}
use Rattle.place_peaks.specs.declared.peaks.Peaks.{Peaks}
use Rattle.place_peaks.specs.Peaks.{line_of}
use Rattle.place_peaks.specs.Ready.{HasGroups, IsIndexedBut, but_one, but_some, group_of, groups_of, position, ready_score}
use Rattle.place_peaks.proofs.ChoosingLemmas.{filter_both, take_past}

-- a list of which the front has nothing that passes
pub passed_front : (f : ℕ → Bool) (xs : List ℕ) (k : ℕ) → filter f (take k xs) ≡ [] → filter f xs ≡ filter f (drop k xs)
passed_front f xs k none = ap (filter f) (sym (take-append-drop k xs)) ∙ filter_both f (take k xs) (drop k xs) ∙ ap (λ (ys : List ℕ). ys ++ filter f (drop k xs)) none

-- which scores are to be made anew
off_parts : (a b : Bool) → (a && not b) ≡ false → (a ≡ false) ⊎ (b ≡ true)
off_parts false b e = inl refl
off_parts true true e = inr refl
off_parts true false e = absurd cc

pub counts_line : (p : Plan) (b : Peaks) → HasGroups p b → count b.ready.index ≡ length (line_of b)
counts_line p b groups = ap length groups.groups ∙ length-map (line_of b) (λ t. group_of (places p) (get_or b.seating.homes.items t None))

-- a task's position in the line is its own
own_position : (p : Plan) (b : Peaks) (j k : ℕ) → HasGroups p b → j < length (line_of b) → k < length (line_of b) → get_or (line_of b) j 0 ≡ get_or (line_of b) k 0 → j ≡ k
own_position p b j k groups l m same = sym (groups.placed j l) ∙ ap (position b.ready) same ∙ groups.placed k m

pub refreshed : (p : Plan) (b : Peaks) (new : GroupIndex) (t k : ℕ) (score : Option ℕ) (off : ℕ → Bool) → HasGroups p b → k < length (line_of b) → get_or (line_of b) k 0 ≡ t → score ≡ ready_score p b t
    → ((j : ℕ) → j < count b.ready.index → number new j ≡ cond (nat_eq j k) score (number b.ready.index j)) → IsIndexedBut p b off
    → (j : ℕ) → j < length (line_of b) → but_one off t (get_or (line_of b) j 0) ≡ false → number new j ≡ ready_score p b (get_or (line_of b) j 0)
refreshed p b new t k score off groups within at is each indexed j l o = each j (let e = counts_line p b groups in omega (arith, e, l)) ∙ by (cases_eq j k)
  where
    by : (j ≡ k) ⊎ (j ≡ k → ⊥) → cond (nat_eq j k) score (number b.ready.index j) ≡ ready_score p b (get_or (line_of b) j 0)
    by (inl same) = ap (λ (c : Bool). cond c score (number b.ready.index j)) (let e : nat_eq j k ≡ true = grind (arith, same) in e) ∙ is ∙ ap (ready_score p b) (sym at ∙ ap (λ (i : ℕ). get_or (line_of b) i 0) (sym same))
    by (inr other) = ap (λ (c : Bool). cond c score (number b.ready.index j)) (let e : nat_eq j k ≡ false = grind (arith, other) in e) ∙ old (off_parts (off (get_or (line_of b) j 0)) (nat_eq (get_or (line_of b) j 0) t) o)
      where
        old : (off (get_or (line_of b) j 0) ≡ false) ⊎ (nat_eq (get_or (line_of b) j 0) t ≡ true) → number b.ready.index j ≡ ready_score p b (get_or (line_of b) j 0)
        old (inl e) = indexed j l e
        old (inr e) = absurd (other (own_position p b j k groups l within (eqb-true (get_or (line_of b) j 0) t e ∙ sym at)))

pub unrefreshed : (p : Plan) (b : Peaks) (t k : ℕ) (off : ℕ → Bool) → HasGroups p b → k ≡ position b.ready t → (k < length (line_of b) → get_or (line_of b) k 0 ≡ t → ⊥) → IsIndexedBut p b off → IsIndexedBut p b (but_one off t)
unrefreshed p b t k off groups is none indexed j l o = by (off_parts (off (get_or (line_of b) j 0)) (nat_eq (get_or (line_of b) j 0) t) o)
  where
    by : (off (get_or (line_of b) j 0) ≡ false) ⊎ (nat_eq (get_or (line_of b) j 0) t ≡ true) → number b.ready.index j ≡ ready_score p b (get_or (line_of b) j 0)
    by (inl e) = indexed j l e
    by (inr e) =
        let same = eqb-true (get_or (line_of b) j 0) t e in
        let at : k ≡ j = is ∙ ap (position b.ready) (sym same) ∙ groups.placed j l in
        absurd (none (omega (arith, at, l)) (ap (λ (i : ℕ). get_or (line_of b) i 0) at ∙ same))

-- one of a list more
has_more : (xs : List ℕ) (k u : ℕ) → k < length xs → has (take (k + 1) xs) u ≡ (has (take k xs) u || (nat_eq (get_or xs k 0) u || false))
has_more xs k u l = ap (λ (ys : List ℕ). has ys u) (take_more xs k 0 l) ∙ list_any-append (λ y. nat_eq y u) (take k xs) (get_or xs k 0 ∷ [])

off_more : (a h e : Bool) → (a && not (h || (e || false))) ≡ false → ((a && not h) && not e) ≡ false
off_more false h e x = refl
off_more true true e x = refl
off_more true false true x = refl
off_more true false false x = absurd cc

other_way : (a b : ℕ) → nat_eq a b ≡ nat_eq b a
other_way a b = grind arith

pub but_more : (off : ℕ → Bool) (xs : List ℕ) (k u : ℕ) → k < length xs → but_some off (has (take (k + 1) xs)) u ≡ false → but_one (but_some off (has (take k xs))) (get_or xs k 0) u ≡ false
but_more off xs k u l e =
    ap (λ (b : Bool). (off u && not (has (take k xs) u)) && not b) (other_way u (get_or xs k 0))
    ∙ off_more (off u) (has (take k xs) u) (nat_eq (get_or xs k 0) u) (ap (λ (b : Bool). off u && not b) (sym (has_more xs k u l)) ∙ e)

pub but_weaker : (p : Plan) (b : Peaks) (off less : ℕ → Bool) → IsIndexedBut p b off → ((u : ℕ) → less u ≡ false → off u ≡ false) → IsIndexedBut p b less
but_weaker p b off less h weaker k l e = h k l (weaker (get_or (line_of b) k 0) e)

-- none at first, and all at last
pub but_first : (p : Plan) (b : Peaks) (off : ℕ → Bool) (xs : List ℕ) (k : ℕ) → k ≡ 0 → IsIndexedBut p b off → IsIndexedBut p b (but_some off (has (take k xs)))
but_first p b off xs k e h j l o = h j l (by (off (get_or (line_of b) j 0)) (has (take k xs) (get_or (line_of b) j 0)) o (ap (λ (n : ℕ). has (take n xs) (get_or (line_of b) j 0)) e ∙ nothing xs (get_or (line_of b) j 0)))
  where
    nothing : (ys : List ℕ) (u : ℕ) → has (take 0 ys) u ≡ false
    nothing [] u = refl
    nothing (y ∷ ys) u = refl

    by : (a h : Bool) → (a && not h) ≡ false → h ≡ false → a ≡ false
    by false h x y = refl
    by true true x y = absurd cc
    by true false x y = absurd cc

pub nothing_yet : (p : Plan) (b : Peaks) (xs : List ℕ) (k : ℕ) → k ≡ 0 → IsIndexedBut p b (but_some (λ t. true) (has (take k xs)))
nothing_yet p b xs k e j l o = absurd (let no : has (take k xs) (get_or (line_of b) j 0) ≡ false = ap (λ (n : ℕ). has (take n xs) (get_or (line_of b) j 0)) e ∙ nothing xs (get_or (line_of b) j 0) in by (has (take k xs) (get_or (line_of b) j 0)) o no)
  where
    nothing : (ys : List ℕ) (u : ℕ) → has (take 0 ys) u ≡ false
    nothing [] u = refl
    nothing (y ∷ ys) u = refl

    by : (h : Bool) → not h ≡ false → h ≡ false → ⊥
    by true x y = absurd cc
    by false x y = absurd cc

take_whole : (xs : List ℕ) (k : ℕ) → length xs ≤ k → take k xs ≡ xs
take_whole xs k l = take_past xs k l

pub but_last : (off : ℕ → Bool) (xs : List ℕ) (k : ℕ) (now : ℕ → Bool) → length xs ≤ k → ((u : ℕ) → has xs u ≡ now u) → (u : ℕ) → but_some off now u ≡ false → but_some off (has (take k xs)) u ≡ false
but_last off xs k now l is u e = ap (λ (b : Bool). off u && not b) (ap (λ (ys : List ℕ). has ys u) (take_whole xs k l) ∙ is u) ∙ e

pub all_now : (p : Plan) (b : Peaks) (k : ℕ) → length (line_of b) ≤ k → IsIndexedBut p b (but_some (λ t. true) (has (take k (line_of b)))) → IsIndexedBut p b (λ t. false)
all_now p b k l h j m e = h j m (ap not (ap (λ (ys : List ℕ). has ys (get_or (line_of b) j 0)) (take_whole (line_of b) k l) ∙ at_place (line_of b) j m))

-- the positions of a line
apart : (xs : List ℕ) (j k : ℕ) → AreOnce xs → j < k → k < length xs → get_or xs j 0 ≡ get_or xs k 0 → ⊥
apart xs j k once less l same = absurd (let no = once_at xs k once l in let yes : has (take k xs) (get_or xs k 0) ≡ true = ap (has (take k xs)) (sym same ∙ sym (get_or-take k xs j 0 less)) ∙ at_place (take k xs) j (let m = length-take k xs in omega (arith, m, less, l)) in cc)

pub placed_next : (positions xs : List ℕ) (k t : ℕ) → AreOnce xs → k < length xs → t ≡ get_or xs k 0 → t < length positions → ((j : ℕ) → j < k → get_or positions (get_or xs j 0) 0 ≡ j)
    → (j : ℕ) → j < k + 1 → get_or (set positions t k) (get_or xs j 0) 0 ≡ j
placed_next positions xs k t once l is within so_far j less = by (cases_eq j k)
  where
    by : (j ≡ k) ⊎ (j ≡ k → ⊥) → get_or (set positions t k) (get_or xs j 0) 0 ≡ j
    by (inl same) = ap (λ (u : ℕ). get_or (set positions t k) u 0) (ap (λ (i : ℕ). get_or xs i 0) same ∙ sym is) ∙ get_or-set_same positions t k 0 within ∙ sym same
    by (inr other) = get_or-set_other positions t (get_or xs j 0) k 0 (λ e. apart xs j k once (omega (arith, less, other)) l (e ∙ is)) ∙ so_far j (omega (arith, less, other))

-- the groups of a line
same_lists : (xs ys : List ℕ) → length xs ≡ length ys → ((k : ℕ) → k < length xs → get_or xs k 0 ≡ get_or ys k 0) → xs ≡ ys
same_lists [] [] long each = refl
same_lists [] (y ∷ ys) long each = absurd (omega (arith, long))
same_lists (x ∷ xs) [] long each = absurd (omega (arith, long))
same_lists (x ∷ xs) (y ∷ ys) long each = ap (λ (z : ℕ). z ∷ xs) (each 0 (omega arith)) ∙ ap (λ (zs : List ℕ). y ∷ zs) (same_lists xs ys (omega (arith, long)) (λ k l. each (suc k) (omega (arith, l))))

pub grouped_all : (last : ℕ) (homes : List (Option ℕ)) (groups line : List ℕ) (k : ℕ) → length groups ≡ length line → k ≡ length line → ((j : ℕ) → j < k → get_or groups j 0 ≡ group_of last (get_or homes (get_or line j 0) None)) → groups ≡ groups_of last homes line
grouped_all last homes groups line k long end each =
    same_lists groups (groups_of last homes line) (long ∙ sym (length-map line (λ t. group_of last (get_or homes t None))))
    (λ j l. each j (omega (arith, l, long, end)) ∙ sym (get_or-map (λ t. group_of last (get_or homes t None)) line j 0 0 (omega (arith, l, long))))

pub group_low : (last : ℕ) (o : Option ℕ) → ((q : ℕ) → o ≡ Some q → q < last) → group_of last o < last + 1
group_low last None h = omega arith
group_low last (Some q) h = let l = h q refl in omega (arith, l)

pub groups_low : (p : Plan) (homes : List (Option ℕ)) (line groups : List ℕ) (most : ℕ) → ((t : ℕ) → has line t ≡ true → t < count_tasks p) → ((t q : ℕ) → t < count_tasks p → get_or homes t None ≡ Some q → q < places p)
    → groups ≡ groups_of (places p) homes line → most ≡ places p + 1 → (j : ℕ) → j < length groups → get_or groups j 0 < most
groups_low p homes line groups most tasks low is end j l =
    let long = ap length is ∙ length-map line (λ t. group_of (places p) (get_or homes t None)) in
    let within : j < length line = omega (arith, l, long) in
    let at = ap (λ (gs : List ℕ). get_or gs j 0) is ∙ get_or-map (λ t. group_of (places p) (get_or homes t None)) line j 0 0 within in
    let less = group_low (places p) (get_or homes (get_or line j 0) None) (λ q e. low (get_or line j 0) q (tasks (get_or line j 0) (at_place line j within)) e) in
    omega (arith, at, less, end)
