-- The turn of a kept job is its place in the order.
use Rattle.std.proofs.Common.{◌≡◌, ◌≢◌, ℕ, zero, suc, ◌+◌, ◌<◌, ◌≤◌, ◌||◌, ◌&&◌, ◌⊎◌, inl, inr, min, Bool, true, false, cond, eqb, eqb-true, ltb, List, [], ◌∷◌, length, take, get_or, refl, sym, ap, ◌∙◌, arith}
use Rattle.std.specs.Prelude.{sum_by}
use Rattle.std.proofs.lemmas.Bool.{cases_order}
use Rattle.std.proofs.lemmas.List.{take_all, take_more}
use Rattle.std.proofs.lemmas.List.Sums.{sum_by-cons, sum_by_push}
use Rattle.dependency_graph.specs.Levels.{is_kept}
use Rattle.dependency_graph.specs.Ranking.{HasNoRepeats, comes_before, IsRanked}
use Rattle.dependency_graph.proofs.TestLemmas.{has}
use Rattle.site_selector.specs.Turns.{turn_of}
use Rattle.values.specs.Numbers.{total}
use Rattle.site_selector.proofs.TotalLemmas.{total_same, total_change}
use Rattle.dependency_graph.proofs.TestLemmas.{or_left, or_right, or_case, by_bool}

pub over_same : (v w : ℕ → ℕ) (xs : List ℕ) → ((q : ℕ) → has xs q ≡ true → v q ≡ w q) → sum_by v xs ≡ sum_by w xs
over_same v w [] h = refl
over_same v w (x ∷ xs) h =
    let here = h x (or_left (eqb x x) (has xs x) (let e : eqb x x ≡ true = grind arith in e)) in
    let less = over_same v w xs (λ q m. h q (or_right (eqb x q) (has xs q) m)) in
    omega (arith, here, less, sum_by-cons v x xs, sum_by-cons w x xs)

cond_false : (b : Bool) (x y : ℕ) → b ≡ false → cond b x y ≡ y
cond_false false x y e = refl
cond_false true x y e = absurd cc

cond_true : (b : Bool) (x y : ℕ) → b ≡ true → cond b x y ≡ x
cond_true true x y e = refl
cond_true false x y e = absurd cc

cond_or : (b : Bool) (x y : ℕ) → (b ≡ false → y ≡ x) → cond b x y ≡ x
cond_or true x y f = refl
cond_or false x y f = f refl

or_neither : (b c : Bool) → b ≡ false → c ≡ false → (b || c) ≡ false
or_neither true c h k = absurd cc
or_neither false c h k = k

-- sums that differ at the numbers of a list alone
pub total_over : (v w : ℕ → ℕ) (n : ℕ) (xs : List ℕ) → HasNoRepeats xs → ((q : ℕ) → has xs q ≡ true → q < n) → ((q : ℕ) → has xs q ≡ false → v q ≡ w q) → total n v + sum_by w xs ≡ total n w + sum_by v xs
total_over v w n [] once below off = let same = total_same v w n (λ q l. off q refl) in omega (arith, same)
total_over v w n (x ∷ xs) once below off =
    let m : ℕ → ℕ = λ q. cond (eqb x q) (w q) (v q) in
    let is_x : eqb x x ≡ true = grind arith in
    let ih = total_over m w n xs once.1 (λ q h. below q (or_right (eqb x q) (has xs q) h)) (λ q h. cond_or (eqb x q) (w q) (v q) (λ e. off q (or_neither (eqb x q) (has xs q) e h))) in
    let tail : sum_by m xs ≡ sum_by v xs = over_same m v xs (λ q h. by_bool (eqb x q)
    (λ e. absurd (let at : x ≡ q = eqb-true x q e in let twice : has xs x ≡ true = ap (has xs) at ∙ h in let once_only = once.0 in cc))
    (λ e. cond_false (eqb x q) (w q) (v q) e)) in
    let change = total_change v m n x (below x (or_left (eqb x x) (has xs x) is_x)) (λ q ne. sym (cond_false (eqb x q) (w q) (v q) (differ x q ne))) in
    let here : m x ≡ w x = cond_true (eqb x x) (w x) (v x) is_x in
    omega (arith, ih, tail, change, here, sum_by-cons v x xs, sum_by-cons w x xs)
  where
    differ : (a b : ℕ) → b ≢ a → eqb a b ≡ false
    differ a b ne = by_bool (eqb a b) (λ e. absurd (ne (sym (eqb-true a b e)))) (λ e. e)

zero_total : (n : ℕ) → total n (λ c. 0) ≡ 0
unfolding total
zero_total zero = refl
zero_total (suc n) = omega (arith, zero_total n)

zero_over : (xs : List ℕ) → sum_by (λ c. 0) xs ≡ 0
zero_over [] = refl
zero_over (x ∷ xs) = omega (arith, zero_over xs, sum_by-cons (λ c. 0) x xs)

pub total_listed : (w : ℕ → ℕ) (n : ℕ) (xs : List ℕ) → HasNoRepeats xs → ((c : ℕ) → has xs c ≡ true → c < n) → total n (λ c. cond (has xs c) (w c) 0) ≡ sum_by w xs
total_listed w n xs once below =
    let all = total_over (λ c. cond (has xs c) (w c) 0) (λ c. 0) n xs once below (λ c h. cond_false (has xs c) (w c) 0 h) in
    let here = over_same (λ c. cond (has xs c) (w c) 0) w xs (λ c h. cond_true (has xs c) (w c) 0 h) in
    omega (arith, all, here, zero_total n, zero_over xs)

-- no job comes before itself, and of two jobs one alone comes before the other
not_itself : (levels : List ℕ) (a : ℕ) → comes_before levels a a ≡ false
not_itself levels a = test (get_or levels a 0) a
  where
    test : (l a : ℕ) → (ltb l l || (eqb l l && ltb a a)) ≡ false
    test l a = grind arith

not_both : (levels : List ℕ) (a b : ℕ) → comes_before levels a b ≡ true → comes_before levels b a ≡ false
not_both levels a b h = test (get_or levels a 0) (get_or levels b 0) a b h
  where
    test : (l m a b : ℕ) → (ltb l m || (eqb l m && ltb a b)) ≡ true → (ltb m l || (eqb m l && ltb b a)) ≡ false
    test l m a b h = grind arith

-- of the first i jobs those come before the k-th that stand before it
counted : (kept : List Bool) (levels order : List ℕ) → IsRanked kept levels order → (k : ℕ) → k < length order → (i : ℕ) → i ≤ length order → sum_by (λ b. cond (comes_before levels b (get_or order k 0)) 1 0) (take i order) ≡ min i k
counted kept levels order sorted k l zero m = omega arith
counted kept levels order sorted k l (suc i) m =
    let less = counted kept levels order sorted k l i (omega arith) in
    let more : sum_by (λ b. cond (comes_before levels b (get_or order k 0)) 1 0) (take (suc i) order) ≡ sum_by (λ b. cond (comes_before levels b (get_or order k 0)) 1 0) (take i order) + cond (comes_before levels (get_or order i 0) (get_or order k 0)) 1 0
    = ap (λ (n : ℕ). sum_by (λ b. cond (comes_before levels b (get_or order k 0)) 1 0) (take n order)) (let e : suc i ≡ i + 1 = omega arith in e)
    ∙ ap (sum_by (λ b. cond (comes_before levels b (get_or order k 0)) 1 0)) (take_more order i 0 (omega arith)) ∙ sum_by_push _ (take i order) (get_or order i 0) in
    by_order (cases_order i k) less more
  where
    by_order : ((i ≡ k) ⊎ ((i < k) ⊎ (k < i))) → sum_by (λ b. cond (comes_before levels b (get_or order k 0)) 1 0) (take i order) ≡ min i k
        → sum_by (λ b. cond (comes_before levels b (get_or order k 0)) 1 0) (take (suc i) order) ≡ sum_by (λ b. cond (comes_before levels b (get_or order k 0)) 1 0) (take i order) + cond (comes_before levels (get_or order i 0) (get_or order k 0)) 1 0
        → sum_by (λ b. cond (comes_before levels b (get_or order k 0)) 1 0) (take (suc i) order) ≡ min (suc i) k
    by_order (inl e) less more = let none : cond (comes_before levels (get_or order i 0) (get_or order k 0)) 1 zero ≡ zero = ap (λ (b : Bool). cond b 1 zero) (ap (λ (j : ℕ). comes_before levels (get_or order j 0) (get_or order k 0)) e ∙ not_itself levels (get_or order k 0)) in omega (arith, less, more, none, e)
    by_order (inr (inl e)) less more = let one : cond (comes_before levels (get_or order i 0) (get_or order k 0)) 1 zero ≡ 1 = ap (λ (b : Bool). cond b 1 zero) (sorted.rising i k e l) in omega (arith, less, more, one, e)
    by_order (inr (inr e)) less more = let none : cond (comes_before levels (get_or order i 0) (get_or order k 0)) 1 zero ≡ zero = ap (λ (b : Bool). cond b 1 zero) (not_both levels (get_or order k 0) (get_or order i 0) (sorted.rising k i e (omega arith))) in omega (arith, less, more, none, e)

-- the turn of the k-th job in order is k
pub turn_is : (kept : List Bool) (levels order : List ℕ) (k : ℕ) → IsRanked kept levels order → k < length order → turn_of kept levels (get_or order k 0) ≡ k
turn_is kept levels order k sorted l =
    let listed = total_listed (λ b. cond (comes_before levels b (get_or order k 0)) 1 0) (length kept) order sorted.once sorted.below in
    let split : turn_of kept levels (get_or order k 0) ≡ total (length kept) (λ b. cond (has order b) (cond (comes_before levels b (get_or order k 0)) 1 0) 0)
    = total_same _ _ (length kept) (λ b m. nested (is_kept kept b) (comes_before levels b (get_or order k 0)) (has order b) (sorted.kept_ones b)) in
    let all = counted kept levels order sorted k l (length order) (omega arith) in
    let whole = ap (sum_by (λ b. cond (comes_before levels b (get_or order k 0)) 1 0)) (take_all (length order) order (omega arith)) in
    omega (arith, listed, split, all, whole, l)
  where
    nested : (f g h : Bool) → h ≡ f → cond (f && g) 1 zero ≡ cond h (cond g 1 zero) zero
    nested true g true e = refl
    nested false g false e = refl
    nested true g false e = absurd cc
    nested false g true e = absurd cc

-- a kept job stands somewhere in the order
pub stands : (order : List ℕ) (b : ℕ) → has order b ≡ true → (i : ℕ) × (i < length order) × (get_or order i 0 ≡ b)
stands [] b h = absurd cc
stands (x ∷ xs) b h = or_case (eqb x b) (has xs b) h
    (λ e. (0, omega arith, eqb-true x b e))
    (λ m. let rest = stands xs b m in (suc rest.0, omega (arith, rest.1), rest.2))

-- a job that comes before the k-th stands before it
pub stands_before : (kept : List Bool) (levels order : List ℕ) (k b i : ℕ) → IsRanked kept levels order → k < length order → i < length order → get_or order i 0 ≡ b → comes_before levels b (get_or order k 0) ≡ true → i < k
stands_before kept levels order k b i sorted l m at before = by_order (cases_order i k)
  where
    true_false : (b : Bool) → b ≡ true → b ≡ false → ⊥
    true_false true h k = absurd cc
    true_false false h k = absurd cc

    by_order : ((i ≡ k) ⊎ ((i < k) ⊎ (k < i))) → i < k
    by_order (inl e) = absurd (true_false (comes_before levels b (get_or order k 0)) before (ap (λ (x : ℕ). comes_before levels x (get_or order k 0)) (sym at ∙ ap (λ (j : ℕ). get_or order j 0) e) ∙ not_itself levels (get_or order k 0)))
    by_order (inr (inl e)) = e
    by_order (inr (inr e)) = absurd (true_false (comes_before levels b (get_or order k 0)) before (ap (λ (x : ℕ). comes_before levels x (get_or order k 0)) (sym at) ∙ not_both levels (get_or order k 0) (get_or order i 0) (sorted.rising k i e m)))
