-- Lists that agree are one.
use Rattle.std.proofs.Common.{◌≡◌, ℕ, suc, ◌<◌, ◌||◌, ◌&&◌, ◌⊎◌, inl, inr, Bool, true, false, eqb, ltb, List, [], ◌∷◌, length, map, get_or, refl, sym, ap, subst, ◌∙◌, arith}
use Rattle.std.specs.Prelude.{slice_get}
use Rattle.std.proofs.lemmas.Bool.{and_parts, both_ways, eqb-true, eqb-false, eq-eqb, ltb-true, ne_eqb, or_cases}
use Rattle.std.proofs.lemmas.Option.{none-some, same_Some}
use Rattle.values.specs.declared.numbers.JobId.{JobId}
use Rattle.dependency_graph.specs.Edges.{is_among}
use Rattle.dependency_graph.specs.Graph.{numbers}
use Rattle.list_schedule.proofs.GraphLemmas.{by_bool, stands}

-- ---- by their places

-- lists that have the same at each place
pub one_by_place : {A : Type 0} (xs ys : List A) → ((k : ℕ) → slice_get xs k ≡ slice_get ys k) → xs ≡ ys
one_by_place [] [] same = refl
one_by_place [] (y ∷ ys) same = absurd (none-some y (same 0))
one_by_place (x ∷ xs) [] same = absurd (none-some x (sym (same 0)))
one_by_place {A} (x ∷ xs) (y ∷ ys) same =
    ap (λ (z : A). z ∷ xs) (same_Some x y (same 0)) ∙ ap (λ (zs : List A). y ∷ zs) (one_by_place xs ys (λ k. same (suc k)))

-- lists that a map makes the same, where it tells all
pub one_by_map : {A B : Type 0} (f : A → B) → ((x y : A) → f x ≡ f y → x ≡ y) → (xs ys : List A) → map f xs ≡ map f ys → xs ≡ ys
one_by_map f tells [] [] same = refl
one_by_map f tells [] (y ∷ ys) same = absurd cc
one_by_map f tells (x ∷ xs) [] same = absurd cc
one_by_map {A} f tells (x ∷ xs) (y ∷ ys) same =
    let first : f x ≡ f y = cc in
    let rest : map f xs ≡ map f ys = cc in
    ap (λ (z : A). z ∷ xs) (tells x y first) ∙ ap (λ (zs : List A). y ∷ zs) (one_by_map f tells xs ys rest)

abbrev job : ℕ → JobId
job n = record { 0 = n }

one_job : (x y : JobId) → x.0 ≡ y.0 → x ≡ y
one_job x y same = ap job same

-- lists of jobs with the same numbers
pub one_jobs : (xs ys : List JobId) → numbers xs ≡ numbers ys → xs ≡ ys
one_jobs xs ys same = one_by_map (λ (j : JobId). j.0) one_job xs ys same

-- ---- by their order

-- each number comes before those after it
abbrev pub IsOrderedBy : (ℕ → ℕ → Bool) → List ℕ → Type 0
IsOrderedBy before xs = (i j : ℕ) → i < j → j < length xs → before (get_or xs i 0) (get_or xs j 0) ≡ true

-- of two numbers at most one comes before the other
abbrev pub NeverBoth : (ℕ → ℕ → Bool) → Type 0
NeverBoth before = (a b : ℕ) → before a b ≡ true → before b a ≡ true → ⊥

head_in : (x : ℕ) (xs : List ℕ) → is_among x (x ∷ xs) ≡ true
head_in x xs = ap (λ (t : Bool). t || is_among x xs) (eq-eqb x x refl)

later_in : (x a : ℕ) (xs : List ℕ) → eqb x a ≡ false → is_among a (x ∷ xs) ≡ true → is_among a xs ≡ true
later_in x a xs other there = sym (ap (λ (t : Bool). t || is_among a xs) other) ∙ there

first_before : (before : ℕ → ℕ → Bool) (x : ℕ) (xs : List ℕ) → IsOrderedBy before (x ∷ xs) → (a : ℕ) → is_among a xs ≡ true → before x a ≡ true
first_before before x xs ordered a there =
    let at = stands a xs there in
    subst (λ (n : ℕ). before x n ≡ true) at.2 (ordered 0 (suc at.0) (omega arith) (omega (arith, at.1)))

rest_ordered : (before : ℕ → ℕ → Bool) (x : ℕ) (xs : List ℕ) → IsOrderedBy before (x ∷ xs) → IsOrderedBy before xs
rest_ordered before x xs ordered i j l m = ordered (suc i) (suc j) (omega (arith, l)) (omega (arith, m))

first_once : (before : ℕ → ℕ → Bool) → NeverBoth before → (x : ℕ) (xs : List ℕ) → IsOrderedBy before (x ∷ xs) → is_among x xs ≡ false
first_once before never x xs ordered = by_bool (is_among x xs) (λ t. absurd (let again = first_before before x xs ordered x t in never x x again again)) (λ f. f)

same_first : (before : ℕ → ℕ → Bool) → NeverBoth before → (x y : ℕ) (xs ys : List ℕ) → IsOrderedBy before (x ∷ xs) → IsOrderedBy before (y ∷ ys) → ((a : ℕ) → is_among a (x ∷ xs) ≡ is_among a (y ∷ ys)) → x ≡ y
same_first before never x y xs ys one two same = by_bool (eqb x y) (λ t. eqb-true x y t) (λ f. absurd (never x y (first_before before x xs one y (later_in x y xs f in_one)) (first_before before y ys two x (later_in y x ys (turned f) in_two))))
  where
    in_one : is_among y (x ∷ xs) ≡ true
    in_one = same y ∙ head_in y ys

    in_two : is_among x (y ∷ ys) ≡ true
    in_two = sym (same x) ∙ head_in x xs

    turned : eqb x y ≡ false → eqb y x ≡ false
    turned f = ne_eqb y x (λ e. eqb-false x y f (sym e))

same_rest : (before : ℕ → ℕ → Bool) → NeverBoth before → (x y : ℕ) (xs ys : List ℕ) → IsOrderedBy before (x ∷ xs) → IsOrderedBy before (y ∷ ys) → ((a : ℕ) → is_among a (x ∷ xs) ≡ is_among a (y ∷ ys)) → x ≡ y → (a : ℕ) → is_among a xs ≡ is_among a ys
same_rest before never x y xs ys one two same first a = by_bool (eqb x a)
    (λ t. let is : x ≡ a = eqb-true x a t in
    subst (λ (n : ℕ). is_among n xs ≡ false) is (first_once before never x xs one) ∙ sym (subst (λ (n : ℕ). is_among n ys ≡ false) (sym first ∙ is) (first_once before never y ys two)))
    (λ f. sym (ap (λ (t : Bool). t || is_among a xs) f) ∙ same a ∙ ap (λ (t : Bool). t || is_among a ys) (ap (λ (n : ℕ). eqb n a) (sym first) ∙ f))

-- ordered lists of the same numbers
pub one_order : (before : ℕ → ℕ → Bool) → NeverBoth before → (xs ys : List ℕ) → IsOrderedBy before xs → IsOrderedBy before ys → ((a : ℕ) → is_among a xs ≡ is_among a ys) → xs ≡ ys
one_order before never [] [] one two same = refl
one_order before never [] (y ∷ ys) one two same = absurd (both_ways (is_among y (y ∷ ys)) (sym (same y)) (head_in y ys))
one_order before never (x ∷ xs) [] one two same = absurd (both_ways (is_among x (x ∷ xs)) (same x) (head_in x xs))
one_order before never (x ∷ xs) (y ∷ ys) one two same =
    let first = same_first before never x y xs ys one two same in
    let rest = one_order before never xs ys (rest_ordered before x xs one) (rest_ordered before y ys two) (same_rest before never x y xs ys one two same first) in
    ap (λ (n : ℕ). n ∷ xs) first ∙ ap (λ (ns : List ℕ). y ∷ ns) rest

-- ---- by two numbers, of which the second decides where the first are equal

pub told : (sooner : Bool) (q r x y : ℕ) → (sooner || (eqb q r && ltb x y)) ≡ true → (sooner ≡ true) ⊎ ((q ≡ r) × (x < y))
told sooner q r x y h = by (or_cases sooner (eqb q r && ltb x y) h)
  where
    by : (sooner ≡ true) ⊎ ((eqb q r && ltb x y) ≡ true) → (sooner ≡ true) ⊎ ((q ≡ r) × (x < y))
    by (inl t) = inl t
    by (inr t) = let both = and_parts (eqb q r) (ltb x y) t in inr (eqb-true q r both.0, ltb-true x y both.1)

-- the lesser first number comes first
pub never_rising : (q r x y : ℕ) → (ltb q r ≡ true) ⊎ ((q ≡ r) × (x < y)) → (ltb r q ≡ true) ⊎ ((r ≡ q) × (y < x)) → ⊥
never_rising q r x y (inl t) (inl u) = let l = ltb-true q r t in let m = ltb-true r q u in omega (arith, l, m)
never_rising q r x y (inl t) (inr b) = let l = ltb-true q r t in omega (arith, l, b.0)
never_rising q r x y (inr a) (inl u) = let m = ltb-true r q u in omega (arith, m, a.0)
never_rising q r x y (inr a) (inr b) = omega (arith, a.1, b.1)

-- the greater first number comes first
pub never_falling : (q r x y : ℕ) → (ltb r q ≡ true) ⊎ ((q ≡ r) × (x < y)) → (ltb q r ≡ true) ⊎ ((r ≡ q) × (y < x)) → ⊥
never_falling q r x y (inl t) (inl u) = let l = ltb-true r q t in let m = ltb-true q r u in omega (arith, l, m)
never_falling q r x y (inl t) (inr b) = let l = ltb-true r q t in omega (arith, l, b.0)
never_falling q r x y (inr a) (inl u) = let m = ltb-true q r u in omega (arith, m, a.0)
never_falling q r x y (inr a) (inr b) = omega (arith, a.1, b.1)
