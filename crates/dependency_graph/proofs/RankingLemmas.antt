-- The kept jobs, sorted by (level, number), are in order.
use Rattle.std.proofs.Common.{◌≡◌, ℕ, zero, suc, ◌+◌, ◌<◌, ◌≤◌, ◌||◌, ◌&&◌, Bool, true, false, cond, eqb, eqb-true, ltb, List, [], ◌∷◌, ◌++◌, length, take, get_or, refl, sym, ap, ◌∙◌, add-one, arith}
use Rattle.std.specs.Prelude.{sum_by}
use Rattle.std.specs.List.Sorted.{IsPermutation, IsSorted}
use Rattle.std.specs.Ordering.{nat_cmp, ordering_then, is_lt}
use Rattle.std.proofs.lemmas.Cmp.{nat_cmp_total, on_total, then_total}
use Rattle.std.proofs.lemmas.List.Sorted.{ranks_by, sorted_far, sum_by-IsPermutation}
use Rattle.std.proofs.lemmas.Bool.{eqb-false}
use Rattle.std.proofs.lemmas.List.{append-nil}
use Rattle.std.specs.declared.cmp.Ordering.TheVariants.{Less, Equal, Greater}
use Rattle.std.proofs.lemmas.List.Sums.{sum_by-cons, sum_by-append}
use Rattle.dependency_graph.specs.Levels.{is_kept}
use Rattle.dependency_graph.specs.Ranking.{HasNoRepeats, comes_before, IsRanked}
use Rattle.dependency_graph.specs.code.Ranking.{leveled, numbers_in}
use Rattle.dependency_graph.proofs.TestLemmas.{has, or_left, or_right, by_bool, itself, fresh_at}

pub leveled_kept : (kept : List Bool) (levels : List ℕ) (n : ℕ) → is_kept kept n ≡ true → leveled kept levels (n + 1) ≡ leveled kept levels n ++ (get_or levels n 0, n) ∷ []
leveled_kept kept levels n e = rw add-one (ap (λ (b : Bool). leveled kept levels n ++ cond b ((get_or levels n 0, n) ∷ []) []) e)

pub leveled_dropped : (kept : List Bool) (levels : List ℕ) (n : ℕ) → is_kept kept n ≡ false → leveled kept levels (n + 1) ≡ leveled kept levels n
leveled_dropped kept levels n e = rw add-one (ap (λ (b : Bool). leveled kept levels n ++ cond b ((get_or levels n 0, n) ∷ []) []) e ∙ append-nil (leveled kept levels n))

-- how often a number stands, and how many stand under another level than theirs
abbrev pub times : ℕ → List (ℕ × ℕ) → ℕ
times a ps = sum_by (λ (p : ℕ × ℕ). cond (eqb p.1 a) 1 0) ps

abbrev pub wrong : List ℕ → List (ℕ × ℕ) → ℕ
wrong levels ps = sum_by (λ (p : ℕ × ℕ). cond (eqb p.0 (get_or levels p.1 0)) 0 1) ps

abbrev if_so : Bool → ℕ
if_so b = cond b 1 0

pub times_leveled : (kept : List Bool) (levels : List ℕ) (a n : ℕ) → times a (leveled kept levels n) ≡ if_so (is_kept kept a && ltb a n)
times_leveled kept levels a zero = ap if_so (sym (none (is_kept kept a) (ltb a 0) (let e : ltb a 0 ≡ false = grind arith in e)))
  where
    none : (x y : Bool) → y ≡ false → (x && y) ≡ false
    none true y e = e
    none false y e = refl
times_leveled kept levels a (suc n) =
    let less = times_leveled kept levels a n in
    let split = sum_by-append (λ (p : ℕ × ℕ). cond (eqb p.1 a) 1 0) (leveled kept levels n) (cond (is_kept kept n) ((get_or levels n 0, n) ∷ []) []) in
    let one = single (is_kept kept n) in
    by_place (eqb n a) refl (omega (arith, less, split, one))
  where
    single : (k : Bool) → times a (cond k ((get_or levels n 0, n) ∷ []) []) ≡ if_so (k && eqb n a)
    single true = omega arith
    single false = refl

    and_true : (x y : Bool) → y ≡ true → (x && y) ≡ x
    and_true true y e = e
    and_true false y e = refl

    and_false : (x y : Bool) → y ≡ false → (x && y) ≡ false
    and_false true y e = e
    and_false false y e = refl

    by_place : (b : Bool) → eqb n a ≡ b → times a (leveled kept levels n ++ cond (is_kept kept n) ((get_or levels n 0, n) ∷ []) []) ≡ if_so (is_kept kept a && ltb a n) + if_so (is_kept kept n && eqb n a) → times a (leveled kept levels n ++ cond (is_kept kept n) ((get_or levels n 0, n) ∷ []) []) ≡ if_so (is_kept kept a && ltb a (suc n))
    by_place true e sum =
        let at : n ≡ a = eqb-true n a e in
        let old : if_so (is_kept kept a && ltb a n) ≡ zero = ap if_so (and_false (is_kept kept a) (ltb a n) (let g : ltb a n ≡ false = grind (arith, at) in g)) in
        let new : if_so (is_kept kept n && eqb n a) ≡ if_so (is_kept kept a) = ap if_so (and_true (is_kept kept n) (eqb n a) e ∙ ap (is_kept kept) at) in
        let goal : if_so (is_kept kept a && ltb a (suc n)) ≡ if_so (is_kept kept a) = ap if_so (and_true (is_kept kept a) (ltb a (suc n)) (let g : ltb a (suc n) ≡ true = grind (arith, at) in g)) in
        omega (arith, sum, old, new, goal)
    by_place false e sum =
        let new : if_so (is_kept kept n && eqb n a) ≡ zero = ap if_so (and_false (is_kept kept n) (eqb n a) e) in
        let goal : if_so (is_kept kept a && ltb a (suc n)) ≡ if_so (is_kept kept a && ltb a n) = ap (λ (b : Bool). if_so (is_kept kept a && b)) (let ne = eqb-false n a e in let g : ltb a (suc n) ≡ ltb a n = grind (arith, ne) in g) in
        omega (arith, sum, new, goal)

pub wrong_leveled : (kept : List Bool) (levels : List ℕ) (n : ℕ) → wrong levels (leveled kept levels n) ≡ 0
wrong_leveled kept levels zero = refl
wrong_leveled kept levels (suc n) =
    let split = sum_by-append (λ (p : ℕ × ℕ). cond (eqb p.0 (get_or levels p.1 0)) 0 1) (leveled kept levels n) (cond (is_kept kept n) ((get_or levels n 0, n) ∷ []) []) in
    omega (arith, wrong_leveled kept levels n, split, single (is_kept kept n))
  where
    single : (k : Bool) → wrong levels (cond k ((get_or levels n 0, n) ∷ []) []) ≡ 0
    single true = let e : cond (eqb (get_or levels n 0) (get_or levels n 0)) zero 1 ≡ zero = ap (λ (b : Bool). cond b zero 1) (itself (get_or levels n 0)) in omega (arith, e)
    single false = refl

has_times : (ps : List (ℕ × ℕ)) (a : ℕ) → has (numbers_in ps) a ≡ ltb 0 (times a ps)
has_times [] a = refl
has_times (p ∷ ps) a = by_head (eqb p.1 a) refl (has_times ps a)
  where
    by_head : (b : Bool) → eqb p.1 a ≡ b → has (numbers_in ps) a ≡ ltb 0 (times a ps) → (eqb p.1 a || has (numbers_in ps) a) ≡ ltb 0 (times a (p ∷ ps))
    by_head true e less = ap (λ (b : Bool). b || has (numbers_in ps) a) e ∙ (let one : if_so (eqb p.1 a) ≡ 1 = ap if_so e in let sum = sum_by-cons (λ (p : ℕ × ℕ). cond (eqb p.1 a) 1 0) p ps in let g : true ≡ ltb 0 (times a (p ∷ ps)) = grind (arith, one, sum) in g)
    by_head false e less = ap (λ (b : Bool). b || has (numbers_in ps) a) e ∙ less ∙ ap (ltb 0) (let none : if_so (eqb p.1 a) ≡ zero = ap if_so e in let sum = sum_by-cons (λ (p : ℕ × ℕ). cond (eqb p.1 a) 1 0) p ps in let g : times a ps ≡ times a (p ∷ ps) = omega (arith, none, sum) in g)

once_times : (ps : List (ℕ × ℕ)) → ((a : ℕ) → times a ps ≤ 1) → HasNoRepeats (numbers_in ps)
once_times [] h = tt
once_times (p ∷ ps) h = (
  has_times ps p.1 ∙ (let one : if_so (eqb p.1 p.1) ≡ 1 = ap if_so (itself p.1) in let sum = sum_by-cons (λ (q : ℕ × ℕ). cond (eqb q.1 p.1) 1 0) p ps in let most = h p.1 in let g : ltb 0 (times p.1 ps) ≡ false = grind (arith, one, sum, most) in g),
  once_times ps (λ a. let sum = sum_by-cons (λ (q : ℕ × ℕ). cond (eqb q.1 a) 1 0) p ps in omega (arith, sum, h a)),
)

number_at : (ps : List (ℕ × ℕ)) (i : ℕ) → i < length ps → get_or (numbers_in ps) i 0 ≡ (get_or ps i (0, 0)).1
number_at [] i l = absurd (omega arith)
number_at (p ∷ ps) zero l = refl
number_at (p ∷ ps) (suc i) l = number_at ps i (omega arith)

long_numbers : (ps : List (ℕ × ℕ)) → length (numbers_in ps) ≡ length ps
long_numbers [] = refl
long_numbers (p ∷ ps) = let less = long_numbers ps in omega (arith, less)

level_at : (levels : List ℕ) (ps : List (ℕ × ℕ)) (i : ℕ) → wrong levels ps ≡ 0 → i < length ps → (get_or ps i (0, 0)).0 ≡ get_or levels (get_or ps i (0, 0)).1 0
level_at levels [] i h l = absurd (omega arith)
level_at levels (p ∷ ps) zero h l = by_bool (eqb p.0 (get_or levels p.1 0)) (λ e. eqb-true p.0 (get_or levels p.1 0) e)
    (λ e. absurd (let one : cond (eqb p.0 (get_or levels p.1 0)) zero 1 ≡ 1 = ap (λ (b : Bool). cond b zero 1) e in let sum = sum_by-cons (λ (q : ℕ × ℕ). cond (eqb q.0 (get_or levels q.1 0)) 0 1) p ps in omega (arith, one, sum, h)))
level_at levels (p ∷ ps) (suc i) h l = level_at levels ps i (let sum = sum_by-cons (λ (q : ℕ × ℕ). cond (eqb q.0 (get_or levels q.1 0)) 0 1) p ps in omega (arith, sum, h)) (omega arith)

-- of two neighbours in order, with other numbers_in, the first comes before
comes : (a b c d : ℕ) → is_lt (ordering_then (nat_cmp c a) (nat_cmp d b)) ≡ false → (b ≡ d → ⊥) → (ltb a c || (eqb a c && ltb b d)) ≡ true
comes a b c d h ne = by_first (ltb c a) refl (eqb c a) refl (ltb d b) refl (eqb d b) refl h
  where
    by_first : (x : Bool) → ltb c a ≡ x → (y : Bool) → eqb c a ≡ y → (z : Bool) → ltb d b ≡ z → (w : Bool) → eqb d b ≡ w → is_lt (ordering_then (cond x Less (cond y Equal Greater)) (cond z Less (cond w Equal Greater))) ≡ false → (ltb a c || (eqb a c && ltb b d)) ≡ true
    by_first true e y f z g w i h = absurd cc
    by_first false e true f true g w i h = absurd cc
    by_first false e true f false g true i h = absurd (ne (sym (eqb-true d b i)))
    by_first false e true f false g false i h = grind (arith, e, f, g, i)
    by_first false e false f z g w i h = grind (arith, e, f)

pub ranked_is : (kept : List Bool) (levels : List ℕ) (ps : List (ℕ × ℕ)) → IsPermutation (leveled kept levels (length kept)) ps → IsSorted (λ (x y : ℕ × ℕ). ordering_then (nat_cmp x.0 y.0) (nat_cmp x.1 y.1)) ps → IsRanked kept levels (numbers_in ps)
ranked_is kept levels ps perm up = record {
  once = once;
  kept_ones = has_kept;
  below = λ a h. flag_below kept a (sym (has_kept a) ∙ h);
  rising = λ i j l m.
      let n : j < length ps = omega (arith, m, long_numbers ps) in
      let k : i < length ps = omega (arith, l, n) in
      let far = sorted_far _ (ranks_by (then_total (on_total (λ (x : ℕ × ℕ). x.0) nat_cmp_total) (on_total (λ (x : ℕ × ℕ). x.1) nat_cmp_total)) (λ (x : ℕ × ℕ). x)) ps up i j (0, 0) (omega (arith, l)) n in
      let here = comes (get_or ps i (0, 0)).0 (get_or ps i (0, 0)).1 (get_or ps j (0, 0)).0 (get_or ps j (0, 0)).1 far (λ e. apart i j l m (number_at ps i k ∙ e ∙ sym (number_at ps j n))) in
      before i j k n here;
}
  where
    count : (a : ℕ) → times a ps ≡ if_so (is_kept kept a && ltb a (length kept))
    count a = sum_by-IsPermutation (λ (p : ℕ × ℕ). cond (eqb p.1 a) 1 0) (leveled kept levels (length kept)) ps perm ∙ times_leveled kept levels a (length kept)

    most_one : (b : Bool) → if_so b ≤ 1
    most_one true = omega arith
    most_one false = omega arith

    once : HasNoRepeats (numbers_in ps)
    once = once_times ps (λ a. let e = count a in let m = most_one (is_kept kept a && ltb a (length kept)) in omega (arith, e, m))

    flag_below : (xs : List Bool) (a : ℕ) → is_kept xs a ≡ true → a < length xs
    flag_below [] zero h = absurd cc
    flag_below [] (suc a) h = absurd cc
    flag_below (x ∷ xs) zero h = omega arith
    flag_below (x ∷ xs) (suc a) h = let less = flag_below xs a h in omega (arith, less)

    positive : (b : Bool) → ltb 0 (if_so b) ≡ b
    positive true = refl
    positive false = refl

    and_all : (x y : Bool) → (x ≡ true → y ≡ true) → (x && y) ≡ x
    and_all true y f = f refl
    and_all false y f = refl

    has_kept : (a : ℕ) → has (numbers_in ps) a ≡ is_kept kept a
    has_kept a = has_times ps a ∙ ap (ltb 0) (count a) ∙ positive (is_kept kept a && ltb a (length kept)) ∙ and_all (is_kept kept a) (ltb a (length kept)) (λ h. let below = flag_below kept a h in let g : ltb a (length kept) ≡ true = grind (arith, below) in g)

    apart : (i j : ℕ) → i < j → j < length (numbers_in ps) → get_or (numbers_in ps) i 0 ≡ get_or (numbers_in ps) j 0 → ⊥
    apart i j l m e = let fresh = fresh_at (numbers_in ps) j once m in let there : has (take j (numbers_in ps)) (get_or (numbers_in ps) j 0) ≡ true = ap (has (take j (numbers_in ps))) (sym e) ∙ earlier (numbers_in ps) i j l m in absurd (let k = sym there ∙ fresh in cc)
      where
        earlier : (xs : List ℕ) (i j : ℕ) → i < j → j < length xs → has (take j xs) (get_or xs i 0) ≡ true
        earlier [] i j l m = absurd (omega arith)
        earlier (x ∷ xs) i zero l m = absurd (omega arith)
        earlier (x ∷ xs) zero (suc j) l m = or_left (eqb x x) (has (take j xs) x) (itself x)
        earlier (x ∷ xs) (suc i) (suc j) l m = or_right (eqb x (get_or xs i 0)) (has (take j xs) (get_or xs i 0)) (earlier xs i j (omega arith) (omega arith))

    none_wrong : wrong levels ps ≡ 0
    none_wrong = sum_by-IsPermutation (λ (p : ℕ × ℕ). cond (eqb p.0 (get_or levels p.1 0)) 0 1) (leveled kept levels (length kept)) ps perm ∙ wrong_leveled kept levels (length kept)

    level_of : (i : ℕ) → i < length ps → (get_or ps i (0, 0)).0 ≡ get_or levels (get_or (numbers_in ps) i 0) 0
    level_of i l = level_at levels ps i none_wrong l ∙ ap (λ (n : ℕ). get_or levels n 0) (sym (number_at ps i l))

    before : (i j : ℕ) → i < length ps → j < length ps → (ltb (get_or ps i (0, 0)).0 (get_or ps j (0, 0)).0 || (eqb (get_or ps i (0, 0)).0 (get_or ps j (0, 0)).0 && ltb (get_or ps i (0, 0)).1 (get_or ps j (0, 0)).1)) ≡ true → comes_before levels (get_or (numbers_in ps) i 0) (get_or (numbers_in ps) j 0) ≡ true
    before i j l m h = same (level_of i l) (level_of j m) (sym (number_at ps i l)) (sym (number_at ps j m)) h
      where
        same : {a b c d e f g k : ℕ} → a ≡ e → b ≡ f → c ≡ g → d ≡ k → (ltb a b || (eqb a b && ltb c d)) ≡ true → (ltb e f || (eqb e f && ltb g k)) ≡ true
        same {a} {b} {c} {d} {e} {f} {g} {k} p q r s h = ap (λ (x : ℕ). ltb x f || (eqb x f && ltb g k)) (sym p) ∙ ap (λ (x : ℕ). ltb a x || (eqb a x && ltb g k)) (sym q) ∙ ap (λ (x : ℕ). ltb a b || (eqb a b && ltb x k)) (sym r) ∙ ap (λ (x : ℕ). ltb a b || (eqb a b && ltb c x)) (sym s) ∙ h
