-- Lines in order: a list that rises is decided by how often each line occurs.
use Rattle.std.proofs.Common.{◌≡◌, ℕ, ◌+◌, ◌<◌, Bool, true, false, cond, List, [], ◌∷◌, get_or, bytes_eq, refl, sym, ap, ◌∙◌, Ordering, subst, arith, suc}
use Rattle.std.specs.declared.cmp.Ordering.TheVariants.{Less, Equal, Greater}
use Rattle.std.specs.Ordering.{nat_cmp, is_gt, is_lt, is_eq, ordering_reverse}
use Rattle.std.specs.Cmp.Lexicographic.{slice_cmp, nat_list_cmp_total, nat_list_eq_equiv, same_text, texts_ties}
use Rattle.std.specs.List.{sum_by}
use Rattle.std.specs.List.Sorted.{IsPermutation, IsSorted}
use Rattle.std.proofs.lemmas.Cmp.{upto, tied_itself}
use Rattle.std.proofs.lemmas.List.Sorted.{IsPermutation-map, sum_by-IsPermutation}
use Rattle.std.proofs.lemmas.List.Sums.{sum_by-cons}
use Rattle.toolbox.specs.Lines.{bytes_of}
use Rattle.toolbox.proofs.LinesLemmas.{Line, line_cmp}
use Rattle.toolbox.specs.Transformation.Sorted.{is_after, put, in_order, RisesFrom, Rises, times}

-- ---- the order of lines

turned : (o p : Ordering) → o ≡ ordering_reverse p → is_gt o ≡ true → is_gt p ≡ false
turned o Less e after = refl
turned o Equal e after = refl
turned o Greater e after = absurd cc

back : (a b : List ℕ) → is_after a b ≡ true → is_after b a ≡ false
back a b after = turned (slice_cmp nat_cmp a b) (slice_cmp nat_cmp b a) (nat_list_cmp_total.antisymm a b) after

itself : (a : List ℕ) → is_after a a ≡ false
itself a = ap is_gt (tied_itself nat_list_cmp_total a)

alike_by : (o p : Ordering) (a b : List ℕ) → slice_cmp nat_cmp a b ≡ o → p ≡ ordering_reverse o → is_gt o ≡ false → is_gt p ≡ false → a ≡ b
alike_by Less p a b is e up down = absurd cc
alike_by Equal p a b is e up down = same_text a b (sym (texts_ties a b ∙ ap is_eq is))
alike_by Greater p a b is e up down = absurd cc

alike : (a b : List ℕ) → is_after a b ≡ false → is_after b a ≡ false → a ≡ b
alike a b up down = alike_by (slice_cmp nat_cmp a b) (slice_cmp nat_cmp b a) a b refl (nat_list_cmp_total.antisymm b a) up down

-- ---- a line put in

rises_put_from : (line first : List ℕ) (rest : List (List ℕ)) → is_after first line ≡ false → RisesFrom first rest → RisesFrom first (put line rest)
rises_put_from line first [] below up = (below, tt)
rises_put_from line first (next ∷ rest) below up = by (is_after line next) refl (λ h. rises_put_from line next rest h up.1)
  where
    by : (b : Bool) → is_after line next ≡ b → (is_after next line ≡ false → RisesFrom next (put line rest)) → RisesFrom first (cond b (next ∷ put line rest) (line ∷ next ∷ rest))
    by true after more = (up.0, more (back line next after))
    by false after more = (below, (after, up.1))

rises_put : (line : List ℕ) (lines : List (List ℕ)) → Rises lines → Rises (put line lines)
rises_put line [] up = tt
rises_put line (first ∷ rest) up = by (is_after line first) refl
  where
    by : (b : Bool) → is_after line first ≡ b → Rises (cond b (first ∷ put line rest) (line ∷ first ∷ rest))
    by true after = rises_put_from line first rest (back line first after) up
    by false after = (after, up)

pub rises_in_order : (lines : List (List ℕ)) → Rises (in_order lines)
rises_in_order [] = tt
rises_in_order (line ∷ rest) = rises_put line (in_order rest) (rises_in_order rest)

times_put : (a line : List ℕ) (lines : List (List ℕ)) → times a (put line lines) ≡ times a (line ∷ lines)
times_put a line [] = refl
times_put a line (first ∷ rest) = by (is_after line first) (times_put a line rest)
  where
    by : (b : Bool) → times a (put line rest) ≡ times a (line ∷ rest) → times a (cond b (first ∷ put line rest) (line ∷ first ∷ rest)) ≡ times a (line ∷ first ∷ rest)
    by true e = omega arith
    by false e = refl

pub times_in_order : (a : List ℕ) (lines : List (List ℕ)) → times a (in_order lines) ≡ times a lines
times_in_order a [] = refl
times_in_order a (line ∷ rest) =
    let put_in = times_put a line (in_order rest) in
    let later = times_in_order a rest in
    omega arith

-- ---- the same lines in order are the same list

first_below : (a first : List ℕ) (rest : List (List ℕ)) → RisesFrom first rest → 0 < times a (first ∷ rest) → is_after first a ≡ false
first_below a first [] up some = by (bytes_eq a first) refl some
  where
    by : (b : Bool) → bytes_eq a first ≡ b → 0 < cond {A = ℕ} b 1 0 + 0 → is_after first a ≡ false
    by true e s = rw (same_text a first (sym e)) (itself first)
    by false e s = absurd (omega arith)
first_below a first (next ∷ rest) up some = by (bytes_eq a first) refl some (λ more. first_below a next rest up.1 more)
  where
    by : (b : Bool) → bytes_eq a first ≡ b → 0 < cond {A = ℕ} b 1 0 + times a (next ∷ rest) → (0 < times a (next ∷ rest) → is_after next a ≡ false) → is_after first a ≡ false
    by true e s more = rw (same_text a first (sym e)) (itself first)
    by false e s more = upto nat_list_cmp_total first next a up.0 (more (omega arith))

occurs : (a : List ℕ) (rest : List (List ℕ)) → 0 < times a (a ∷ rest)
occurs a rest =
    let once : cond {A = ℕ} (bytes_eq a a) 1 0 ≡ 1 = ap (λ (b : Bool). cond {A = ℕ} b 1 0) (nat_list_eq_equiv.refl a) in
    omega arith

rest_rises : (line : List ℕ) (rest : List (List ℕ)) → RisesFrom line rest → Rises rest
rest_rises line [] up = tt
rest_rises line (next ∷ rest) up = up.1

rest_times : (a x y : List ℕ) (xs ys : List (List ℕ)) → x ≡ y → times a (x ∷ xs) ≡ times a (y ∷ ys) → times a xs ≡ times a ys
rest_times a x y xs ys e same =
    let first : cond {A = ℕ} (bytes_eq a x) 1 0 ≡ cond {A = ℕ} (bytes_eq a y) 1 0 = ap (λ (l : List ℕ). cond {A = ℕ} (bytes_eq a l) 1 0) e in
    omega arith

same_lines : (xs ys : List (List ℕ)) → Rises xs → Rises ys → ((a : List ℕ) → times a xs ≡ times a ys) → xs ≡ ys
same_lines [] [] xs_rise ys_rise same = refl
same_lines [] (y ∷ ys) xs_rise ys_rise same =
    let some = occurs y ys in
    let none = same y in
    absurd (omega arith)
same_lines (x ∷ xs) [] xs_rise ys_rise same =
    let some = occurs x xs in
    let none = same x in
    absurd (omega arith)
same_lines (x ∷ xs) (y ∷ ys) xs_rise ys_rise same =
    let x_in : 0 < times x (y ∷ ys) = omega (arith, occurs x xs, same x) in
    let y_in : 0 < times y (x ∷ xs) = omega (arith, occurs y ys, same y) in
    let first : x ≡ y = alike x y (first_below y x xs xs_rise y_in) (first_below x y ys ys_rise x_in) in
    let rest : xs ≡ ys = same_lines xs ys (rest_rises x xs xs_rise) (rest_rises y ys ys_rise) (λ a. rest_times a x y xs ys first (same a)) in
    cc

-- ---- what a sort leaves

not_above : (o p : Ordering) → o ≡ ordering_reverse p → is_lt o ≡ false → is_gt p ≡ false
not_above o Less e below = refl
not_above o Equal e below = refl
not_above o Greater e below = absurd cc

rises_from : (first : Line) (rest : List Line) → IsSorted line_cmp (first ∷ rest) → RisesFrom first.now (bytes_of rest)
rises_from first [] up = tt
rises_from first (next ∷ rest) up = (
  not_above (line_cmp next first) (line_cmp first next) (nat_list_cmp_total.antisymm next.now first.now) (up 0 first (omega arith) (omega arith)),
  rises_from next rest (λ k d low high.
      let above : suc k + 1 ≡ suc (k + 1) = omega arith in
      subst (λ (n : ℕ). is_lt (line_cmp (get_or (first ∷ next ∷ rest) n d) (get_or (next ∷ rest) k d)) ≡ false) above (up (suc k) d (omega arith) (omega arith))),
)

rises : (lines : List Line) → IsSorted line_cmp lines → Rises (bytes_of lines)
rises [] up = tt
rises (first ∷ rest) up = rises_from first rest up

times_is : (a : List ℕ) (lines : List (List ℕ)) → times a lines ≡ sum_by (λ (l : List ℕ). cond {A = ℕ} (bytes_eq a l) 1 0) lines
times_is a [] = refl
times_is a (line ∷ rest) =
    let later = times_is a rest in
    let whole = sum_by-cons (λ (l : List ℕ). cond {A = ℕ} (bytes_eq a l) 1 0) line rest in
    omega arith

times_moved : (a : List ℕ) (xs ys : List Line) → IsPermutation xs ys → times a (bytes_of ys) ≡ times a (bytes_of xs)
times_moved a xs ys moved =
    let test = λ (l : List ℕ). cond (bytes_eq a l) 1 0 in
    times_is a (bytes_of ys) ∙ sum_by-IsPermutation test (bytes_of xs) (bytes_of ys) (IsPermutation-map (λ (l : Line). l.now) xs ys moved) ∙ sym (times_is a (bytes_of xs))

pub sorted_is : (xs ys : List Line) (lines : List (List ℕ)) → bytes_of xs ≡ lines → IsPermutation xs ys → IsSorted line_cmp ys → bytes_of ys ≡ in_order lines
sorted_is xs ys lines are moved up =
    rw (← are) (same_lines (bytes_of ys) (in_order (bytes_of xs)) (rises ys up) (rises_in_order (bytes_of xs)) (λ a. times_moved a xs ys moved ∙ sym (times_in_order a (bytes_of xs))))
