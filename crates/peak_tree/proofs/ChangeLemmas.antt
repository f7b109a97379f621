-- What a change does to the whole of a part.
use Rattle.std.proofs.Common.{◌≡◌, ℕ, ℤ, zero, suc, pos, ◌+◌, ◌-◌, ◌≤◌, ◌<◌, ◌+ℤ◌, ◌≤ℤ◌, unsigned_abs, max, List, [], ◌∷◌, ◌++◌, map, length, take, Option, Some, None, refl, sym, ap, ap₂, subst, subst₂, ◌∙◌, arith}
use Rattle.std.proofs.lemmas.Int.{ints}
use Rattle.std.proofs.lemmas.List.{map-append}
use Rattle.std.specs.declared.alloc.Global.{Global}
use Rattle.std.specs.declared.boxed.Box.{Box}
use Rattle.std.specs.List.{AllByRecursion}
use Rattle.peak_tree.specs.Numbers.{greater, greatest, added}
use Rattle.peak_tree.specs.Node.{below, numbers, IsShaped, IsGap, IsUnder}
use Rattle.peak_tree.specs.Change.{before, CanTake, changed}
use Rattle.peak_tree.specs.declared.node.Node.{Node}
use Rattle.peak_tree.specs.declared.node.Parts.{Parts}
use Rattle.peak_tree.specs.declared.node.Node.TheVariants.{Empty, Position, Fork, Fork'}
use Rattle.peak_tree.specs.declared.change.Change.{Change}
use Rattle.peak_tree.specs.declared.change.Change.TheVariants.{Add, Remove}
use Rattle.peak_tree.proofs.NumbersLemmas.{take-append-gt}
use Rattle.peak_tree.proofs.NodeLemmas.{middle_is, greatest_under}

less_gap : (t g : ℕ) (d : ℤ) → g ≤ t → pos 0 ≤ℤ (pos (t - g) +ℤ d) → unsigned_abs (pos t +ℤ d) - g ≡ unsigned_abs (pos (t - g) +ℤ d)
less_gap t g d le in_range = omega (arith, ints, le, in_range)

gap_fits : (t g : ℕ) (d : ℤ) → g ≤ t → pos 0 ≤ℤ (pos (t - g) +ℤ d) → g ≤ unsigned_abs (pos t +ℤ d)
gap_fits t g d le in_range = omega (arith, ints, le, in_range)

max_added : (m n : ℕ) (d : ℤ) → pos 0 ≤ℤ (pos m +ℤ d) → pos 0 ≤ℤ (pos n +ℤ d) → max (unsigned_abs (pos m +ℤ d)) (unsigned_abs (pos n +ℤ d)) ≡ unsigned_abs (pos (max m n) +ℤ d)
max_added m n d first second = omega (arith, ints, first, second)

-- the number below the top is changed as the top is
before_below : (c : Change) (top g : Option ℕ) → IsGap top g → CanTake c (below top g) → below (before c top) g ≡ before c (below top g)
before_below (Add d) None g fits take = refl
before_below (Add d) (Some t) None fits take = refl
before_below (Add d) (Some t) (Some g) fits take = ap Some (less_gap t g d fits take.0)
before_below Remove top g fits take = refl

before_gap : (c : Change) (top g : Option ℕ) → IsGap top g → CanTake c (below top g) → IsGap (before c top) g
before_gap (Add d) None g fits take = tt
before_gap (Add d) (Some t) None fits take = tt
before_gap (Add d) (Some t) (Some g) fits take = gap_fits t g d fits take.0
before_gap Remove top g fits take = fits

before_greater : (c : Change) (x y : Option ℕ) → CanTake c x → CanTake c y → greater (before c x) (before c y) ≡ before c (greater x y)
before_greater (Add d) None y first second = refl
before_greater (Add d) (Some m) None first second = refl
before_greater (Add d) (Some m) (Some n) first second = ap Some (max_added m n d first.0 second.0)
before_greater Remove x y first second = refl

take_greater : (c : Change) (x y : Option ℕ) → CanTake c x → CanTake c y → CanTake c (greater x y)
take_greater (Add d) None y first second = second
take_greater (Add d) (Some m) None first second = first
take_greater (Add d) (Some m) (Some n) first second = (omega (arith, ints, first.0, second.0), omega (arith, ints, first.1, second.1))
take_greater Remove x y first second = tt

take_none : (c : Change) → CanTake c None
take_none (Add d) = tt
take_none Remove = tt

take_greatest : (c : Change) (xs : List (Option ℕ)) → AllByRecursion (CanTake c) xs → CanTake c (greatest xs)
take_greatest c [] all = take_none c
take_greatest c (x ∷ xs) all = take_greater c x (greatest xs) all.0 (take_greatest c xs all.1)

all_split : (P : Option ℕ → Type 0) (xs ys : List (Option ℕ)) → AllByRecursion P (xs ++ ys) → AllByRecursion P xs × AllByRecursion P ys
all_split P [] ys all = (tt, all)
all_split P (x ∷ xs) ys all = let rest = all_split P xs ys all.1 in ((all.0, rest.0), rest.1)

-- the greatest number of a part takes the change, where all its numbers do
pub take_top : (c : Change) (top : Option ℕ) (node : Node) → IsUnder top node → AllByRecursion (CanTake c) (numbers top node) → CanTake c top
take_top c top node under all = subst (CanTake c) (greatest_under top node under) (take_greatest c (numbers top node) all)

pub before_under : (c : Change) (top : Option ℕ) (node : Node) → IsUnder top node → AllByRecursion (CanTake c) (numbers top node) → IsUnder (before c top) node
before_under (Add d) top Empty under all = ap (added d) under
before_under Remove top Empty under all = under
before_under c top Position under all = tt
before_under c top (Fork' p m gaps l r) under all =
    let both = all_split (CanTake c) (numbers (below top gaps.left) l) (numbers (below top gaps.right) r) all in
    let first = take_top c (below top gaps.left) l under.3 both.0 in
    let second = take_top c (below top gaps.right) r under.4 both.1 in
    let left = before_below c top gaps.left under.0 first in
    let right = before_below c top gaps.right under.1 second in (
      before_gap c top gaps.left under.0 first,
      before_gap c top gaps.right under.1 second,
      ap₂ greater left right ∙ before_greater c (below top gaps.left) (below top gaps.right) first second ∙ ap (before c) under.2,
      subst (λ (x : Option ℕ). IsUnder x l) (sym left) (before_under c (below top gaps.left) l under.3 both.0),
      subst (λ (x : Option ℕ). IsUnder x r) (sym right) (before_under c (below top gaps.right) r under.4 both.1),
    )

pub before_numbers : (c : Change) (top : Option ℕ) (node : Node) → IsUnder top node → AllByRecursion (CanTake c) (numbers top node) → numbers (before c top) node ≡ map (before c) (numbers top node)
before_numbers c top Empty under all = refl
before_numbers c top Position under all = refl
before_numbers c top (Fork' p m gaps l r) under all =
    let both = all_split (CanTake c) (numbers (below top gaps.left) l) (numbers (below top gaps.right) r) all in
    let first = take_top c (below top gaps.left) l under.3 both.0 in
    let second = take_top c (below top gaps.right) r under.4 both.1 in
    let left = before_below c top gaps.left under.0 first in
    let right = before_below c top gaps.right under.1 second in
    ap₂ (λ (x y : Option ℕ). numbers x l ++ numbers y r) left right
    ∙ ap₂ (λ (xs ys : List (Option ℕ)). xs ++ ys) (before_numbers c (below top gaps.left) l under.3 both.0) (before_numbers c (below top gaps.right) r under.4 both.1)
    ∙ sym (map-append (before c) (numbers (below top gaps.left) l) (numbers (below top gaps.right) r))

-- a change in one part
changed_left : (c : Change) (i : ℕ) (xs ys : List (Option ℕ)) → i < length xs → changed c i (xs ++ ys) ≡ changed c i xs ++ ys
changed_left c i [] ys less = absurd (omega (arith, less))
changed_left c zero (x ∷ xs) ys less = refl
changed_left c (suc i) (x ∷ xs) ys less = ap (λ (zs : List (Option ℕ)). before c x ∷ zs) (changed_left c i xs ys (omega (arith, less)))

changed_right : (c : Change) (i : ℕ) (xs ys : List (Option ℕ)) → length xs ≤ i → changed c i (xs ++ ys) ≡ map (before c) xs ++ changed c (i - length xs) ys
changed_right c i [] ys le = ap (λ (k : ℕ). changed c k ys) (let e : i ≡ i - 0 = omega arith in e)
changed_right c zero (x ∷ xs) ys le = absurd (omega (arith, le))
changed_right c (suc i) (x ∷ xs) ys le = ap (λ (zs : List (Option ℕ)). before c x ∷ zs) (changed_right c i xs ys (omega (arith, le)) ∙ ap (λ (k : ℕ). map (before c) xs ++ changed c k ys) (let e : i - length xs ≡ suc i - suc (length xs) = omega arith in e))

-- the left part and a front of the right one take the change, where the front does
pub takes_right : (c : Change) (top : Option ℕ) (node : Node) (b : Box Parts Global) (i : ℕ) → node ≡ Fork b → IsShaped node → b.value.middle ≤ i → AllByRecursion (CanTake c) (take (i + 1) (numbers top node))
    → AllByRecursion (CanTake c) (numbers (below top b.value.gaps.left) b.value.left) × AllByRecursion (CanTake c) (take (i - b.value.middle + 1) (numbers (below top b.value.gaps.right) b.value.right))
takes_right c top node b i is shaped le all =
    all_split (CanTake c) (numbers (below top b.value.gaps.left) b.value.left) (take (i - b.value.middle + 1) (numbers (below top b.value.gaps.right) b.value.right))
    (subst (AllByRecursion (CanTake c)) (ap (λ (n : Node). take (i + 1) (numbers top n)) is ∙ take-append-gt (numbers (below top b.value.gaps.left) b.value.left) (numbers (below top b.value.gaps.right) b.value.right) b.value.middle i (middle_is top node b is shaped) le) all)

pub takes_second : (c : Change) (top : Option ℕ) (node : Node) (b : Box Parts Global) (i : ℕ) (second : Option ℕ) (right : Node) → node ≡ Fork b → IsShaped node → b.value.middle ≤ i → AllByRecursion (CanTake c) (take (i + 1) (numbers top node))
    → second ≡ below top b.value.gaps.right → right ≡ b.value.right → AllByRecursion (CanTake c) (take (i - b.value.middle + 1) (numbers second right))
takes_second c top node b i second right is shaped le all e f =
    subst₂ (λ (x : Option ℕ) (n : Node). AllByRecursion (CanTake c) (take (i - b.value.middle + 1) (numbers x n))) (sym e) (sym f) (takes_right c top node b i is shaped le all).1

pub left_under : (top : Option ℕ) (node : Node) (b : Box Parts Global) → node ≡ Fork b → IsUnder top node → IsUnder (below top b.value.gaps.left) b.value.left
left_under top node b is under = let fork : IsUnder top (Fork b) = subst (IsUnder top) is under in fork.3

pub made_left : (c : Change) (top : Option ℕ) (node : Node) (b : Box Parts Global) (i : ℕ) → node ≡ Fork b → IsShaped node → i < b.value.middle
    → changed c i (numbers (below top b.value.gaps.left) b.value.left) ++ numbers (below top b.value.gaps.right) b.value.right ≡ changed c i (numbers top node)
made_left c top node b i is shaped less =
    sym (ap (λ (n : Node). changed c i (numbers top n)) is ∙ changed_left c i (numbers (below top b.value.gaps.left) b.value.left) (numbers (below top b.value.gaps.right) b.value.right) (omega (arith, less, middle_is top node b is shaped)))

pub made_right : (c : Change) (top : Option ℕ) (node : Node) (b : Box Parts Global) (i : ℕ) → node ≡ Fork b → IsShaped node → IsUnder top node → b.value.middle ≤ i
    → AllByRecursion (CanTake c) (numbers (below top b.value.gaps.left) b.value.left)
    → numbers (before c (below top b.value.gaps.left)) b.value.left ++ changed c (i - b.value.middle) (numbers (below top b.value.gaps.right) b.value.right) ≡ changed c i (numbers top node)
made_right c top node b i is shaped under le all =
    let first = numbers (below top b.value.gaps.left) b.value.left in
    let second = numbers (below top b.value.gaps.right) b.value.right in
    ap (λ (xs : List (Option ℕ)). xs ++ changed c (i - b.value.middle) second) (before_numbers c (below top b.value.gaps.left) b.value.left (left_under top node b is under) all)
    ∙ ap (λ (k : ℕ). map (before c) first ++ changed c (i - k) second) (sym (middle_is top node b is shaped))
    ∙ sym (ap (λ (n : Node). changed c i (numbers top n)) is ∙ changed_right c i first second (omega (arith, le, middle_is top node b is shaped)))
