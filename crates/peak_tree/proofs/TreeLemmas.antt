-- From a tree to the list that it is.
use Rattle.std.proofs.Common.{◌≡◌, ℕ, ℤ, zero, suc, ◌+◌, ◌-◌, ◌*◌, ◌/◌, ◌≤◌, ◌<◌, ◌^◌, Bool, true, false, cond, ltb, max, min, List, [], ◌∷◌, ◌++◌, map, length, take, drop, set, replicate, All, Option, Some, None, refl, sym, ap, ap₂, subst, ◌∙◌, arith, pow_mono, pow-suc, add-one, append-nil}
use Rattle.std.specs.declared.alloc.Global.{Global}
use Rattle.std.specs.declared.boxed.Box.{Box}
use Rattle.std.specs.List.{AllByRecursion}
use Rattle.std.proofs.lemmas.List.{replicate-append-replicate}
use Rattle.std.proofs.lemmas.List.Elements.{recursion_from_All}
use Rattle.peak_tree.specs.Numbers.{added, add_front, filled, StaysInRange}
use Rattle.peak_tree.specs.Node.{width, depth, nodes, way, IsShaped}
use Rattle.peak_tree.specs.Change.{CanTake, changed}
use Rattle.peak_tree.specs.Tree.{list_of, IsTree}
use Rattle.peak_tree.specs.declared.node.Node.{Node}
use Rattle.peak_tree.specs.declared.node.Parts.{Parts}
use Rattle.peak_tree.specs.declared.node.Node.TheVariants.{Empty, Position, Fork, Fork'}
use Rattle.peak_tree.specs.declared.change.Change.TheVariants.{Add, Remove}
use Rattle.peak_tree.specs.declared.tree.PeakTree.TheInside.{Inside}
use Rattle.peak_tree.proofs.NodeLemmas.{length-numbers}

-- a front is changed as by a change up to its last position
pub add_is : (count : ℕ) (delta : ℤ) (xs : List (Option ℕ)) → 0 < count → changed (Add delta) (count - 1) xs ≡ add_front count delta xs
add_is zero delta xs some = absurd (omega (arith, some))
add_is (suc zero) delta [] some = refl
add_is (suc zero) delta (x ∷ xs) some = refl
add_is (suc (suc count)) delta [] some = refl
add_is (suc (suc count)) delta (x ∷ xs) some =
    ap (λ (i : ℕ). changed (Add delta) i (x ∷ xs)) (let e : suc (suc count) - 1 ≡ suc (suc count - 1) = omega arith in e)
    ∙ ap (λ (ys : List (Option ℕ)). added delta x ∷ ys) (add_is (suc count) delta xs (omega arith))

pub remove_is : (i : ℕ) (xs : List (Option ℕ)) → changed Remove i xs ≡ set xs i None
remove_is zero [] = refl
remove_is (suc i) [] = refl
remove_is zero (x ∷ xs) = refl
remove_is (suc i) (x ∷ xs) = ap (λ (ys : List (Option ℕ)). x ∷ ys) (remove_is i xs)

all_add : (delta : ℤ) (xs : List (Option ℕ)) → AllByRecursion (StaysInRange delta) xs → AllByRecursion (CanTake (Add delta)) xs
all_add delta [] all = tt
all_add delta (x ∷ xs) all = (all.0, all_add delta xs all.1)

pub takes_add : (count : ℕ) (delta : ℤ) (xs : List (Option ℕ)) → 0 < count → All (StaysInRange delta) (take count xs) → AllByRecursion (CanTake (Add delta)) (take (count - 1 + 1) xs)
takes_add count delta xs some all =
    all_add delta (take (count - 1 + 1) xs) (subst (λ (n : ℕ). AllByRecursion (StaysInRange delta) (take n xs)) (let e : count ≡ count - 1 + 1 = omega (arith, some) in e) (recursion_from_All (StaysInRange delta) (take count xs) all))

pub takes_remove : (xs : List (Option ℕ)) → AllByRecursion (CanTake Remove) xs
takes_remove [] = tt
takes_remove (x ∷ xs) = (tt, takes_remove xs)

-- how many nodes are visited
way_low : (i : ℕ) (node : Node) → way i node ≤ depth node + 1
way_low i Empty = omega arith
way_low i Position = omega arith
way_low i (Fork' p m gaps l r) = by (ltb i m) (way i l) (way (i - m) r) (depth l) (depth r) (way_low i l) (way_low (i - m) r)
  where
    by : (b : Bool) (x y u v : ℕ) → x ≤ u + 1 → y ≤ v + 1 → cond b x y + 1 ≤ max u v + 1 + 1
    by true x y u v first second = omega (arith, first)
    by false x y u v first second = omega (arith, second)

nodes_low : (node : Node) → nodes node + 1 ≤ 2 * 2 ^ depth node
nodes_low Empty = omega arith
nodes_low Position = omega arith
nodes_low (Fork' p m gaps l r) =
    let top = max (depth l) (depth r) in
    let one = pow_mono {i = depth l} {j = max (depth l) (depth r)} (omega arith) in
    let two = pow_mono {i = depth r} {j = max (depth l) (depth r)} (omega arith) in
    let twice = ap (λ (k : ℕ). 2 ^ k) (add-one (max (depth l) (depth r))) ∙ pow-suc 2 (max (depth l) (depth r)) in
    omega (arith, nodes_low l, nodes_low r, one, two, twice)

pub few_on_the_way : (t : Inside) (i d old new : ℕ) → IsTree t → length (list_of t) ≤ 2 ^ d → new ≡ old + way i t.root → new ≤ old + (4 * d + 4)
few_on_the_way t i d old new tree long is =
    let low = tree.low d (omega (arith, long, length-numbers t.greatest t.root)) in omega (arith, low, is, way_low i t.root)

pub few_in_all : (t : Inside) (d old new : ℕ) → IsTree t → length (list_of t) ≤ 2 ^ d → new ≡ old + nodes t.root → new ≤ old + 4 * 2 ^ d
few_in_all t d old new tree long is =
    let low = tree.low d (omega (arith, long, length-numbers t.greatest t.root)) in
    let more = pow_mono {i = depth t.root} {j = d} low in
    omega (arith, more, is, nodes_low t.root)

-- numbers that are put into two parts
filled_more : (n : ℕ) (ns : List ℕ) (m : ℕ) → filled (n ∷ ns) (suc m) ≡ Some n ∷ filled ns m
filled_more n ns m = ap (λ (k : ℕ). Some n ∷ (map Some ns ++ replicate k None)) (let e : suc m - suc (length ns) ≡ m - length ns = omega arith in e)

pub filled_split : (ns : List ℕ) (m n k : ℕ) → k ≡ min (length ns) m → filled (take k ns) m ++ filled (drop k ns) n ≡ filled ns (m + n)
filled_split [] m n zero e =
    ap₂ (λ (a b : ℕ). replicate a None ++ replicate b None) (let f : m - 0 ≡ m = omega arith in f) (let f : n - 0 ≡ n = omega arith in f)
    ∙ replicate-append-replicate m n None ∙ ap (λ (a : ℕ). replicate a None) (let f : m + n ≡ m + n - 0 = omega arith in f)
filled_split [] m n (suc k) e = absurd (omega (arith, e))
filled_split (x ∷ ns) zero n zero e = ap (filled (x ∷ ns)) (let f : n ≡ 0 + n = omega arith in f)
filled_split (x ∷ ns) zero n (suc k) e = absurd (omega (arith, e))
filled_split (x ∷ ns) (suc m) n zero e = absurd (omega (arith, e))
filled_split (x ∷ ns) (suc m) n (suc k) e =
    ap (λ (zs : List (Option ℕ)). zs ++ filled (drop k ns) n) (filled_more x (take k ns) m)
    ∙ ap (λ (zs : List (Option ℕ)). Some x ∷ zs) (filled_split ns m n k (omega (arith, e)))
    ∙ sym (filled_more x ns (m + n)) ∙ ap (filled (x ∷ ns)) (let f : suc (m + n) ≡ suc m + n = omega arith in f)

pub filled_fork : (ns : List ℕ) (node : Node) (b : Box Parts Global) (k : ℕ) (front back : List ℕ) (left right : Node) → node ≡ Fork b → IsShaped node → k ≡ min (length ns) b.value.middle
    → front ≡ take k ns → back ≡ drop k ns → left ≡ b.value.left → right ≡ b.value.right → filled front (width left) ++ filled back (width right) ≡ filled ns (width node)
filled_fork ns node b k front back left right is shaped few one two first second =
    let fork : IsShaped (Fork b) = subst IsShaped is shaped in
    ap₂ (λ (xs ys : List (Option ℕ)). xs ++ ys) (ap₂ filled one (ap width first)) (ap₂ filled two (ap width second))
    ∙ filled_split ns (width b.value.left) (width b.value.right) k (few ∙ ap (min (length ns)) fork.0) ∙ ap (filled ns) (sym (ap width is))

pub filled_whole : (ns : List ℕ) (count : ℕ) → count ≡ length ns → filled ns count ≡ map Some ns
filled_whole ns count e = ap (λ (k : ℕ). map Some ns ++ replicate k None) (let f : count - length ns ≡ 0 = omega (arith, e) in f) ∙ append-nil (map Some ns)

-- the depth of two halves
pub deep_halves : (count first second d : ℕ) → 2 ≤ count → ((e : ℕ) → count / 2 ≤ 2 ^ e → first ≤ e) → ((e : ℕ) → count - count / 2 ≤ 2 ^ e → second ≤ e) → count ≤ 2 ^ d → max first second + 1 ≤ d
deep_halves count first second zero some left right few = absurd (omega (arith, some, few))
deep_halves count first second (suc d) some left right few =
    let one = left d (omega (arith, few, pow-suc 2 d)) in
    let two = right d (omega (arith, few, pow-suc 2 d)) in
    omega (arith, one, two)
