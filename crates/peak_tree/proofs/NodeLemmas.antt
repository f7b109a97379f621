-- What a fork says of its parts.
use Rattle.std.proofs.Common.{◌≡◌, ℕ, ◌+◌, ◌-◌, ◌≤◌, ◌<◌, ◌++◌, length, take, get_or, Option, Some, None, refl, sym, ap, ap₂, subst, subst₂, ◌∙◌, arith, length-append}
use Rattle.std.proofs.lemmas.List.{get_or_append_left, get_or-append_right, take-append-le}
use Rattle.std.specs.declared.alloc.Global.{Global}
use Rattle.std.specs.declared.boxed.Box.{Box}
use Rattle.peak_tree.specs.Numbers.{greater, greatest}
use Rattle.peak_tree.specs.Node.{below, gap, gaps_of, width, depth, numbers, IsShaped, IsGap, IsUnder}
use Rattle.peak_tree.specs.declared.node.Gaps.{Gaps}
use Rattle.peak_tree.specs.declared.node.Node.{Node}
use Rattle.peak_tree.specs.declared.node.Parts.{Parts}
use Rattle.peak_tree.specs.declared.node.Node.TheVariants.{Empty, Position, Fork, Fork'}
use Rattle.peak_tree.proofs.NumbersLemmas.{greatest-append, greater-none, take-append-gt}

pub length-numbers : (top : Option ℕ) (node : Node) → length (numbers top node) ≡ width node
length-numbers top Empty = refl
length-numbers top Position = refl
length-numbers top (Fork' p m gaps l r) = omega (arith, length-append (numbers (below top gaps.left) l) (numbers (below top gaps.right) r), length-numbers (below top gaps.left) l, length-numbers (below top gaps.right) r)

-- the greatest number is the one on top
pub greatest_under : (top : Option ℕ) (node : Node) → IsUnder top node → greatest (numbers top node) ≡ top
greatest_under top Empty under = sym under
greatest_under top Position under = greater-none top
greatest_under top (Fork' p m gaps l r) under =
    greatest-append (numbers (below top gaps.left) l) (numbers (below top gaps.right) r)
    ∙ ap (λ (x : Option ℕ). greater x (greatest (numbers (below top gaps.right) r))) (greatest_under (below top gaps.left) l under.3)
    ∙ ap (greater (below top gaps.left)) (greatest_under (below top gaps.right) r under.4) ∙ under.2

-- the box of a fork with these parts, which are those that it has
abbrev pub boxed : Box Parts Global → Parts → Box Parts Global
boxed b n = record b { value = n }

pub fork_of : (node : Node) (b : Box Parts Global) (n : Parts) → node ≡ Fork b → n ≡ b.value → node ≡ Fork (boxed b n)
fork_of node b n is e = is ∙ ap (λ (v : Parts). Fork (boxed b v)) (sym e)

pub middle_is : (top : Option ℕ) (node : Node) (b : Box Parts Global) → node ≡ Fork b → IsShaped node → length (numbers (below top b.value.gaps.left) b.value.left) ≡ b.value.middle
middle_is top node b is shaped = let fork : IsShaped (Fork b) = subst IsShaped is shaped in length-numbers (below top b.value.gaps.left) b.value.left ∙ sym fork.0

pub number_left : (top : Option ℕ) (node : Node) (b : Box Parts Global) (i : ℕ) → node ≡ Fork b → IsShaped node → i < b.value.middle
    → get_or (numbers (below top b.value.gaps.left) b.value.left) i None ≡ get_or (numbers top node) i None
number_left top node b i is shaped less =
    sym (ap (λ (n : Node). get_or (numbers top n) i None) is ∙ get_or_append_left (numbers (below top b.value.gaps.left) b.value.left) (numbers (below top b.value.gaps.right) b.value.right) None i (omega (arith, less, middle_is top node b is shaped)))

pub number_right : (top : Option ℕ) (node : Node) (b : Box Parts Global) (i : ℕ) → node ≡ Fork b → IsShaped node → b.value.middle ≤ i
    → get_or (numbers (below top b.value.gaps.right) b.value.right) (i - b.value.middle) None ≡ get_or (numbers top node) i None
number_right top node b i is shaped le =
    sym (ap (λ (n : Node). get_or (numbers top n) i None) is ∙ get_or-append_right (numbers (below top b.value.gaps.left) b.value.left) (numbers (below top b.value.gaps.right) b.value.right) b.value.middle i None (middle_is top node b is shaped) le)

pub greatest_left : (top : Option ℕ) (node : Node) (b : Box Parts Global) (i : ℕ) → node ≡ Fork b → IsShaped node → i < b.value.middle
    → greatest (take (i + 1) (numbers (below top b.value.gaps.left) b.value.left)) ≡ greatest (take (i + 1) (numbers top node))
greatest_left top node b i is shaped less =
    sym (ap (λ (n : Node). greatest (take (i + 1) (numbers top n))) is ∙ ap greatest (take-append-le (i + 1) (numbers (below top b.value.gaps.left) b.value.left) (numbers (below top b.value.gaps.right) b.value.right) (omega (arith, less, middle_is top node b is shaped))))

pub greatest_right : (top : Option ℕ) (node : Node) (b : Box Parts Global) (i : ℕ) → node ≡ Fork b → IsShaped node → IsUnder top node → b.value.middle ≤ i
    → greater (below top b.value.gaps.left) (greatest (take (i - b.value.middle + 1) (numbers (below top b.value.gaps.right) b.value.right))) ≡ greatest (take (i + 1) (numbers top node))
greatest_right top node b i is shaped under le =
    let fork : IsUnder top (Fork b) = subst (IsUnder top) is under in
    sym (ap (λ (n : Node). greatest (take (i + 1) (numbers top n))) is
    ∙ ap greatest (take-append-gt (numbers (below top b.value.gaps.left) b.value.left) (numbers (below top b.value.gaps.right) b.value.right) b.value.middle i (middle_is top node b is shaped) le)
    ∙ greatest-append (numbers (below top b.value.gaps.left) b.value.left) (take (i - b.value.middle + 1) (numbers (below top b.value.gaps.right) b.value.right))
    ∙ ap (λ (x : Option ℕ). greater x (greatest (take (i - b.value.middle + 1) (numbers (below top b.value.gaps.right) b.value.right)))) (greatest_under (below top b.value.gaps.left) b.value.left fork.3))

-- a fork made of two parts
below_left : (x y : Option ℕ) → below (greater x y) (gap (greater x y) x) ≡ x
below_left None None = refl
below_left None (Some n) = refl
below_left (Some m) None = ap Some (omega arith)
below_left (Some m) (Some n) = ap Some (omega arith)

below_right : (x y : Option ℕ) → below (greater x y) (gap (greater x y) y) ≡ y
below_right None None = refl
below_right None (Some n) = ap Some (omega arith)
below_right (Some m) None = refl
below_right (Some m) (Some n) = ap Some (omega arith)

is_gap_left : (x y : Option ℕ) → IsGap (greater x y) (gap (greater x y) x)
is_gap_left None None = tt
is_gap_left None (Some n) = tt
is_gap_left (Some m) None = omega arith
is_gap_left (Some m) (Some n) = omega arith

is_gap_right : (x y : Option ℕ) → IsGap (greater x y) (gap (greater x y) y)
is_gap_right None None = tt
is_gap_right None (Some n) = omega arith
is_gap_right (Some m) None = tt
is_gap_right (Some m) (Some n) = omega arith

-- the parts of a fork with these gaps stand under this number
abbrev pub AreUnder : Option ℕ → Gaps → Node → Node → Type 0
AreUnder top gaps l r = IsGap top gaps.left × IsGap top gaps.right × (greater (below top gaps.left) (below top gaps.right) ≡ top) × IsUnder (below top gaps.left) l × IsUnder (below top gaps.right) r

pub joined_under : (x y top : Option ℕ) (gaps : Gaps) (l r : Node) → top ≡ greater x y → gaps ≡ gaps_of x y → IsUnder x l → IsUnder y r → AreUnder top gaps l r
joined_under x y top gaps l r e f first second =
    subst₂ (λ (t : Option ℕ) (g : Gaps). AreUnder t g l r) (sym e) (sym f) (
      is_gap_left x y,
      is_gap_right x y,
      ap₂ greater (below_left x y) (below_right x y),
      subst (λ (z : Option ℕ). IsUnder z l) (sym (below_left x y)) first,
      subst (λ (z : Option ℕ). IsUnder z r) (sym (below_right x y)) second,
    )

pub joined_numbers : (x y top : Option ℕ) (gaps : Gaps) (l r : Node) → top ≡ greater x y → gaps ≡ gaps_of x y → numbers (below top gaps.left) l ++ numbers (below top gaps.right) r ≡ numbers x l ++ numbers y r
joined_numbers x y top gaps l r e f =
    ap₂ (λ (t : Option ℕ) (g : Gaps). numbers (below t g.left) l ++ numbers (below t g.right) r) e f
    ∙ ap₂ (λ (s t : Option ℕ). numbers s l ++ numbers t r) (below_left x y) (below_right x y)

pub deeper_right : (node : Node) (b : Box Parts Global) (right : Node) (d : ℕ) → node ≡ Fork b → right ≡ b.value.right → depth node ≡ d → depth right < d
deeper_right node b right d is e f = let fork = ap depth is in let part = ap depth e in omega (arith, fork, part, f)
