-- How a node stands for a list, under the greatest number of the list.
use Rattle.std.specs.Prelude.{◌≡◌, ℕ, ◌+◌, ◌-◌, ◌≤◌, ltb, cond, max, List, [], ◌∷◌, ◌++◌, Option, Some, None}
use Rattle.peak_tree.specs.Numbers.{greater}
use Rattle.peak_tree.specs.declared.node.Gaps.{Gaps}
use Rattle.peak_tree.specs.declared.node.Node.{Node}
use Rattle.peak_tree.specs.declared.node.Node.TheVariants.{Empty, Position, Fork'}

-- the number that stands so far below another
abbrev pub below : Option ℕ → Option ℕ → Option ℕ
below None gap = None
below (Some top) None = None
below (Some top) (Some gap) = Some (top - gap)

-- how far a number stands below another
abbrev pub gap : Option ℕ → Option ℕ → Option ℕ
gap None x = None
gap (Some top) None = None
gap (Some top) (Some n) = Some (top - n)

-- the gaps of two parts with these greatest numbers
abbrev pub gaps_of : Option ℕ → Option ℕ → Gaps
gaps_of left right = record { left = gap (greater left right) left; right = gap (greater left right) right }

-- how many positions there are (`Fork'` has a fork's parts, after their address)
abbrev pub width : Node → ℕ
width Empty = 0
width Position = 1
width (Fork' p middle gaps left right) = width left + width right

-- how many nodes stand over a position, at most
abbrev pub depth : Node → ℕ
depth Empty = 0
depth Position = 0
depth (Fork' p middle gaps left right) = max (depth left) (depth right) + 1

-- how many nodes there are
abbrev pub nodes : Node → ℕ
nodes Empty = 1
nodes Position = 1
nodes (Fork' p middle gaps left right) = nodes left + nodes right + 1

-- how many nodes there are on the way to a position, with the first and the last one
abbrev pub way : ℕ → Node → ℕ
way position Empty = 1
way position Position = 1
way position (Fork' p middle gaps left right) =
    cond (ltb position middle) (way position left) (way (position - middle) right) + 1

-- the numbers, where the greatest is this one
abbrev pub numbers : Option ℕ → Node → List (Option ℕ)
numbers top Empty = []
numbers top Position = top ∷ []
numbers top (Fork' p middle gaps left right) =
    numbers (below top gaps.left) left ++ numbers (below top gaps.right) right

-- each fork knows the width of its left part
abbrev pub IsShaped : Node → Type 0
IsShaped Empty = Unit
IsShaped Position = Unit
IsShaped (Fork' p middle gaps left right) = (middle ≡ width left) × IsShaped left × IsShaped right

-- a gap is no greater than the number from which it goes down
abbrev pub IsGap : Option ℕ → Option ℕ → Type 0
IsGap (Some top) (Some gap) = gap ≤ top
IsGap top gap = Unit

-- the greatest number is this one, and each fork has the gaps of its parts
abbrev pub IsUnder : Option ℕ → Node → Type 0
IsUnder top Empty = top ≡ None
IsUnder top Position = Unit
IsUnder top (Fork' p middle gaps left right) =
    IsGap top gaps.left × IsGap top gaps.right × (greater (below top gaps.left) (below top gaps.right) ≡ top)
    × IsUnder (below top gaps.left) left × IsUnder (below top gaps.right) right
