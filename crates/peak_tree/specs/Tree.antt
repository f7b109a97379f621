-- A tree is a list.
use Rattle.std.specs.Prelude.{ℕ, ◌≤◌, ◌^◌, List, Option}
use Rattle.peak_tree.specs.Node.{width, depth, numbers, IsShaped, IsUnder}
use Rattle.peak_tree.specs.declared.tree.PeakTree.TheInside.{Inside}

abbrev pub list_of : Inside → List (Option ℕ)
list_of t = numbers t.greatest t.root

-- forks know their widths, the greatest number is the one it says, and the depth is that of a balanced tree
pub record IsTree (t : Inside) : Type 0 where
  pub shaped : IsShaped t.root
  pub under : IsUnder t.greatest t.root
  pub low : (d : ℕ) → width t.root ≤ 2 ^ d → depth t.root ≤ d
