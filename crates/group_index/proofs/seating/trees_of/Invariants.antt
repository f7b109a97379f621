use Rattle.std.proofs.Common.{◌≡◌, ◌<◌, ℕ, length, get_or}
use Rattle.group_index.specs.Index.{AreBare, AreTrees, width_at}
use Rattle.group_index.proofs.seating.trees_of.Given as goal

abbrev pub invariant-loop-k : goal.invariant-loop-k
invariant-loop-k l = record {
  long : length l.trees.items ≡ l.k;
  trees : AreTrees l.trees.items;
  wide : (g : ℕ) → g < l.k → width_at l.trees.items g ≡ get_or l.used g 0;
  bare : AreBare l.trees.items;
}
