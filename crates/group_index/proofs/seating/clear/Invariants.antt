use Rattle.std.proofs.Common.{◌≡◌, ◌<◌, ℕ, length}
use Rattle.std.specs.Prelude.{None}
use Rattle.group_index.specs.Index.{AreTrees, key_at, width_at}
use Rattle.group_index.proofs.seating.clear.Given as goal

abbrev pub invariant-loop-group : goal.invariant-loop-group
invariant-loop-group l = record {
  long : length l.trees.items ≡ length l.initial.trees.items;
  trees : AreTrees l.trees.items;
  wide : (g : ℕ) → width_at l.trees.items g ≡ width_at l.initial.trees.items g;
  bare : (g i : ℕ) → g < l.group → key_at l.trees.items g i ≡ None;
}
