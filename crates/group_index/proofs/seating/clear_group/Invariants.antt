use Rattle.std.proofs.Common.{◌≡◌, ◌&&◌, ℕ, cond, nat_eq, nat_lt, length}
use Rattle.std.specs.Prelude.{None}
use Rattle.group_index.specs.Index.{AreTrees, key_at, width_at}
use Rattle.group_index.proofs.seating.clear_group.Given as goal

abbrev pub invariant-loop-at : goal.invariant-loop-at
invariant-loop-at l = record {
  long : length l.trees.items ≡ length l.initial.trees.items;
  trees : AreTrees l.trees.items;
  wide : (g : ℕ) → width_at l.trees.items g ≡ width_at l.initial.trees.items g;
  each : (g i : ℕ) → key_at l.trees.items g i ≡ cond (nat_eq g l.group && nat_lt i l.at) None (key_at l.initial.trees.items g i);
}
