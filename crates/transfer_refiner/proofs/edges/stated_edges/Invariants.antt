use Rattle.std.proofs.Common.{◌≡◌, ℕ, ◌||◌, ◌&&◌, not, drop, nat_eq}
use Rattle.std.specs.List.{list_any}
use Rattle.values.specs.declared.numbers.JobId.{JobId}
use Rattle.workflow_core.specs.WellFormed.{parent_of, child_of}
use Rattle.plan_core.specs.Numbers.{has}
use Rattle.transfer_refiner.specs.Tasks.{part_of, comes_after}
use Rattle.transfer_refiner.specs.code.View.{draft_of}
use Rattle.transfer_refiner.proofs.edges.stated_edges.Given as goal

abbrev pub invariant-loop-pair : goal.invariant-loop-pair
invariant-loop-pair l = (u t : ℕ) → (list_any (λ (p : ℕ × ℕ). nat_eq p.0 u && nat_eq p.1 t) l.edges.items || (not (nat_eq t u) && list_any (λ (pair : JobId × JobId). has (part_of (draft_of l.view) u) (parent_of pair) && has (part_of (draft_of l.view) t) (child_of pair)) (drop l.pair-index l.pair-items))) ≡ comes_after (draft_of l.view) t u
