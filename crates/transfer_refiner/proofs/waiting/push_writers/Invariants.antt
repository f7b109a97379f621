use Rattle.std.proofs.Common.{◌≡◌, ℕ, ◌||◌, drop}
use Rattle.std.specs.List.{list_any}
use Rattle.digraph.specs.code.Digraph.{edge}
use Rattle.plan_core.specs.Numbers.{has}
use Rattle.plan_core.specs.Words.{pair_numbers}
use Rattle.transfer_refiner.proofs.waiting.push_writers.Given as goal

abbrev pub invariant-loop-pair : goal.invariant-loop-pair
invariant-loop-pair l = (u : ℕ) → (has l.list.items u || list_any (λ (q : ℕ). edge l.writers u q) (pair_numbers (drop l.pair-index l.pairs))) ≡ (has l.fn.list.items u || list_any (λ (q : ℕ). edge l.writers u q) (pair_numbers l.pairs))
