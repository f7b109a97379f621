use Rattle.std.proofs.Common.{◌∙◌, ◌||◌, ap, ℕ, List, Bool}
use Rattle.std.specs.List.{list_any}
use Rattle.digraph.specs.code.Digraph.{edge}
use Rattle.plan_core.specs.Numbers.{has}
use Rattle.plan_core.specs.Words.{pair_numbers}
use Rattle.transfer_refiner.proofs.waiting.awaited.Goals as goal

pub returns : goal.returns
returns c = λ u. c.in_ok-push_stated.ensures u ∙ ap (λ (b : Bool). b || edge c.args.stated.now u c.args.task) (c.in_ok-push_writers.ensures u ∙ ap (λ (xs : List ℕ). has xs u || list_any (λ (q : ℕ). edge c.args.writers.now u q) (pair_numbers c.args.reads.now)) c.new-list.ensures.items)
