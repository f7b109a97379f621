use Rattle.std.proofs.Common.{◌∙◌, ◌||◌, ℕ}
use Rattle.std.specs.List.{list_any}
use Rattle.digraph.specs.code.Digraph.{edge}
use Rattle.plan_core.specs.Words.{pair_numbers}
use Rattle.transfer_refiner.proofs.ParentsLemmas.{numbers_are}
use Rattle.transfer_refiner.proofs.waiting.parents_of.Goals as goal

pub returns : goal.returns
returns c = λ n low. c.in_ok-ids.ensures ∙ c.deref.ensures.value ∙ numbers_are c.in_ok-awaited.field-0.items c.sorted-numbers.result.items (λ (u : ℕ). list_any (λ (q : ℕ). edge c.args.writers.now u q) (pair_numbers c.args.reads.now) || edge c.args.stated.now u c.args.task) c.in_ok-awaited.ensures c.sorted-numbers.ensures.rises c.sorted-numbers.ensures.same n low
