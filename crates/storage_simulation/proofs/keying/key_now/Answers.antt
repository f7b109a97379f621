use Rattle.std.proofs.Common.{ℕ, List, get_or, ap, ◌∙◌, arith}
use Rattle.storage_simulation.specs.code.Ordering.{progress}
use Rattle.storage_simulation.proofs.ScoringLemmas.{comes_few}
use Rattle.storage_simulation.proofs.keying.key_now.Goals as goal

pub overflow_add-result : goal.overflow_add-result
overflow_add-result c =
    let is = c.number_at-comes.ensures ∙ ap (λ (xs : List ℕ). get_or xs c.args.task 0) c.deref.ensures.value ∙ c.requires.laid.comes_are c.args.task c.requires.in_range in
    let few = comes_few c.args.plan.now (progress c.args.standing.now) c.args.task c.requires.set.orderable c.requires.set.limits in
    omega (arith, is, few)
