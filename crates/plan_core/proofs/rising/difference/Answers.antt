use Rattle.std.proofs.Common.{ℕ, List, ap, ◌∙◌, sym, subst}
use Rattle.plan_core.specs.Numbers.{has}
use Rattle.plan_core.specs.code.Numbers.{RisesFrom}
use Rattle.plan_core.proofs.SortingLemmas.{without_rises, without_same}
use Rattle.plan_core.proofs.rising.difference.Goals as goal

pub returns-clause-rises : goal.returns-clause-rises
returns-clause-rises c = subst (RisesFrom 0) (sym c.in_ok-left.ensures) (without_rises c.args.numbers.now c.args.others.now c.requires.rises)

pub returns-clause-same : goal.returns-clause-same
returns-clause-same c = λ x. ap (λ (v : List ℕ). has v x) c.in_ok-left.ensures ∙ without_same c.args.numbers.now c.args.others.now x
