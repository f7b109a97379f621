use Rattle.std.proofs.Common.{ℕ, List, ap, sym, subst, ◌∙◌}
use Rattle.digraph.specs.code.Adjacency.{lists_of}
use Rattle.digraph.specs.Adjacency.{neighbours}
use Rattle.digraph.specs.code.Digraph.{count}
use Rattle.plan_core.specs.code.Numbers.{RisesFrom}
use Rattle.plan_core.specs.Numbers.{has}
use Rattle.storage_simulation.proofs.GraphLemmas.{low_has, rises_all}
use Rattle.storage_simulation.proofs.front.children_of.Goals as goal

pub returns-clause-rises : goal.returns-clause-rises
returns-clause-rises c = subst (RisesFrom 0) (sym c.list_at.ensures) (rises_all (neighbours (lists_of c.successors.result.now) c.args.task.0) (c.successors.ensures.rising c.args.task.0))

pub returns-clause-same : goal.returns-clause-same
returns-clause-same c = λ n. ap (λ (xs : List ℕ). has xs n) c.list_at.ensures ∙ c.successors.ensures.same c.args.task.0 n

pub returns-clause-in_range : goal.returns-clause-in_range
returns-clause-in_range c = λ n h. low_has (count c.args.graph.now) (neighbours (lists_of c.successors.result.now) c.args.task.0) (c.successors.ensures.in_range c.args.task.0) n (ap (λ (xs : List ℕ). has xs n) (sym c.list_at.ensures) ∙ h)
