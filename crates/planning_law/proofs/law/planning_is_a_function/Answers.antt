use Rattle.planning_law.proofs.DocumentsLemmas.{one_plan_of_documents}
use Rattle.planning_law.proofs.PlansLemmas.{one_plan}
use Rattle.planning_law.proofs.RunsLemmas.{one_ordering, one_ordering_of_documents}
use Rattle.planning_law.proofs.law.planning_is_a_function.Goals as goal

pub returns : goal.returns
returns c = record {
  plan = λ r s limit p q graph limits. one_plan r s limit p q graph limits.runtimes;
  order = one_ordering;
  plan_of_documents = λ r d s t limit p q limits. one_plan_of_documents r d s t limit p q limits.runtimes;
  order_of_documents = one_ordering_of_documents;
}
