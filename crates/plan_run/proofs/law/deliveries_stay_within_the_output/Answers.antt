use Rattle.plan_run.proofs.OutputLemmas.{output_within}
use Rattle.plan_run.proofs.law.deliveries_stay_within_the_output.Goals as goal

pub returns : goal.returns
returns c p order r proper fits legal =
    output_within p order r (c.proper_plans_keep_goods.ensures p proper) (λ s e. c.allowed_entries_keep_safe.ensures.entries p s e proper)
    (λ size front b. c.usage_is_a_sum.ensures.output p size front b proper)
    (c.allowed_entries_keep_safe.ensures.start p order fits) legal (c.legal_records_are_safe.ensures.always p order r proper fits legal)
