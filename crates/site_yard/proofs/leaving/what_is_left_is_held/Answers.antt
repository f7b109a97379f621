use Rattle.site_yard.proofs.LeavingLemmas.{left_held}
use Rattle.site_yard.proofs.leaving.what_is_left_is_held.Goals as goal

pub returns : goal.returns
returns c = λ p order r proper fits legal. left_held p proper (c.plan_laws.ensures p proper) (c.proper_plans_keep_goods.ensures p proper) (λ s e. c.allowed_entries_keep_safe.ensures.entries p s e proper) (c.legal_records_are_safe.ensures.sums p) order (c.allowed_entries_keep_safe.ensures.start p order fits) r legal
