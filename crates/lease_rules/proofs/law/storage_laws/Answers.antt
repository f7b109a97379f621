use Rattle.storage_simulation.specs.OrderLaw.{less_by_score}
use Rattle.lease_rules.proofs.GoodsLemmas.{storage_laws}
use Rattle.lease_rules.proofs.law.storage_laws.Goals as goal

pub returns : goal.returns
returns c = λ p proper.
    let goods = c.proper_plans_keep_goods.ensures p proper in
    storage_laws p goods (c.files_are_listed_by_pair.ensures.in_range p proper) (λ st ts within is. c.steps_fit.ensures.fits p st (less_by_score p st) ts goods within is) (λ st ts is. c.steps_fit.ensures.all p st (less_by_score p st) ts is)
