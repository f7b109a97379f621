use Rattle.place_peaks.proofs.Offered.{orderable, storage_laws}
use Rattle.storage_simulation.specs.OrderLaw.{less_by_score}
use Rattle.place_peaks.proofs.law.plans_have_rules.Goals as goal

pub returns : goal.returns
returns c p proper =
    let keeps = c.proper_plans_keep_goods.ensures p proper in
    let o = orderable c.files_are_listed_by_pair.ensures.in_range c.numbers_are_in_range.ensures.kinds c.numbers_are_in_range.ensures.pairs c.parents_come_before.ensures.in_range c.proper_plans_keep_goods.ensures p proper in record {
      laws = storage_laws p keeps (c.files_are_listed_by_pair.ensures.in_range p proper) (λ st ts within is. c.steps_fit.ensures.fits p st (less_by_score p st) ts keeps within is) (λ st ts is. c.steps_fit.ensures.all p st (less_by_score p st) ts is);
      keeps = keeps;
      one = record { makes_there = o.makes_there; cleans_there = o.cleans_there; place_below = o.place_below };
    }
