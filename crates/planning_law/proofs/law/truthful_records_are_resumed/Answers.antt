use Rattle.resume_run.specs.Replaying.{without_fails}
use Rattle.planning_law.proofs.FinishingLemmas.{can_end}
use Rattle.planning_law.proofs.OrdersLemmas.{order_fits_from_start}
use Rattle.planning_law.proofs.law.truthful_records_are_resumed.Goals as goal

pub returns : goal.returns
returns c = λ w t p order given store text end proper is_order legal told opening carried none resumes.
    let fits = order_fits_from_start c.order_fits.ensures.fits p order (c.proper_plans_keep_goods.ensures p proper) is_order in
    let bare = c.records_without_fails_are_legal.ensures p order given legal in
    let recorded = c.recorded_sizes_are_carried.ensures w.apply p order (without_fails given) store proper fits bare opening in
    c.resumes_finish.ensures w t p order given text end proper (can_end w p order given store legal told opening recorded carried) none resumes
