use Rattle.cleanup_refiner.proofs.LawLemmas.{cleaned_carries_the_same}
use Rattle.cleanup_refiner.proofs.law.cleaned_plan_carries_the_same.Goals as goal

pub returns : goal.returns
returns c = cleaned_carries_the_same c.ways_back_end.ensures c.carried_is_carried_along.ensures.fits c.carried_is_carried_along.ensures.alone
