use Rattle.cleanup_refiner.proofs.LawLemmas.{cleaned_is_proper}
use Rattle.cleanup_refiner.proofs.law.cleaned_plan_is_proper.Goals as goal

pub returns : goal.returns
returns c = cleaned_is_proper c.ways_back_end.ensures
