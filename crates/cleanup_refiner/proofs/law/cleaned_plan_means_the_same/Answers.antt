use Rattle.cleanup_refiner.proofs.LawLemmas.{cleaned_means}
use Rattle.cleanup_refiner.proofs.law.cleaned_plan_means_the_same.Goals as goal

pub returns : goal.returns
returns c = cleaned_means c.cleaned_plan_carries_the_same.ensures c.cleans_carry_nothing.ensures
