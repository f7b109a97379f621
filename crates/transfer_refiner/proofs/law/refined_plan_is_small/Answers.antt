use Rattle.transfer_refiner.proofs.SmallLemmas.{few_files, few_sites, no_clean, small_sizes}
use Rattle.transfer_refiner.proofs.law.refined_plan_is_small.Goals as goal

pub returns : goal.returns
returns c = record { cleans = no_clean; sites = few_sites; files = few_files; sizes = small_sizes }
