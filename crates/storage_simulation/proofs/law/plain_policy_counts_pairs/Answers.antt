use Rattle.storage_simulation.proofs.LawLemmas.{plain_goods, plain_places, plain_usage, site_bound}
use Rattle.storage_simulation.proofs.law.plain_policy_counts_pairs.Goals as goal

pub returns : goal.returns
returns c = record { goods = plain_goods; places = plain_places; bounds = site_bound; usage = plain_usage }
