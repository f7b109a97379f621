use Rattle.lease_rules.specs.State.{opened}
use Rattle.site_yard.proofs.FollowLemmas.{sound_now}
use Rattle.site_yard.proofs.law.record_laws.Goals as goal

pub returns : goal.returns
returns c = λ p order proper fits. record {
  reads_so = λ r legal. c.records_read.ensures p order r proper fits legal;
  sound = λ r legal. sound_now p (λ s e sound allowed. c.allowed_entries_keep_safe.ensures.entries p s e proper sound allowed) (opened order) r (c.allowed_entries_keep_safe.ensures.start p order fits) legal;
}
