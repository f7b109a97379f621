use Rattle.lease_rules.proofs.SoundLemmas.{sound_more, sound_opened}
use Rattle.lease_rules.proofs.law.allowed_entries_keep_safe.Goals as goal

pub returns-clause-start : goal.returns-clause-start
returns-clause-start c = sound_opened

pub returns-clause-entries : goal.returns-clause-entries
returns-clause-entries c = λ p s e proper. sound_more p s e (c.storage_laws.ensures p proper)
