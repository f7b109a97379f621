use Rattle.std.proofs.Common.{rules, refl}
use Rattle.ruled_lock.proofs.StepLemmas.{draws}
use Rattle.ruled_lock.proofs.lock.RuledLock.draw.Goals as goal

pub compare_exchange-found-requires : goal.compare_exchange-found-requires
compare_exchange-found-requires g c = (search rules, search rules, draws _ _ _ _ _ _ _ _ _ c.requires.idle refl)
