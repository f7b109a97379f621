use Rattle.data_reuse.proofs.WalkLemmas.{closed, least}
use Rattle.data_reuse.proofs.law.kept_is_least.Goals as goal

pub returns-clause-closed : goal.returns-clause-closed
returns-clause-closed c = closed

pub returns-clause-least : goal.returns-clause-least
returns-clause-least c = least
