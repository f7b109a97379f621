use Rattle.record_audit.proofs.LawLemmas.{sized}
use Rattle.record_audit.proofs.law.allowed_entries_are_sized.Goals as goal

pub returns : goal.returns
returns c = λ p s e proper limits allowed. sized c.files_are_listed_by_pair.ensures.writes p s e proper limits allowed
