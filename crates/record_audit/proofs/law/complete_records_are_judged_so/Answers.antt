use Rattle.record_audit.proofs.LawLemmas.{judged_complete}
use Rattle.record_audit.proofs.law.complete_records_are_judged_so.Goals as goal

pub returns : goal.returns
returns c = λ p order r v legal complete judged. judged_complete p order r v legal complete judged
