use Rattle.run_record.proofs.OneTextLemmas.{one_text}
use Rattle.run_record.proofs.law.text_is_of_one_record.Goals as goal

pub returns : goal.returns
returns c = one_text
