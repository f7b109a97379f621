use Rattle.planning_law.proofs.RunsLemmas.{printed_is_complete}
use Rattle.planning_law.proofs.law.printed_runs_are_complete.Goals as goal

pub returns : goal.returns
returns c = printed_is_complete c.complete_records_are_judged_so.ensures c.printed_records_are_read.ensures c.text_is_of_one_record.ensures
