use Rattle.workflow_core.proofs.NamesLemmas.{distinct_names}
use Rattle.workflow_core.proofs.LawLemmas.{number_known, other_number, distinct_once, distinct_known}
use Rattle.workflow_core.proofs.law.names_are_numbered.Goals as goal

pub returns : goal.returns
returns c = record { gathered = distinct_names; once = distinct_once; known = distinct_known; within = number_known; apart = other_number }
