use Rattle.ensemble.proofs.SurveyedLemmas.{is_member}
use Rattle.ensemble.proofs.law.surveyed_members_are_members.Goals as goal

pub returns : goal.returns
returns c = is_member
