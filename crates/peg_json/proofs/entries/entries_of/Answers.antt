use Rattle.peg_json.proofs.EntriesLemmas.{member_more}
use Rattle.peg_json.proofs.entries.entries_of.Goals as goal

pub loop-member-preserved : goal.loop-member-preserved
loop-member-preserved g c = member_more _ _ _ _ _ _ _ _ _ _ _ _ c.in-Some.ensures.steps c.as_str.ensures.value c.in-Ok.ensures c.in_ok-push-in-Ok.ensures.items c.loop-member.invariant
