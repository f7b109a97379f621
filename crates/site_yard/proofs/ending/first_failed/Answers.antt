use Rattle.site_yard.proofs.EndingLemmas.{found_here, none_here}
use Rattle.site_yard.proofs.ending.first_failed.Goals as goal

pub returns-in-Some : goal.returns-in-Some
returns-in-Some c = found_here c.args.history.now.events c.loop-k.k _ _ c.in-Some.failed c.entry-entry.ensures c.failed_in.ensures c.in-Some.is c.loop-k.invariant

pub loop-k-preserved : goal.loop-k-preserved
loop-k-preserved c = none_here c.args.history.now.events c.loop-k.k _ _ c.entry-entry.ensures c.failed_in.ensures c.in-None.is c.loop-k.invariant
