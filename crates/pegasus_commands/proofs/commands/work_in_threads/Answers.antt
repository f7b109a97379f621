use Rattle.std.proofs.Common.{[]}
use Rattle.plan_run.specs.Moments.{gateless}
use Rattle.plan_run.specs.code.Moments.{work_moment}
use Rattle.pegasus_commands.proofs.commands.work_in_threads.Goals as goal

pub returns-in-Rehearse-clause-does : goal.returns-in-Rehearse-clause-does
returns-in-Rehearse-clause-does g c = rw c.in-Rehearse.is (c.work_by-told.ensures.does _ (work_moment g.H.Host c.args.host (gateless 0 0 [])))

pub returns-in-Run-clause-does : goal.returns-in-Run-clause-does
returns-in-Run-clause-does g c = rw c.in-Run.is c.work.ensures.does
