use Rattle.std.proofs.Common.{[], refl}
use Rattle.plan_run.specs.Moments.{gateless}
use Rattle.plan_run.specs.code.Moments.{work_moment}
use Rattle.pegasus_commands.proofs.commands.work_by_first.Goals as goal

pub returns-in-Check-clause-does : goal.returns-in-Check-clause-does
returns-in-Check-clause-does g c = λ t first. rw c.in-Check.is (c.work-told.ensures _ t refl (first refl refl refl))

pub returns-in-Plan-clause-does : goal.returns-in-Plan-clause-does
returns-in-Plan-clause-does g c = λ t first. rw c.in-Plan.is (c.work-told-in-Plan.ensures _ t refl (first refl refl refl))

pub returns-in-Eval-clause-does : goal.returns-in-Eval-clause-does
returns-in-Eval-clause-does g c = λ t first. rw c.in-Eval.is (c.work-told-in-Eval.ensures _ t first)

pub returns-in-Alone-clause-does : goal.returns-in-Alone-clause-does
returns-in-Alone-clause-does g c = λ t first. rw c.in-Alone.is (c.work.ensures.does t first)

pub returns-in-Audit-clause-does : goal.returns-in-Audit-clause-does
returns-in-Audit-clause-does g c = λ t first. rw c.in-Audit.is (c.work-told-in-Audit.ensures _ t refl (first refl refl refl))

pub returns-in-Stat-clause-does : goal.returns-in-Stat-clause-does
returns-in-Stat-clause-does g c = λ t first. rw c.in-Stat.is (c.work-told-in-Stat.ensures _ t refl (first refl refl refl))

pub returns-in-Produce-clause-does : goal.returns-in-Produce-clause-does
returns-in-Produce-clause-does g c = λ t first. rw c.in-Produce.is (c.work-in-Produce.ensures.does t first)

pub returns-in-Schedule-clause-does : goal.returns-in-Schedule-clause-does
returns-in-Schedule-clause-does g c = λ t first. rw c.in-Schedule.is (c.work-told-in-Schedule.ensures _ t refl (first refl refl refl))

pub returns-in-Ensemble-clause-does : goal.returns-in-Ensemble-clause-does
returns-in-Ensemble-clause-does g c = λ t first. rw c.in-Ensemble.is (c.work-in-Ensemble.ensures.does t first)

pub returns-in-Rehearse-clause-does : goal.returns-in-Rehearse-clause-does
returns-in-Rehearse-clause-does g c = λ t first. rw c.in-Rehearse.is (c.work-told-in-Rehearse.ensures.does _ (work_moment g.H.Host c.args.host (gateless 0 0 [])) t first)
