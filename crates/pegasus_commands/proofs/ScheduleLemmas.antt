-- The answers of `schedule`.
use Rattle.std.proofs.Common.{◌≡◌, ℕ, List, [], refl, sym, ap, subst, ◌∙◌}
use Rattle.std.specs.Prelude.{Ok, Err}
use Rattle.planner.specs.code.Scheduling.{CannotSchedule}
use Rattle.planner.specs.declared.plan_fault.PlanFault.{PlanFault}
use Rattle.planner.specs.declared.plan_fault.PlanFault.TheVariants as plan_faults
use Rattle.planner.specs.declared.surveyed.Surveyed.{Surveyed}
use Rattle.pegasus_commands.specs.declared.fault.CallFault.{CallFault}
use Rattle.pegasus_commands.specs.declared.fault.CallFault.TheVariants.{Memory}
use Rattle.pegasus_commands.specs.code.Commands.Schedule.{HasSites, Says, Schedules, schedule}
use Rattle.pegasus_commands.specs.code.CommandSpec.{Finishes}
use Rattle.pegasus_commands.specs.code.Fault.{Answer, IsDoneOrMemory, not_for, plan_answer}
use Rattle.pegasus_commands.specs.code.Survey.{survey_of}
use Rattle.pegasus_commands.proofs.InputSpecLemmas.{finishes_over}

-- the answer for a fault
refused_says : (s : Surveyed) (fault : PlanFault) → CannotSchedule s.request s.survey fault → Says s [] (not_for (plan_answer fault))
refused_says s plan_faults.Memory h = tt
refused_says s (plan_faults.Exceeds site task needed bound) h = (record { fault = plan_faults.Exceeds site task needed bound; comes = h; answers = refl }, refl)
refused_says s fault h = (record { fault = fault; comes = h; answers = refl }, refl)

pub says_refused : (s : Surveyed) (fault : PlanFault) (text : List ℕ) (a : Answer) → CannotSchedule s.request s.survey fault → text ≡ [] → a ≡ not_for (plan_answer fault) → Says s text a
says_refused s fault text a h none is = rw (none, is) (refused_says s fault h)

-- where no kept job lacks a site there is a schedule, or memory runs out
says_done : (s : Surveyed) (text : List ℕ) (a : Answer) → Says s text a → HasSites s → IsDoneOrMemory a
says_done s text (Ok given) h sites = tt
says_done s text (Err Memory) h sites = tt
says_done s text (Err fault) h sites = subst (λ (f : CallFault). IsDoneOrMemory (not_for f)) (sym (h.0.answers ∙ ap plan_answer (sites h.0.fault h.0.comes))) tt

pub schedule_finishes : (name : List ℕ) → Finishes (schedule name)
schedule_finishes name = finishes_over (survey_of name) Schedules (λ w s. HasSites s) (λ w t s text a works can still. says_done s text a works.says can)
