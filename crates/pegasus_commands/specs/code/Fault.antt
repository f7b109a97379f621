-- What a command answers: that it is done, with what a rehearsal gives back, or why not.
use Rattle.std.specs.Prelude.{ℕ, List, Option, None, Result, Ok, Err}
use Rattle.peg_json.specs.declared.fault.TreeFault.TheVariants as trees
use Rattle.peg_json.specs.declared.read_fault.ReadFault.TheVariants as reads
use Rattle.planner.specs.declared.plan_fault.PlanFault.{PlanFault}
use Rattle.planner.specs.declared.plan_fault.PlanFault.TheVariants as plan
use Rattle.ensemble.specs.declared.fault.EnsembleFault.{EnsembleFault}
use Rattle.ensemble.specs.declared.fault.EnsembleFault.TheVariants as ensembles
use Rattle.ensemble.specs.declared.join_fault.JoinFault.{JoinFault}
use Rattle.ensemble.specs.declared.join_fault.JoinFault.TheVariants as joins
use Rattle.run_record.specs.declared.run_fault.RunFault.{RunFault}
use Rattle.run_record.specs.declared.run_fault.RunFault.TheVariants as run
use Rattle.evaluation.specs.declared.fault.EvaluationFault.{EvaluationFault}
use Rattle.evaluation.specs.declared.fault.EvaluationFault.TheVariants as unvalued
use Rattle.resume_run.specs.declared.resuming.ResumeFault.{ResumeFault}
use Rattle.resume_run.specs.declared.resuming.ResumeFault.TheVariants as resumed
use Rattle.rehearsal.specs.declared.rehearsal.Rehearsal.{Rehearsal}
use Rattle.pegasus_commands.specs.declared.fault.CallFault.{CallFault}
use Rattle.pegasus_commands.specs.declared.fault.CallFault.TheVariants.{Memory, Refused, Exceeds, Failed, IllegalRecord, RefusedEnsemble, RefusedMember}

abbrev pub Answer : Type 0
Answer = Result (Option Rehearsal) CallFault

-- done, with nothing to give back
abbrev pub done : Answer
done = Ok None

abbrev pub not_for : CallFault → Answer
not_for fault = Err fault

-- the answer for a fault of planning
abbrev pub plan_answer : PlanFault → CallFault
plan_answer plan.Memory = Memory
plan_answer (plan.Exceeds site task needed bound) = Exceeds site task needed bound
plan_answer fault = Refused fault

-- the answer for a fault of an ensemble's document
abbrev pub ensemble_answer : EnsembleFault → CallFault
ensemble_answer (ensembles.Read (reads.Tree trees.Memory)) = Memory
ensemble_answer fault = RefusedEnsemble fault

-- the answer for a member's documents that are answered with this: a refusal is told of the member
abbrev pub member_answer : List ℕ → CallFault → CallFault
member_answer name (Refused fault) = RefusedMember name fault
member_answer name answer = answer

-- the answer for members that have no joint
abbrev pub join_answer : JoinFault → CallFault
join_answer (joins.TooMany counted count limit) = Refused (plan.TooMany counted count limit)
join_answer joins.Memory = Memory

-- the answer for a fault of a run
abbrev pub run_answer : RunFault → CallFault
run_answer run.Memory = Memory
run_answer fault = Failed fault

-- the answer for the end of a run
abbrev pub end_answer : Result (Unit {0}) RunFault → Answer
end_answer (Ok ended) = done
end_answer (Err fault) = Err (run_answer fault)

-- why a run wasn't gone on with, or failed, as an answer; the answer for the end of a run that was gone on with
abbrev pub resume_answer : ResumeFault → CallFault
resume_answer (resumed.Illegal k) = IllegalRecord k
resume_answer (resumed.Failed fault) = run_answer fault

abbrev pub resumed_answer : Result (Unit {0}) ResumeFault → Answer
resumed_answer (Ok ended) = done
resumed_answer (Err fault) = Err (resume_answer fault)

-- the answer for a fault of an evaluation
abbrev pub value_answer : EvaluationFault → CallFault
value_answer (unvalued.NoReplica lfn) = Refused (plan.NoReplica lfn)
value_answer (unvalued.ToolUnknown id tool) = Refused (plan.ToolUnknown id tool)
value_answer (unvalued.Failed fault) = run_answer fault

-- done, or memory ran out
abbrev pub IsDoneOrMemory : Answer → Type 0
IsDoneOrMemory (Ok given) = Unit {0}
IsDoneOrMemory (Err Memory) = Unit {0}
IsDoneOrMemory _ = ⊥
