-- What answers come to.
use Rattle.std.proofs.Common.{◌≡◌, refl}
use Rattle.std.specs.Prelude.{Ok, Err}
use Rattle.planner.specs.declared.plan_fault.PlanFault.{PlanFault}
use Rattle.planner.specs.declared.plan_fault.PlanFault.TheVariants as plan
use Rattle.run_record.specs.declared.run_fault.RunFault.{RunFault}
use Rattle.run_record.specs.declared.run_fault.RunFault.TheVariants as run
use Rattle.pegasus_commands.specs.declared.fault.CallFault.{CallFault}
use Rattle.pegasus_commands.specs.declared.fault.CallFault.TheVariants.{Memory, Refused, Failed}
use Rattle.pegasus_commands.specs.code.Fault.{Answer, IsDoneOrMemory, done, not_for, plan_answer, run_answer}

-- a fault that is neither want of memory nor a bound that is passed
pub plan_answer_else : (fault : PlanFault) → (fault ≡ plan.Memory → ⊥) → ((site : _) (task : _) (needed bound : _) → fault ≡ plan.Exceeds site task needed bound → ⊥) → Refused fault ≡ plan_answer fault
plan_answer_else plan.Memory no_memory fits = absurd (no_memory refl)
plan_answer_else (plan.Exceeds site task needed bound) no_memory fits = absurd (fits site task needed bound refl)
plan_answer_else fault no_memory fits = refl

-- a fault of a run that isn't want of memory
pub run_answer_else : (fault : RunFault) → (fault ≡ run.Memory → ⊥) → Failed fault ≡ run_answer fault
run_answer_else run.Memory no_memory = absurd (no_memory refl)
run_answer_else fault no_memory = refl

pub done_prop : (a : Answer) → IsProp (IsDoneOrMemory a)
done_prop (Ok given) = λ x y. refl
done_prop (Err Memory) = λ x y. refl
done_prop (Err fault) = λ x y. absurd x

-- nothing that keeps a command from being done is an answer that it is
pub no_fault_is_done : (fault : CallFault) → ◌≡◌ {A = Answer} done (not_for fault) → ⊥
no_fault_is_done fault h = absurd cc
