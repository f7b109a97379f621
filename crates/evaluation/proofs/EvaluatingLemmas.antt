-- How an evaluation ends.
use Rattle.std.proofs.Common.{◌≡◌, ℕ, List, refl, sym, ap, ◌∙◌}
use Rattle.std.specs.Prelude.{None, Result, Ok, Err}
use Rattle.outside.specs.code.Counts.{Rose}
use Rattle.values.specs.declared.numbers.JobId.{JobId}
use Rattle.dependency_graph.specs.Value.{Basis, basis}
use Rattle.workflow_eval.specs.Evaluating.{AreValues, Evaluates, IsReached, first_undefined}
use Rattle.workflow_eval.specs.declared.fault.EvalFault.{EvalFault}
use Rattle.workflow_eval.specs.declared.fault.EvalFault.TheVariants as eval_faults
use Rattle.evaluation.specs.Bases.{Bases, ReadsBases}
use Rattle.evaluation.specs.ValueLines.{chosen}
use Rattle.evaluation.specs.Evaluating.{AnswersFault, HasBases, HasNoValues, HasValues, prepared}
use Rattle.values.specs.Apply.{Apply}
use Rattle.evaluation.specs.Moments.{Meeting, Subject}
use Rattle.evaluation.specs.Fault.{UnlessMemory}
use Rattle.evaluation.specs.declared.evaluating.Prepared.{Prepared}
use Rattle.evaluation.specs.declared.fault.EvaluationFault.{EvaluationFault}
use Rattle.evaluation.specs.declared.fault.EvaluationFault.TheVariants.{NoReplica, ToolUnknown, Failed}
use Rattle.run_record.specs.declared.run_fault.RunFault.TheVariants.{ReplicaAbsent, ReplicaTooLong, ChecksumDiffers, Declined, ToolFailed, HostFailed, Memory}
use Rattle.evaluation.proofs.ValueLinesLemmas.{chosen_are}
use Rattle.evaluation.proofs.PreparedLemmas.{IsBaseFault, IsRefused, only_bases_fail, only_refuses}

-- sources or tools are not to be had
pub refused_ends : (A : Type 0) (m : Meeting) (s : Subject) (answer : EvaluationFault) → UnlessMemory {A = A} (Err answer) (◌≡◌ {A = Result Prepared EvaluationFault} (Err answer) (prepared m.known s)) → m.after ≡ m.before → HasNoValues m s answer
refused_ends A m s answer h same = by answer h (λ e. only_refuses m.known s answer (sym e))
  where
    by : (o : EvaluationFault) → UnlessMemory {A = A} (Err o) (◌≡◌ {A = Result Prepared EvaluationFault} (Err o) (prepared m.known s)) → (◌≡◌ {A = Result Prepared EvaluationFault} (Err o) (prepared m.known s) → IsRefused o) → HasNoValues m s o
    by (Failed Memory) h only = tt
    by (NoReplica lfn) h only = record { is = sym h; same = same }
    by (ToolUnknown id tool) h only = record { is = sym h; same = same }
    by o h only = absurd (only h)

-- a base could not be read
pub unread_ends : (A : Type 0) (m : Meeting) (s : Subject) (from : Prepared) (answer : EvaluationFault) → prepared m.known s ≡ Ok from
    → UnlessMemory {A = A} (Err answer) (ReadsBases m.before.told from.sources m.before.counts m.after.counts (Err answer)) → HasNoValues m s answer
unread_ends A m s from answer is h = by answer h (λ r. only_bases_fail m.before.told from.sources m.before.counts m.after.counts answer r)
  where
    by : (o : EvaluationFault) → UnlessMemory {A = A} (Err o) (ReadsBases m.before.told from.sources m.before.counts m.after.counts (Err o)) → (ReadsBases m.before.told from.sources m.before.counts m.after.counts (Err o) → IsBaseFault o) → HasNoValues m s o
    by (Failed Memory) h only = tt
    by (Failed (ReplicaAbsent lfn pfn)) h only = record { from = from; is = is; read = h }
    by (Failed (ReplicaTooLong lfn limit n)) h only = record { from = from; is = is; read = h }
    by (Failed (ChecksumDiffers lfn wanted got)) h only = record { from = from; is = is; read = h }
    by (Failed (HostFailed task)) h only = record { from = from; is = is; read = h }
    by o h only = absurd (only h)

-- the same tools and bases
pub basis_is : (apply : Apply) (tools ts : List (List ℕ)) (bases bs : Bases) → tools ≡ ts → bases ≡ bs → basis apply tools bases ≡ basis apply ts bs
basis_is apply tools ts bases bs p q = ap (λ (x : List (List ℕ)). basis apply x bases) p ∙ ap (λ (x : Bases). basis apply ts x) q

-- what the values stand on
pub based : (m : Meeting) (s : Subject) (from : Prepared) (bases : _) → prepared m.known s ≡ Ok from → ReadsBases m.before.told from.sources m.before.counts m.after.counts (Ok bases) → HasBases m s (basis m.apply from.tools bases)
based m s from bases is read = record { from = from; is = is; read = read; tools = refl; apply = refl }

-- a job gave nothing
pub fault_ends : (m : Meeting) (s : Subject) (on : Basis) (fault : EvalFault) (o : EvaluationFault) → HasBases m s on → Evaluates on s.workflow s.order (Rose m.before.tool m.after.tool) (Err fault)
    → ((j : JobId) → fault ≡ eval_faults.ToolFailed j → IsReached on s.workflow s.order j) → AnswersFault s.workflow fault o → HasNoValues m s o
fault_ends m s on (eval_faults.Declined j) (Failed (Declined id)) has ev reached h = (on, has, record { place = j.0; within = ev.1; first = ev.0; named = h })
fault_ends m s on (eval_faults.ToolFailed j) (Failed (ToolFailed id)) has ev reached h = (ev.0, on, has, record { job = j; within = ev.1; reached = reached j refl; named = h })
fault_ends m s on fault (Failed Memory) has ev reached h = tt
fault_ends m s on fault o has ev reached h = absurd h

-- the requested files with their values
pub values_are : (m : Meeting) (s : Subject) (on : Basis) (values : List (List ℕ)) → HasBases m s on → AreValues on s.workflow values → first_undefined on s.workflow s.order ≡ None
    → HasValues m s (chosen s.workflow values)
values_are m s on values has are defined = record {
  on = on;
  bases = has;
  valued = record { defined = defined; values = chosen_are on s.workflow values are };
}
