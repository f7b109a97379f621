-- What an evaluation asks of the documents and the tool, the bases that it reads, and how it ends.
use Rattle.std.specs.Prelude.{◌≡◌, ℕ, ◌<◌, Bool, true, List, length, is_some, Some, None, Result, Ok, Err, Vec, slice_index_or}
use Rattle.std.specs.declared.alloc.Global.{Global}
use Rattle.values.specs.declared.numbers.JobId.{JobId}
use Rattle.outside.specs.code.Counts.{Rose}
use Rattle.peg_json.specs.Tree.{◌>>=◌}
use Rattle.workflow_core.specs.code.Requested.{requested}
use Rattle.workflow_core.specs.declared.workflow.Job.{Job}
use Rattle.workflow_core.specs.declared.workflow.Workflow.{Workflow}
use Rattle.dependency_graph.specs.Value.{Basis, basis}
use Rattle.workflow_eval.specs.Evaluating.{AreValues, IsReached, first_undefined, made_by_number}
use Rattle.workflow_eval.specs.declared.fault.EvalFault.{EvalFault}
use Rattle.workflow_eval.specs.declared.fault.EvalFault.TheVariants as eval_faults
use Rattle.run_record.specs.declared.run_fault.RunFault.TheVariants.{Declined, ToolFailed, Memory}
use Rattle.evaluation.specs.Bases.{Bases, ReadsBases, told_bases}
use Rattle.evaluation.specs.JobTools.{tools_of}
use Rattle.evaluation.specs.Moments.{Meeting, Subject}
use Rattle.evaluation.specs.Sources.{sources_of}
use Rattle.evaluation.specs.ValueLines.{AreValued, Valued}
use Rattle.evaluation.specs.declared.evaluating.Prepared.{Prepared}
use Rattle.evaluation.specs.declared.fault.EvaluationFault.{EvaluationFault}
use Rattle.evaluation.specs.declared.fault.EvaluationFault.TheVariants.{NoReplica, ToolUnknown, Failed}

-- the source of each file that no job makes, and then the tool of each job; or the first one that
-- isn't to be had
abbrev pub prepared : (List ℕ → Bool) → Subject → Result Prepared EvaluationFault
prepared known s = do
  sources ← sources_of s.workflow s.replicas
  tools ← tools_of known s.tools s.workflow.jobs
  Ok (record { sources = sources; tools = tools })

-- What values stand on: the tools of the jobs, and the bases that were read.
pub record HasBases (m : Meeting) (s : Subject) (on : Basis) : Type 0 where
  pub from : Prepared
  pub is : prepared m.known s ≡ Ok from
  pub read : ReadsBases m.before.told from.sources m.before.counts m.after.counts (Ok on.bases)
  pub tools : on.tools ≡ from.tools
  pub apply : on.apply ≡ m.apply

-- Each job makes something of its inputs' values, and these are the requested files with theirs.
pub record IsValued (on : Basis) (s : Subject) (all : List Valued) : Type 0 where
  pub defined : first_undefined on s.workflow s.order ≡ None
  pub values : AreValued on s.workflow (requested s.workflow) all

-- these are the requested files' values, on bases that the host gave
pub record HasValues (m : Meeting) (s : Subject) (all : List Valued) : Type 0 where
  pub on : Basis
  pub bases : HasBases m s on
  pub valued : IsValued on s all

-- the job at a place has this id
pub record IsIdOf (w : Workflow) (place : ℕ) (id : List ℕ) : Type 0 where
  pub job : Job
  pub is : slice_index_or w.jobs place job ≡ job
  pub named : id ≡ job.id

-- The first job in the order of whose inputs' values its tool makes nothing has this id.
pub record IsDeclined (on : Basis) (s : Subject) (id : List ℕ) : Type 0 where
  pub place : ℕ
  pub within : place < length s.workflow.jobs
  pub first : first_undefined on s.workflow s.order ≡ Some place
  pub named : IsIdOf s.workflow place id

-- A job with this id is reached in the order: each job before it makes something.
pub record IsTried (on : Basis) (s : Subject) (id : List ℕ) : Type 0 where
  pub job : JobId
  pub within : job.0 < length s.workflow.jobs
  pub reached : IsReached on s.workflow s.order job
  pub named : IsIdOf s.workflow job.0 id

-- A source or a tool wasn't to be had, and nothing was asked of the host or the tool.
pub record IsUnprepared (m : Meeting) (s : Subject) (fault : EvaluationFault) : Type 0 where
  pub is : prepared m.known s ≡ Err fault
  pub same : m.after ≡ m.before

-- The bases could not be read: this fault ended their reading.
pub record IsUnread (m : Meeting) (s : Subject) (fault : EvaluationFault) : Type 0 where
  pub from : Prepared
  pub is : prepared m.known s ≡ Ok from
  pub read : ReadsBases m.before.told from.sources m.before.counts m.after.counts (Err fault)

-- How an evaluation ends without values.
abbrev pub HasNoValues : Meeting → Subject → EvaluationFault → Type 0
HasNoValues m s (NoReplica lfn) = IsUnprepared m s (NoReplica lfn)
HasNoValues m s (ToolUnknown id tool) = IsUnprepared m s (ToolUnknown id tool)
HasNoValues m s (Failed (Declined id)) = (on : Basis) × HasBases m s on × IsDeclined on s id
HasNoValues m s (Failed (ToolFailed id)) =
    Rose m.before.tool m.after.tool × (on : Basis) × HasBases m s on × IsTried on s id
HasNoValues m s (Failed Memory) = Unit {0}
HasNoValues m s (Failed fault) = IsUnread m s (Failed fault)

-- What an evaluation gives: one value for each file, or none.
abbrev pub Evaluated : Meeting → Subject → Result (Vec (List ℕ) Global) EvaluationFault → Type 0
Evaluated m s (Ok values) =
    (on : Basis) × HasBases m s on × AreValues on s.workflow values.items
    × (first_undefined on s.workflow s.order ≡ None)
Evaluated m s (Err fault) = HasNoValues m s fault

-- Sources and tools are to be had, the host tells each base within the limit and with its checksum,
-- and each job makes something.
pub record AllDefined (m : Meeting) (s : Subject) : Type 0 where
  pub from : Prepared
  pub is : prepared m.known s ≡ Ok from
  pub bases : Bases
  pub told : told_bases m.before.told from.sources ≡ Ok bases
  pub defined : (a : ℕ) → a < length s.workflow.jobs
      → is_some (made_by_number (basis m.apply from.tools bases) s.workflow a) ≡ true

-- a fault of the jobs' running names a job of the workflow
abbrev pub NamesJob : Workflow → EvalFault → Type 0
NamesJob w (eval_faults.Declined j) = j.0 < length w.jobs
NamesJob w (eval_faults.ToolFailed j) = j.0 < length w.jobs
NamesJob w eval_faults.Memory = Unit {0}

-- how a fault of the jobs' running is answered
abbrev pub AnswersFault : Workflow → EvalFault → EvaluationFault → Type 0
AnswersFault w (eval_faults.Declined j) (Failed (Declined id)) = IsIdOf w j.0 id
AnswersFault w (eval_faults.ToolFailed j) (Failed (ToolFailed id)) = IsIdOf w j.0 id
AnswersFault w fault (Failed Memory) = Unit {0}
AnswersFault w fault _ = ⊥
