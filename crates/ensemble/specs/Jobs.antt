-- Jobs of a member, in the joint of all members: under the member's name, with later numbers of files and jobs.
use Rattle.std.specs.Prelude.{ℕ, ◌+◌, ◌<◌, ◌^◌, List, map}
use Rattle.std.specs.List.{All}
use Rattle.values.specs.declared.numbers.FileId.{FileId}
use Rattle.values.specs.declared.numbers.JobId.{JobId}
use Rattle.workflow_core.specs.declared.workflow.Job.{Job}
use Rattle.workflow_core.specs.declared.workflow.Output.{Output}
use Rattle.workflow_core.specs.WellFormed.{child_of as after, parent_of as before}
use Rattle.ensemble.specs.Prefix.{prefixed, transformation_of}

-- a file, where the members before have so many files
abbrev pub file_after : ℕ → FileId → FileId
file_after files f = record { 0 = files + f.0 }

abbrev pub output_after : ℕ → Output → Output
output_after files o = record o { file = file_after files o.file }

-- a job, where the members before have so many files
abbrev pub job_of : List ℕ → ℕ → Job → Job
job_of member files j = record j {
  id = prefixed member j.id;
  transformation = transformation_of member j.transformation;
  inputs = map (file_after files) j.inputs;
  outputs = map (output_after files) j.outputs;
}

-- a pair of jobs, where the members before have so many jobs
abbrev pub pair_after : ℕ → JobId × JobId → JobId × JobId
pair_after jobs p = (record { 0 = jobs + before p }, record { 0 = jobs + after p })

-- The later numbers of a job's files, and those of a pair's jobs, are numbers of 32 bits.
pub record FitsAfter (files : ℕ) (j : Job) : Type 0 where
  pub inputs : All (λ (f : FileId). files + f.0 < 2 ^ 32) j.inputs
  pub outputs : All (λ (o : Output). files + o.file.0 < 2 ^ 32) j.outputs

-- a stated pair of jobs behind so many jobs
pub record PairFitsAfter (jobs : ℕ) (p : JobId × JobId) : Type 0 where
  pub before : jobs + before p < 2 ^ 32
  pub after : jobs + after p < 2 ^ 32
