-- The joint workflow: the members' jobs, pairs and files, one member's after the other's.
use Rattle.std.specs.Prelude.{◌≡◌, ℕ, ◌+◌, List, [], ◌∷◌, ◌++◌, map, Option, None}
use Rattle.std.specs.List.{flat_map}
use Rattle.values.specs.declared.numbers.JobId.{JobId}
use Rattle.workflow_core.specs.declared.workflow.Job.{Job}
use Rattle.workflow_core.specs.declared.workflow.Workflow.{Workflow}
use Rattle.ensemble.specs.declared.member.Member.{Member}
use Rattle.ensemble.specs.Jobs.{job_of, pair_after}
use Rattle.ensemble.specs.Member.{files_of, jobs_of}
use Rattle.ensemble.specs.Prefix.{prefixed}

-- the jobs, where the members before have so many files
abbrev pub joint_jobs : ℕ → List Member → List Job
joint_jobs files [] = []
joint_jobs files (m ∷ ms) =
    map (job_of m.name files) m.survey.workflow.jobs ++ joint_jobs (files + files_of m) ms

-- the pairs, where the members before have so many jobs
abbrev pub joint_pairs : ℕ → List Member → List (JobId × JobId)
joint_pairs jobs [] = []
joint_pairs jobs (m ∷ ms) =
    map (pair_after jobs) m.survey.workflow.pairs ++ joint_pairs (jobs + jobs_of m) ms

abbrev pub joint_files : List Member → List (List ℕ)
joint_files ms = flat_map (λ (m : Member). map (prefixed m.name) m.survey.workflow.files) ms

abbrev pub joint_stated : List Member → List (Option ℕ)
joint_stated ms = flat_map (λ (m : Member). m.survey.workflow.sizes) ms

-- The joint workflow is no document's: it has no name, no catalogues of its own, no keys that aren't acted on.
pub record IsJointWorkflow (ms : List Member) (w : Workflow) : Type 0 where
  pub jobs : w.jobs ≡ joint_jobs 0 ms
  pub pairs : w.pairs ≡ joint_pairs 0 ms
  pub files : w.files ≡ joint_files ms
  pub sizes : w.sizes ≡ joint_stated ms
  pub name : w.name ≡ []
  pub sites : w.inlined.sites ≡ None
  pub replicas : w.inlined.replicas ≡ None
  pub transformations : w.inlined.transformations ≡ None
  pub ignored : w.ignored ≡ []
