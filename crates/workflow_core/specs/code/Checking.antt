-- The tests that tell whether a workflow is well formed.
use Rattle.std.specs.Prelude.{ℕ, ◌^◌, ◌&&◌, Bool, true, List, length, map, nat_eq, nat_lt, nat_le, Option, Some, None}
use Rattle.std.specs.List.{list_all}
use Rattle.std.specs.Str.{bytes_eq}
use Rattle.values.specs.declared.numbers.JobId.{JobId}
use Rattle.workflow_core.specs.declared.workflow.Workflow.{Workflow}
use Rattle.workflow_core.specs.declared.workflow.Job.{Job}
use Rattle.workflow_core.specs.code.WellFormed.{are_distinct}
use Rattle.workflow_core.specs.WellFormed.{inputs_of, outputs_of, parent_of, child_of}

-- the numbers are among so many, and distinct
abbrev pub are_files : ℕ → List ℕ → Bool
are_files files ns = list_all (λ n. nat_lt n files) ns && are_distinct nat_eq ns

abbrev pub is_job_over : ℕ → Job → Bool
is_job_over files j = are_files files (inputs_of j) && are_files files (outputs_of j)

abbrev pub is_pair_of : ℕ → JobId × JobId → Bool
is_pair_of jobs p = nat_lt (parent_of p) jobs && nat_lt (child_of p) jobs

abbrev pub is_small_size : Option ℕ → Bool
is_small_size None = true
is_small_size (Some n) = nat_le n (2 ^ 40)

abbrev pub are_sized : Workflow → Bool
are_sized w = nat_eq (length w.sizes) (length w.files) && list_all is_small_size w.sizes

abbrev pub are_few : Workflow → Bool
are_few w = nat_le (length w.jobs) 10000 && (nat_le (length w.files) 50000 && are_sized w)

abbrev pub are_named : Workflow → Bool
are_named w = are_distinct bytes_eq (map (λ (j : Job). j.id) w.jobs) && are_distinct bytes_eq w.files

abbrev pub are_numbered : Workflow → Bool
are_numbered w = list_all (is_job_over (length w.files)) w.jobs
    && list_all (is_pair_of (length w.jobs)) w.pairs

abbrev pub passes : Workflow → Bool
passes w = are_few w && (are_named w && are_numbered w)
