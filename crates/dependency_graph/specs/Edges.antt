-- Which jobs make a file, and when an edge leads from one job to another.
use Rattle.std.specs.Prelude.{ℕ, suc, ◌==◌, ◌&&◌, ◌||◌, Bool, List, [], ◌∷◌, map, if◌then◌else◌, Option, Some, None, slice_index_or}
use Rattle.std.specs.List.{list_any}
use Rattle.values.specs.declared.numbers.JobId.{JobId}
use Rattle.workflow_core.specs.declared.workflow.Workflow.{Workflow}
use Rattle.workflow_core.specs.declared.workflow.Job.{Job}
use Rattle.workflow_core.specs.WellFormed.{inputs_of, outputs_of, parent_of, child_of}
use Rattle.digraph.specs.Adjacency.{has_node}

-- one of the files is this one
abbrev pub is_among : ℕ → List ℕ → Bool
is_among f fs = has_node f fs

abbrev pub has_output : ℕ → Job → Bool
has_output f j = is_among f (outputs_of j)

-- the job that makes a file: the first one with this output
abbrev pub producer : List Job → ℕ → Option Job
producer [] f = None
producer (j ∷ js) f = if has_output f j then Some j else producer js f

-- the numbers of the jobs that make a file, in document order; the first of these jobs has number i
abbrev pub makers_from : ℕ → ℕ → List Job → List ℕ
makers_from f i [] = []
makers_from f i (j ∷ js) = if has_output f j then i ∷ makers_from f (suc i) js else makers_from f (suc i) js

unfoldable pub makers : Workflow → ℕ → List ℕ
makers w f = makers_from f 0 w.jobs

-- the files that the job with this number reads, and those that it makes: none where there is no such job
abbrev pub read_by : Workflow → ℕ → List ℕ
read_by w b = slice_index_or (map inputs_of w.jobs) b []

abbrev pub written_by : Workflow → ℕ → List ℕ
written_by w a = slice_index_or (map outputs_of w.jobs) a []

-- an output of job a is an input of job b
abbrev pub passes_file : Workflow → ℕ → ℕ → Bool
passes_file w a b = list_any (λ f. is_among f (written_by w a)) (read_by w b)

-- job b is stated to come after job a
abbrev pub is_paired : Workflow → ℕ → ℕ → Bool
is_paired w a b = list_any (λ (p : JobId × JobId). parent_of p == a && child_of p == b) w.pairs

unfoldable pub edge : Workflow → ℕ → ℕ → Bool
edge w a b = passes_file w a b || is_paired w a b
