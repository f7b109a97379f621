-- The workflow that a document states, its files by number, or its first fault: those of the tree come first.
use Rattle.std.specs.Prelude.{ℕ, List, [], ◌∷◌, Bool, true, false, map, filter, if◌then◌else◌, Option, None, ◌&&◌, length, Result, Ok}
use Rattle.std.specs.List.{flat_map}
use Rattle.std.specs.Option.{option_or}
use Rattle.std.specs.Str.{bytes_eq}
use Rattle.values.specs.declared.numbers.FileId.{FileId}
use Rattle.values.specs.Distinct.{distinct}
use Rattle.values.specs.declared.numbers.JobId.{JobId}
use Rattle.peg_json.specs.Tree.{◌>>=◌, then_read, tree_of}
use Rattle.serde_json.specs.Data.{Data}
use Rattle.peg_json.specs.Elements.{few, first_repeat, refused, first_unknown}
use Rattle.peg_json.specs.declared.read_fault.Counted.TheVariants.{Jobs, Files}
use Rattle.peg_json.specs.declared.read_fault.ReadFault.{ReadFault}
use Rattle.peg_json.specs.declared.read_fault.ReadFault.TheVariants.{DuplicateJob, DuplicateUse, UnknownJob}
use Rattle.workflow_core.specs.Names.{number}
use Rattle.workflow_core.specs.declared.workflow.Output.{Output}
use Rattle.workflow_core.specs.View.{WorkflowEntry}
use Rattle.workflow_core.specs.declared.workflow.Job.{Job}
use Rattle.workflow_reader.specs.declared.document.Direction.{Direction}
use Rattle.workflow_reader.specs.declared.document.Direction.TheVariants as directions
use Rattle.workflow_reader.specs.declared.document.JobEntry.{JobEntry}
use Rattle.workflow_reader.specs.declared.document.Use.{Use}
use Rattle.workflow_reader.specs.declared.document.Dependency.{Dependency}
use Rattle.workflow_reader.specs.Workflow.{DocumentEntry, workflow_document_of}

-- all uses, job by job
abbrev pub uses_of : List JobEntry → List Use
uses_of js = flat_map (λ (j : JobEntry). j.uses) js

abbrev pub lfns_of_uses : List Use → List (List ℕ)
lfns_of_uses us = map (λ (u : Use). u.lfn) us

-- the names of the files that a job uses
abbrev pub lfns_in : JobEntry → List (List ℕ)
lfns_in j = lfns_of_uses j.uses

-- the names of all files, in order of first appearance, job by job
abbrev pub files_of : List JobEntry → List (List ℕ)
files_of js = distinct (flat_map lfns_in js)

-- the first size that a use of the file states
abbrev pub first_size : List Use → List ℕ → Option ℕ
first_size [] f = None
first_size (u ∷ us) f = option_or (if bytes_eq u.lfn f then u.size else None) (first_size us f)

-- for each file its first size
abbrev pub sizes_of : List JobEntry → List (Option ℕ)
sizes_of js = map (first_size (uses_of js)) (files_of js)

abbrev pub same_direction : Direction → Direction → Bool
same_direction directions.Input directions.Input = true
same_direction directions.Input directions.Output = false
same_direction directions.Output directions.Input = false
same_direction directions.Output directions.Output = true

-- the uses as inputs, or those as outputs
abbrev pub uses_as : Direction → List Use → List Use
uses_as d us = filter (λ (u : Use). same_direction d u.direction) us

abbrev pub file_of : List (List ℕ) → Use → FileId
file_of files u = record { 0 = number files u.lfn }

abbrev pub output_of : List (List ℕ) → Use → Output
output_of files u = record { file = file_of files u; stage_out = u.stage_out; register = u.register }

-- ---- faults

abbrev pub ids_of : List JobEntry → List (List ℕ)
ids_of js = map (λ (j : JobEntry). j.id) js

-- the same file, used the same way
abbrev pub same_use : Use → Use → Bool
same_use u v = same_direction u.direction v.direction && bytes_eq u.lfn v.lfn

-- no use of a job comes twice
abbrev pub used_once : JobEntry → Result (Unit {0}) ReadFault
used_once j = refused (λ (u : Use). DuplicateUse j.id u.lfn) (first_repeat same_use [] j.uses)

-- none of any job, the jobs in order
abbrev pub all_used_once : List JobEntry → Result (Unit {0}) ReadFault
all_used_once [] = Ok tt
all_used_once (j ∷ js) = used_once j >>= λ _. all_used_once js

-- the ids in the dependencies, each one's own before its children's
abbrev pub ids_in : List Dependency → List (List ℕ)
ids_in ds = flat_map (λ (d : Dependency). d.id ∷ d.children) ds

-- ---- the workflow

abbrev pub job_with_id : List (List ℕ) → List ℕ → JobId
job_with_id ids id = record { 0 = number ids id }

-- a job and each of those that come after it
abbrev pub pairs_from : List (List ℕ) → Dependency → List (JobId × JobId)
pairs_from ids d = map (λ (c : List ℕ). (job_with_id ids d.id, job_with_id ids c)) d.children

abbrev pub dependency_pairs : List (List ℕ) → List Dependency → List (JobId × JobId)
dependency_pairs ids ds = flat_map (pairs_from ids) ds

abbrev pub linked_job : List (List ℕ) → JobEntry → Job
linked_job files j = record {
  id = j.id;
  transformation = j.transformation;
  arguments = j.arguments;
  inputs = map (file_of files) (uses_as directions.Input j.uses);
  outputs = map (output_of files) (uses_as directions.Output j.uses);
  label = j.label;
  cluster_size = j.cluster_size;
  cluster_num = j.cluster_num;
  pinned = j.pinned;
}

abbrev pub workflow_entry : DocumentEntry → WorkflowEntry
workflow_entry e = record {
  name = e.name;
  jobs = map (linked_job (files_of e.jobs)) e.jobs;
  pairs = dependency_pairs (ids_of e.jobs) e.dependencies;
  files = files_of e.jobs;
  sizes = sizes_of e.jobs;
  sites = e.sites;
  replicas = e.replicas;
  transformations = e.transformations;
}

unfoldable pub linked : DocumentEntry → Result WorkflowEntry ReadFault
linked e = do
  few_jobs ← few Jobs 10000 (length e.jobs)
  few_files ← few Files 50000 (length (files_of e.jobs))
  distinct_ids ← refused DuplicateJob (first_repeat bytes_eq [] (ids_of e.jobs))
  distinct_uses ← all_used_once e.jobs
  known_ids ← refused UnknownJob (first_unknown (ids_of e.jobs) (ids_in e.dependencies))
  Ok (workflow_entry e)

-- ---- the whole document

-- a tree under a path
unfoldable pub workflow_from_tree : List ℕ → Data → Result WorkflowEntry ReadFault
workflow_from_tree path d = then_read (workflow_document_of path d) linked

-- a JSON text
unfoldable pub workflow_from_text : List ℕ → Result WorkflowEntry ReadFault
workflow_from_text bytes = then_read (tree_of bytes) (workflow_from_tree [])
