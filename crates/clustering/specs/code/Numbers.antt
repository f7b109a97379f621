-- Beside `specs/Numbers.antt`: what the code's own contracts say.
use Rattle.std.specs.Prelude.{ℕ, Bool, false, codes, if◌then◌else◌, List, Option, Some, None, is_some, not}
use Rattle.workflow_core.specs.declared.workflow.Job.{Job}
use Rattle.transformation_catalog.specs.declared.catalog.TransformationEntry.{TransformationEntry}
use Rattle.clustering.specs.Numbers.{positive_number_in, entry_of_transformation, cluster_num_by, cluster_size_by}

-- there is one, and it is none
abbrev pub is_bad : Option (List ℕ) → Bool
is_bad None = false
is_bad (Some s) = not (is_some (positive_number_in s))

-- the key of a job's first bad number
abbrev pub bad_key_by : Option TransformationEntry → Job → Option (List ℕ)
bad_key_by e j =
    if is_bad (cluster_num_by e j) then Some (codes "clusters.num")
    else (if is_bad (cluster_size_by e j) then Some (codes "clusters.size")
    else None)

abbrev pub bad_key : List TransformationEntry → Job → Option (List ℕ)
bad_key es j = bad_key_by (entry_of_transformation es j.transformation) j
