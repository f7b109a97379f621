-- The two numbers of a job that say how its group is cut.
use Rattle.std.specs.Prelude.{ℕ, zero, suc, ◌+◌, ◌*◌, ◌-◌, ◌&&◌, if◌then◌else◌, List, [], ◌∷◌, length, nat_le, Option, Some, None, option_and_then, slice_get}
use Rattle.std.specs.Option.{option_or}
use Rattle.workflow_core.specs.declared.workflow.Job.{Job}
use Rattle.workflow_core.specs.declared.workflow.Transformation.{Transformation}
use Rattle.transformation_catalog.specs.declared.catalog.TransformationEntry.{TransformationEntry}
use Rattle.transformation_catalog.specs.Lookup.{place_of}
use Rattle.clustering.specs.declared.numbers.Numbers.{Numbers}

-- the number that digits say after others that say n
abbrev pub value_from : ℕ → List ℕ → Option ℕ
value_from n [] = Some n
value_from n (c ∷ cs) = if nat_le 48 c && nat_le c 57 then value_from (n * 10 + (c - 48)) cs else None

abbrev pub not_zero : Option ℕ → Option ℕ
not_zero None = None
not_zero (Some zero) = None
not_zero (Some (suc n)) = Some (suc n)

-- one to five digits with a value of at least 1
abbrev pub positive_number_in : List ℕ → Option ℕ
positive_number_in s = if nat_le 1 (length s) && nat_le (length s) 5 then not_zero (value_from 0 s) else None

-- ---- a job's numbers

abbrev pub entry_of_transformation : List TransformationEntry → Transformation → Option TransformationEntry
entry_of_transformation es t = option_and_then (slice_get es) (place_of es t)

-- a job's own, else that of its transformation's entry
abbrev pub cluster_num_by : Option TransformationEntry → Job → Option (List ℕ)
cluster_num_by e j = option_or j.cluster_num (option_and_then (λ (x : TransformationEntry). x.cluster_num) e)

abbrev pub cluster_size_by : Option TransformationEntry → Job → Option (List ℕ)
cluster_size_by e j = option_or j.cluster_size (option_and_then (λ (x : TransformationEntry). x.cluster_size) e)

abbrev pub numbers_by : Option TransformationEntry → Job → Numbers
numbers_by e j = record {
  num = option_and_then positive_number_in (cluster_num_by e j);
  size = option_and_then positive_number_in (cluster_size_by e j);
}
