-- Beside `specs/Tasks.antt`: what the code's own contracts say.
use Rattle.std.specs.Prelude.{ℕ, ◌+◌, ◌&&◌, ◌||◌, Bool, not, List, length, if◌then◌else◌, Option, Some, None, is_some, option_map, nat_lt}
use Rattle.std.specs.List.{list_any}
use Rattle.values.specs.declared.numbers.JobId.{JobId}
use Rattle.workflow_core.specs.Requested.{is_requested}
use Rattle.replica_catalog.specs.Lookup.{is_registered}
use Rattle.plan_request.specs.declared.request.Cleanup.{Cleanup}
use Rattle.plan_request.specs.declared.request.Cleanup.TheVariants.{None as NoCleanup, Inplace, Constraint}
use Rattle.plan_core.specs.Numbers.{least, or_else}
use Rattle.transfer_refiner.specs.declared.fault.RefineFault.{RefineFault}
use Rattle.transfer_refiner.specs.declared.fault.RefineFault.TheVariants.{NoReplica, NoSize, TooMany}
use Rattle.transfer_refiner.specs.Draft.{Draft, part_uses, part_makes, draft_file_name, declared_of}
use Rattle.transfer_refiner.specs.Tasks.{count_files, kinds_of, pairs_of}

-- ---- faults

-- a kept job reads the file; makes it
abbrev pub used : Draft → ℕ → Bool
used d f = list_any (λ (js : List JobId). part_uses d js f) d.parts

abbrev pub is_made : Draft → ℕ → Bool
is_made d f = list_any (λ (js : List JobId). part_makes d js f) d.parts

-- a kept job reads the file, no kept job makes it, and it isn't registered
unfoldable pub lacks_replica : Draft → ℕ → Bool
lacks_replica d f = used d f && (not (is_made d f) && not (is_registered d.replicas (draft_file_name d f)))

-- a task moves or writes the file, and it has no declared size
unfoldable pub lacks_size : Draft → ℕ → Bool
lacks_size d f = (used d f || (is_made d f || is_requested d.workflow f)) && not (is_some (declared_of d f))

-- how many Cleans a strategy adds to so many pairs
abbrev pub count_cleans : Cleanup → ℕ → ℕ
count_cleans NoCleanup n = 0
count_cleans Inplace n = n
count_cleans Constraint n = n

-- how many tasks there are with the Cleans that are added later
unfoldable pub count_all : Draft → ℕ
count_all d = length (kinds_of d) + count_cleans d.request.cleanup (length (pairs_of d))

abbrev pub too_many : ℕ → ℕ → Option RefineFault
too_many count limit = if nat_lt limit count then Some (TooMany count limit) else None

-- the first fault, in their order
unfoldable pub first_fault : Draft → ℕ → Option RefineFault
first_fault d limit =
    or_else (option_map (λ f. NoReplica (draft_file_name d f)) (least (count_files d) (lacks_replica d)))
    (or_else (option_map (λ f. NoSize (draft_file_name d f)) (least (count_files d) (lacks_size d)))
    (too_many (count_all d) limit))
