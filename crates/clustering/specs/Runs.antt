-- Groups of jobs, cut into runs.
use Rattle.std.specs.Prelude.{ℕ, zero, suc, ◌+◌, ◌/◌, ◌%◌, ◌-◌, ◌&&◌, Bool, if◌then◌else◌, List, [], ◌∷◌, length, min, nat_eq, nat_lt, nat_le, unwrap_or, option_map}
use Rattle.std.specs.List.{list_any, position_or_len}
use Rattle.values.specs.declared.numbers.JobId.{JobId}
use Rattle.clustering.specs.declared.numbers.Numbers.{Numbers}
use Rattle.clustering.specs.Basis.{ClusteringInput, group_numbers, same_group}
use Rattle.clustering.specs.Gathering.{gathered}

-- How many jobs are in run r of a group of q jobs. By num there are min num q runs whose lengths differ by at most one, the longer ones
-- first; else by size each has so many, and the last one what is left; else a job is a run.
abbrev pub run_length : Numbers → ℕ → ℕ → ℕ
run_length n q r = unwrap_or (option_map (λ m. q / min m q + (if nat_lt r (q % min m q) then 1 else 0)) n.num)
    (unwrap_or n.size 1)

-- the run of the job so many places on, from run r of which so many jobs are left
abbrev pub run_from : Numbers → ℕ → ℕ → ℕ → ℕ → ℕ
run_from n q r left zero = r
run_from n q r left (suc p) = if nat_le left 1 then run_from n q (suc r) (run_length n q (suc r)) p
    else run_from n q r (left - 1) p

-- the run of the job at place p
abbrev pub run_at : Numbers → ℕ → ℕ → ℕ
run_at n q p = run_from n q 0 (run_length n q 0) p

abbrev pub is_job : JobId → JobId → Bool
is_job j i = nat_eq i.0 j.0

-- the run of a job in its group
abbrev pub run_in : Numbers → List JobId → JobId → ℕ
run_in n group j = run_at n (length group) (position_or_len (is_job j) group)

abbrev pub run_among : ClusteringInput → List (List JobId) → JobId → ℕ
run_among c [] j = 0
run_among c (group ∷ groups) j = if list_any (is_job j) group then run_in (group_numbers c group) group j
    else run_among c groups j

abbrev pub run_number : ClusteringInput → List JobId → JobId → ℕ
run_number c jobs j = run_among c (gathered (same_group c) jobs) j

-- two jobs are in one run of one group
abbrev pub same_run : ClusteringInput → List JobId → JobId → JobId → Bool
same_run c jobs i j = same_group c i j && nat_eq (run_number c jobs i) (run_number c jobs j)

-- the runs of some jobs, in order of their first jobs
unfoldable pub runs_of : ClusteringInput → List JobId → List (List JobId)
runs_of c jobs = gathered (same_run c jobs) jobs
