-- A plan with a Clean for each of its pairs.
use Rattle.std.specs.Prelude.{ℕ, ◌++◌, Bool, true, List, [], map}
use Rattle.values.specs.declared.numbers.TaskId.{TaskId}
use Rattle.plan_request.specs.declared.request.Cleanup.{Cleanup}
use Rattle.plan_request.specs.declared.request.Cleanup.TheVariants.{None, Inplace, Constraint}
use Rattle.plan_core.specs.declared.plan.Plan.{Plan}
use Rattle.plan_core.specs.declared.plan.Task.{Task}
use Rattle.plan_core.specs.declared.plan.TaskKind.TheVariants.{Clean}
use Rattle.plan_core.specs.Numbers.{below, has}
use Rattle.plan_core.specs.Words.{count_pairs, count_tasks, reads, writes}

-- what a task writes and reads
abbrev pub touched : Plan → ℕ → List ℕ
touched p t = writes p t ++ reads p t

-- a task writes or reads a pair
abbrev pub touches : Plan → ℕ → ℕ → Bool
touches p q t = has (touched p t) q

abbrev pub task : ℕ → TaskId
task t = record { 0 = t }

-- the Clean of a pair, after its writer and all its readers; a Clean reads and writes nothing
abbrev pub clean_of : Plan → ℕ → Task
clean_of p q = record {
  kind = Clean (record { 0 = q });
  reads = [];
  writes = [];
  parents = map task (below (count_tasks p) (touches p q));
}

-- one Clean for each pair, in the order of the pairs
abbrev pub cleans_of : Plan → List Task
cleans_of p = map (clean_of p) (below (count_pairs p) (λ q. true))

abbrev pub with_cleans : Plan → Plan
with_cleans p = record p { tasks = p.tasks ++ cleans_of p }

-- the plan with the Cleans that a strategy adds
abbrev pub with_cleanup : Cleanup → Plan → Plan
with_cleanup None p = p
with_cleanup Inplace p = with_cleans p
with_cleanup Constraint p = with_cleans p
