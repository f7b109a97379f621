-- Tasks on the way to a plan: first with their reads and writes, then with their parents.
use Rattle.std.specs.Prelude.{◌≡◌, ℕ, zero, suc, ◌<◌, ◌||◌, ◌++◌, Bool, List, [], length, map, Option, Some, slice_get}
use Rattle.plan_core.specs.declared.plan.Pair.{Pair}
use Rattle.plan_core.specs.declared.plan.PlanJob.{PlanJob}
use Rattle.plan_core.specs.declared.plan.Task.{Task}
use Rattle.plan_core.specs.Numbers.{below}
use Rattle.plan_core.specs.Words.{kind_in, reads_in, writes_in, parents_in, pair_numbers}
use Rattle.plan_core.specs.Kinds.{on_pair, kind_reads, kind_writes, task_waits}
use Rattle.transfer_refiner.specs.Draft.{Draft}
use Rattle.transfer_refiner.specs.code.Edges.{Edge, fan}
use Rattle.transfer_refiner.specs.Tasks.{kinds_of, pairs_of, comes_after}

-- the task's lists are those of its kind
pub record IsListed (jobs : List PlanJob) (pairs : List Pair) (t : Task) : Type 0 where
  pub reads : pair_numbers t.reads ≡ below (length pairs)
      (λ q. on_pair (kind_reads jobs (Some t.kind)) (slice_get pairs q))
  pub writes : pair_numbers t.writes ≡ below (length pairs)
      (λ q. on_pair (kind_writes jobs (Some t.kind)) (slice_get pairs q))

-- from each of the first n tasks to the pairs that it writes
unfoldable pub writer_edges : List Task → ℕ → List Edge
writer_edges ts zero = []
writer_edges ts (suc n) = writer_edges ts n ++ fan n (writes_in (slice_get ts n))

-- the same kind, reads and writes
pub record IsSame (old : Option Task) (new : Task) : Type 0 where
  pub kind : Some new.kind ≡ kind_in old
  pub reads : pair_numbers new.reads ≡ reads_in old
  pub writes : pair_numbers new.writes ≡ writes_in old

-- the first n tasks again, with their parents, where `after t u` tells that t comes after u besides
pub record AreParented (after : ℕ → ℕ → Bool) (old new : List Task) (n : ℕ) : Type 0 where
  pub long : length new ≡ n
  pub kind : (u : ℕ) → u < n → kind_in (slice_get new u) ≡ kind_in (slice_get old u)
  pub reads : (u : ℕ) → u < n → reads_in (slice_get new u) ≡ reads_in (slice_get old u)
  pub writes : (u : ℕ) → u < n → writes_in (slice_get new u) ≡ writes_in (slice_get old u)
  pub parents : (u : ℕ) → u < n
      → parents_in (slice_get new u) ≡ below (length old)
      (λ v. task_waits (slice_get old u) (slice_get old v) || after u v)

-- the tasks of a draft, over its table of jobs
pub record AreTasks (d : Draft) (jobs : List PlanJob) (ts : List Task) : Type 0 where
  pub kinds : map (λ (t : Task). t.kind) ts ≡ kinds_of d
  pub reads : (t : ℕ) → t < length ts
      → reads_in (slice_get ts t) ≡ below (length (pairs_of d))
      (λ q. on_pair (kind_reads jobs (kind_in (slice_get ts t))) (slice_get (pairs_of d) q))
  pub writes : (t : ℕ) → t < length ts
      → writes_in (slice_get ts t) ≡ below (length (pairs_of d))
      (λ q. on_pair (kind_writes jobs (kind_in (slice_get ts t))) (slice_get (pairs_of d) q))
  pub parents : (t : ℕ) → t < length ts
      → parents_in (slice_get ts t) ≡ below (length ts)
      (λ u. task_waits (slice_get ts t) (slice_get ts u) || comes_after d t u)
