-- The plan of a draft.
use Rattle.std.specs.Prelude.{◌≡◌, ℕ, ◌<◌, ◌||◌, map}
use Rattle.plan_core.specs.declared.plan.Plan.{Plan}
use Rattle.plan_core.specs.declared.plan.Task.{Task}
use Rattle.plan_core.specs.Numbers.{below}
use Rattle.plan_core.specs.Words.{reads, writes, parents, count_tasks, count_pairs}
use Rattle.plan_core.specs.Kinds.{reads_pair, writes_pair, waits_for}
use Rattle.transfer_refiner.specs.Draft.{Draft}
use Rattle.transfer_refiner.specs.Tasks.{kinds_of, pairs_of, planned_site, jobs_of, plan_files, comes_after}

-- Its tables; its pairs and kinds of tasks, in order; and for each task the pairs that it reads and writes and the tasks for which it waits, rising.
pub record IsRefined (d : Draft) (p : Plan) : Type 0 where
  pub workflow : p.workflow ≡ d.workflow.name
  pub policy : p.policy ≡ d.request.policy
  pub sites : p.sites ≡ map planned_site d.request.execute
  pub files : p.files ≡ plan_files d
  pub jobs : p.jobs ≡ jobs_of d.request.tools d.workflow.jobs d.sites
  pub pairs : p.pairs ≡ pairs_of d
  pub kinds : map (λ (t : Task). t.kind) p.tasks ≡ kinds_of d
  pub reads : (t : ℕ) → t < count_tasks p → reads p t ≡ below (count_pairs p) (reads_pair p t)
  pub writes : (t : ℕ) → t < count_tasks p → writes p t ≡ below (count_pairs p) (writes_pair p t)
  pub parents : (t : ℕ) → t < count_tasks p
      → parents p t ≡ below (count_tasks p) (λ u. waits_for p t u || comes_after d t u)
