-- Lists of edges: who holds a job, where files stand, which parts follow each other.
use Rattle.std.specs.Prelude.{ℕ, zero, suc, ◌==◌, not, cond, List, [], ◌∷◌, ◌++◌, map}
use Rattle.std.specs.List.{flat_map}
use Rattle.values.specs.declared.numbers.JobId.{JobId}
use Rattle.workflow_core.specs.declared.workflow.Workflow.{Workflow}
use Rattle.dependency_graph.specs.Edges.{read_by, written_by}
use Rattle.transfer_refiner.specs.Draft.{Draft, site_of}
use Rattle.transfer_refiner.specs.Tasks.{part_of}

abbrev pub Edge : Type 0
Edge = ℕ × ℕ

-- from a number to each of a list
abbrev pub fan : ℕ → List ℕ → List Edge
fan a bs = map (λ b. (a, b)) bs

-- from each of the first n parts to each of its jobs
unfoldable pub held_edges : Draft → ℕ → List Edge
held_edges d zero = []
held_edges d (suc n) = held_edges d n ++ fan n (part_of d n)

-- from a site to each file that these jobs read or make
abbrev pub job_edges : Workflow → ℕ → JobId → List Edge
job_edges w s j = fan s (read_by w j.0) ++ fan s (written_by w j.0)

abbrev pub part_edges : Draft → List JobId → List Edge
part_edges d js = flat_map (job_edges d.workflow (site_of d js)) js

abbrev pub stood_edges : Draft → List Edge
stood_edges d = flat_map (part_edges d) d.parts

-- from u to those of a list that are not u
abbrev pub fan_apart : List ℕ → ℕ → List Edge
fan_apart [] u = []
fan_apart (t ∷ ts) u = cond (not (t == u)) ((u, t) ∷ []) [] ++ fan_apart ts u

abbrev pub all_apart : List ℕ → List ℕ → List Edge
all_apart us ts = flat_map (fan_apart ts) us
