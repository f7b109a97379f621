-- What is listed of each task, and the graph of tasks and what is listed of them.
use Rattle.std.specs.Prelude.{ℕ, ◌++◌, List, [], ◌∷◌, length, max, Option, Some}
use Rattle.std.specs.List.{flat_map}
use Rattle.digraph.specs.Adjacency.{neighbours}
use Rattle.plan_core.specs.declared.listing.Listing.{Listing}
use Rattle.plan_core.specs.declared.listing.Listing.TheVariants.{Reads, Writes, Cleaned, Delivered, Parents}
use Rattle.plan_core.specs.declared.plan.Plan.{Plan}
use Rattle.plan_core.specs.declared.plan.Task.{Task}
use Rattle.plan_core.specs.declared.plan.TaskKind.{TaskKind}
use Rattle.plan_core.specs.declared.plan.TaskKind.TheVariants.{Transfer, Clean}
use Rattle.plan_core.specs.declared.plan.Target.TheVariants.{Delivery}
use Rattle.plan_core.specs.Words.{reads, writes, parents, kind, reads_in, kind_in}

-- the pair that a Clean is of, and the file that is delivered
abbrev pub cleaned : Option TaskKind → List ℕ
cleaned (Some (Clean q)) = q.0 ∷ []
cleaned _ = []

abbrev pub delivered : Option TaskKind → List ℕ
delivered (Some (Transfer g from Delivery)) = g.0 ∷ []
delivered _ = []

abbrev pub listed : Plan → Listing → ℕ → List ℕ
listed p Reads t = reads p t
listed p Writes t = writes p t
listed p Cleaned t = cleaned (kind p t)
listed p Delivered t = delivered (kind p t)
listed p Parents t = parents p t

-- enough nodes for the tasks, and for what is listed of them
abbrev pub nodes : Plan → ℕ
nodes p = max (length p.tasks) (max (length p.pairs) (length p.files))

-- by pair who writes it and who reads it: for whom a task waits
abbrev pub swept : List (List ℕ) → List (List ℕ) → Option TaskKind → List ℕ
swept writers readers (Some (Clean q)) = neighbours writers q.0 ++ neighbours readers q.0
swept writers readers _ = []

abbrev pub awaited : List (List ℕ) → List (List ℕ) → Option Task → List ℕ
awaited writers readers t = flat_map (neighbours writers) (reads_in t) ++ swept writers readers (kind_in t)
