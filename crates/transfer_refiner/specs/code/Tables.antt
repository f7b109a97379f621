-- What is looked up of a draft.
use Rattle.std.specs.Prelude.{◌≡◌, ℕ}
use Rattle.workflow_core.specs.Requested.{is_requested}
use Rattle.digraph.specs.code.Digraph.{edge}
use Rattle.plan_core.specs.Numbers.{has, below}
use Rattle.transfer_refiner.specs.declared.tables.Tables.{Tables}
use Rattle.transfer_refiner.specs.Draft.{Draft, stands, draft_sizes}
use Rattle.transfer_refiner.specs.Tasks.{part_of, count_files}

-- what the tables say of the draft: the jobs of each part, the files at each site, those requested, and their sizes
pub record AreTables (d : Draft) (t : Tables) : Type 0 where
  pub held : (c j : ℕ) → edge t.held c j ≡ has (part_of d c) j
  pub stood : (s f : ℕ) → edge t.stood s f ≡ stands d s f
  pub requested : t.requested.items ≡ below (count_files d) (is_requested d.workflow)
  pub sizes : t.sizes.items ≡ draft_sizes d
