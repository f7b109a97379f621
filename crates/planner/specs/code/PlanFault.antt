-- How the faults of documents and graphs are those of planning.
use Rattle.std.specs.Prelude.{◌≡◌, ℕ, List, [], Option, Some, None, slice_get, Result, Ok, Err}
use Rattle.values.specs.declared.select_fault.SelectFault.{SelectFault}
use Rattle.values.specs.declared.select_fault.SelectFault.TheVariants as select
use Rattle.peg_json.specs.declared.fault.TreeFault.{TreeFault}
use Rattle.peg_json.specs.declared.fault.TreeFault.TheVariants as faults
use Rattle.peg_json.specs.declared.read_fault.Counted.TheVariants.{Tasks}
use Rattle.peg_json.specs.declared.read_fault.ReadFault.{ReadFault}
use Rattle.peg_json.specs.declared.read_fault.ReadFault.TheVariants as reads
use Rattle.workflow_core.specs.declared.workflow.Workflow.{Workflow}
use Rattle.dependency_graph.specs.code.Built.{id_of}
use Rattle.dependency_graph.specs.declared.fault.GraphFault.{GraphFault}
use Rattle.dependency_graph.specs.declared.fault.GraphFault.TheVariants as graph
use Rattle.clustering.specs.declared.fault.ClusterFault.{ClusterFault}
use Rattle.clustering.specs.declared.fault.ClusterFault.TheVariants as cluster
use Rattle.plan_core.specs.declared.plan.Plan.{Plan}
use Rattle.plan_core.specs.declared.plan.PlanSite.{PlanSite}
use Rattle.storage_simulation.specs.declared.fitting.Exceeds.{Exceeds}
use Rattle.transfer_refiner.specs.declared.fault.RefineFault.{RefineFault}
use Rattle.transfer_refiner.specs.declared.fault.RefineFault.TheVariants as refine
use Rattle.planner.specs.declared.document.Document.{Document}
use Rattle.planner.specs.declared.plan_fault.PlanFault.{PlanFault}
use Rattle.planner.specs.declared.plan_fault.PlanFault.TheVariants as plan

abbrev pub tree_fault : Document → TreeFault → PlanFault
tree_fault which faults.Memory = plan.Memory
tree_fault which fault = plan.Tree which fault

abbrev pub read_fault : Document → ReadFault → PlanFault
read_fault which (reads.Tree fault) = tree_fault which fault
read_fault which (reads.TooMany counted count limit) = plan.TooMany counted count limit
read_fault which (reads.DuplicateJob id) = plan.DuplicateJob id
read_fault which (reads.DuplicateUse id lfn) = plan.DuplicateUse id lfn
read_fault which (reads.UnknownJob id) = plan.UnknownJob id
read_fault which (reads.DuplicateSite name) = plan.DuplicateSite name
read_fault which (reads.DuplicateTransformation name) = plan.DuplicateTransformation name

abbrev pub graph_fault : GraphFault → PlanFault
graph_fault (graph.TwoProducers lfn one two) = plan.TwoProducers lfn one two
graph_fault (graph.Cycle ids) = plan.Cycle ids
graph_fault graph.Memory = plan.Memory

-- a job is named by its id
abbrev pub select_fault : Workflow → SelectFault → PlanFault
select_fault w (select.NoSite a name) = plan.NoSite (id_of w a.0) name
select_fault w (select.NoTransformation a) = plan.NoTransformation (id_of w a.0)
select_fault w select.Memory = plan.Memory

abbrev pub cluster_fault : ClusterFault → PlanFault
cluster_fault (cluster.BadNumber id key) = plan.BadNumber id key
cluster_fault (cluster.LabelOverSites label one two) = plan.LabelOverSites label one two
cluster_fault (cluster.ClusterCycle ids) = plan.ClusterCycle ids
cluster_fault cluster.Memory = plan.Memory

abbrev pub refine_fault : RefineFault → PlanFault
refine_fault (refine.NoReplica lfn) = plan.NoReplica lfn
refine_fault (refine.NoSize lfn) = plan.NoSize lfn
refine_fault (refine.TooMany count limit) = plan.TooMany Tasks count limit
refine_fault refine.Memory = plan.Memory

-- the name of a site; the output, whose number follows the last site's, has none
abbrev pub name_in : Option PlanSite → List ℕ
name_in None = []
name_in (Some s) = s.name

abbrev pub place_name : Plan → ℕ → List ℕ
place_name p s = name_in (slice_get p.sites s)

abbrev pub exceeds_fault : Plan → Exceeds → PlanFault
exceeds_fault p e = plan.Exceeds (place_name p e.site.0) e.task e.needed e.bound

-- what a document reads as, or its fault
abbrev pub answered : {A : Type 0} → Document → Result A ReadFault → Result A PlanFault
answered which (Ok x) = Ok x
answered which (Err fault) = Err (read_fault which fault)

-- A fault that was returned is the one that is given. Want of memory is free.
abbrev pub FailsPlan : {Y : Type 0} → PlanFault → Result Y PlanFault → Type 0
FailsPlan plan.Memory given = Unit {0}
FailsPlan fault given = given ≡ Err fault

-- What was returned, seen by view, is what is given, unless memory ran out.
abbrev pub GivesPlan : {X Y : Type 0} → (X → Y) → Result X PlanFault → Result Y PlanFault → Type 0
GivesPlan view (Ok x) given = given ≡ Ok (view x)
GivesPlan view (Err fault) given = FailsPlan fault given
