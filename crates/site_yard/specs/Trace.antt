-- The operations that a record names, by the sizes that stand in it: one for each file that arrived, was published or was removed.
use Rattle.std.specs.Prelude.{ℕ, List, [], ◌∷◌, ◌++◌, Option, Some}
use Rattle.outside.specs.declared.operation.Operation.{Operation}
use Rattle.outside.specs.declared.operation.Operation.TheVariants.{Publish, Deliver, Remove}
use Rattle.plan_core.specs.declared.plan.Plan.{Plan}
use Rattle.plan_core.specs.declared.plan.TaskKind.{TaskKind}
use Rattle.plan_core.specs.declared.plan.TaskKind.TheVariants.{Transfer, Clean as CleanTask}
use Rattle.plan_core.specs.declared.plan.Target.TheVariants.{Site, Delivery}
use Rattle.plan_core.specs.Words.{kind, writes}
use Rattle.plan_core.specs.Names.{site_name, file_name, pair_site_name, pair_file_name}
use Rattle.run_record.specs.Events.{Event, Grant, Arrive, End, Clean, Fail, Again, Regrant}

-- the first of these pairs, published at these sizes
abbrev pub published_at : Plan → List ℕ → List ℕ → List Operation
published_at p [] ns = []
published_at p (q ∷ qs) [] = []
published_at p (q ∷ qs) (n ∷ ns) = Publish (pair_site_name p q) (pair_file_name p q) n ∷ published_at p qs ns

abbrev pub arrived_at : Plan → Option TaskKind → ℕ → List Operation
arrived_at p (Some (Transfer f from (Site s))) n = Publish (site_name p s.0) (file_name p f.0) n ∷ []
arrived_at p (Some (Transfer f from Delivery)) n = Deliver (file_name p f.0) n ∷ []
arrived_at p _ n = []

abbrev pub removed : Plan → Option TaskKind → List Operation
removed p (Some (CleanTask q)) = Remove (pair_site_name p q.0) (pair_file_name p q.0) ∷ []
removed p _ = []

abbrev pub operations_of : Plan → Event → List Operation
operations_of p (Grant w t) = []
operations_of p (Regrant w t) = []
operations_of p (Arrive w t n) = arrived_at p (kind p t) n
operations_of p (End w t ns) = published_at p (writes p t) ns
operations_of p (Clean w t) = removed p (kind p t)
operations_of p (Fail w t cause ns) = published_at p (writes p t) ns
operations_of p (Again w t cause ns) = published_at p (writes p t) ns

abbrev pub trace_of : Plan → List Event → List Operation
trace_of p [] = []
trace_of p (e ∷ r) = operations_of p e ++ trace_of p r
