use Rattle.std.proofs.Common.{◌≡◌, drop}
use Rattle.workflow_core.specs.declared.workflow.Transformation.{Transformation}
use Rattle.transformation_catalog.specs.Lookup.{place_of}
use Rattle.transformation_catalog.proofs.LookupLemmas.{place_in}
use Rattle.transformation_catalog.proofs.lookup.places_of.Given as goal

abbrev pub invariant-loop-place : goal.invariant-loop-place
invariant-loop-place l = (t : Transformation) → place_in l.places.entries l.place (drop l.place l.entries) t ≡ place_of l.entries t
