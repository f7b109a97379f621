use Rattle.std.proofs.Common.{◌≡◌, drop}
use Rattle.peg_json.specs.Elements.{first_repeat}
use Rattle.transformation_catalog.specs.Catalog.{same_transformation}
use Rattle.transformation_catalog.specs.Catalog.{transformations_of, repeat_in}
use Rattle.transformation_catalog.proofs.duplicates.check_listed_once.Given as goal

abbrev pub invariant-loop-entry : goal.invariant-loop-entry
invariant-loop-entry l = first_repeat same_transformation l.known.keys (transformations_of (drop l.entry-index l.entries)) ≡ repeat_in l.entries
