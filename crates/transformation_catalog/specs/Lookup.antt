-- Where a catalogue has a transformation.
use Rattle.std.specs.Prelude.{ℕ, Bool, List, Option, position}
use Rattle.workflow_core.specs.declared.workflow.Transformation.{Transformation}
use Rattle.transformation_catalog.specs.declared.catalog.TransformationEntry.{TransformationEntry}
use Rattle.transformation_catalog.specs.Catalog.{same_transformation}

-- the entry is the transformation's
abbrev pub is_for_transformation : Transformation → TransformationEntry → Bool
is_for_transformation t e = same_transformation t e.transformation

-- the place of the first entry that is
abbrev pub place_of : List TransformationEntry → Transformation → Option ℕ
place_of es t = position (is_for_transformation t) es
