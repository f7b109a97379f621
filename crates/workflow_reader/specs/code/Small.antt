-- Documents whose declared sizes are small.
use Rattle.std.specs.Prelude.{List}
use Rattle.std.specs.List.{AllByRecursion}
use Rattle.workflow_core.specs.code.WellFormed.{IsSmallSize}
use Rattle.workflow_reader.specs.declared.document.JobEntry.{JobEntry}
use Rattle.workflow_reader.specs.declared.document.Use.{Use}

-- the size that the use states is small, if it states one
abbrev pub IsSmallUse : Use → Type 0
IsSmallUse u = IsSmallSize u.size

-- so is that of each use of each job
abbrev pub AreSmall : List JobEntry → Type 0
AreSmall js = AllByRecursion (λ (j : JobEntry). AllByRecursion IsSmallUse j.uses) js
