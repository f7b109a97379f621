-- What a command's objects show at a moment: the documents, and the work with one member of the crew.
use Rattle.std.specs.Prelude.{Option}
use Rattle.values.specs.FileMap.{Files}
use Rattle.outside.specs.declared.counts.Counts.{Counts}

-- the documents, where they are told, and how often they were asked for
pub record DocsMoment : Type 0 where
  pub told : Option Files
  pub counts : Counts
