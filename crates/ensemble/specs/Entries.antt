-- Entries of a member's catalogues, in the joint of all members.
use Rattle.std.specs.Prelude.{ℕ, List}
use Rattle.replica_catalog.specs.declared.catalog.Replica.{Replica}
use Rattle.transformation_catalog.specs.declared.catalog.TransformationEntry.{TransformationEntry}
use Rattle.ensemble.specs.Prefix.{prefixed, transformation_of}

abbrev pub replica_of : List ℕ → Replica → Replica
replica_of member e = record e { lfn = prefixed member e.lfn }

abbrev pub entry_of : List ℕ → TransformationEntry → TransformationEntry
entry_of member e = record e { transformation = transformation_of member e.transformation }
