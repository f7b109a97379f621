-- A file of the working folder that is being written.
use Rattle.std.specs.Prelude.{ℕ, List, Option, None, Result, Ok, Err}
use Rattle.std.specs.Io.KnownBytes.{Appends, Keeps}
use Rattle.outside.specs.code.Parts.{DraftState}
use Rattle.outside.specs.declared.host.HostFault.{HostFault}
use Rattle.outside.specs.declared.host.HostFault.TheVariants.{Failed}

-- a draft that was just made, with this limit
abbrev pub just_made : ℕ → DraftState
just_made limit = record { told = None; size = 0; limit = limit; faults = 0 }

-- A piece that was written stands at the end of its file, whose bytes are these, where they are known. A write that failed
-- may have left a part of it, and one that is refused leaves none.
abbrev pub Writes : Option (List ℕ) → Option (List ℕ) → List ℕ → Result (Unit {0}) HostFault → Type 0
Writes before after piece (Ok u) = Appends before after piece
Writes before after piece (Err Failed) = Unit {0}
Writes before after piece (Err _) = Keeps before after
