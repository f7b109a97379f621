-- A file of the machine that is being read.
use Rattle.std.specs.Prelude.{ℕ, List, take, Option, None, Result, Ok, Err}
use Rattle.std.specs.Io.KnownBytes.{Consumes, Keeps}
use Rattle.outside.specs.code.Parts.{ReadState}
use Rattle.outside.specs.declared.host.HostFault.{HostFault}

-- a reading that was just opened, of a file of this length
abbrev pub just_opened : ℕ → ReadState
just_opened size = record { told = None; given = 0; size = size; faults = 0 }

-- The bytes that a read gives are the next of what remained of its file, where that is known; a failing one took none.
abbrev pub Gives : Option (List ℕ) → Option (List ℕ) → List ℕ → Result ℕ HostFault → Type 0
Gives before after into (Ok n) = Consumes before after (take n into)
Gives before after into (Err e) = Keeps before after
