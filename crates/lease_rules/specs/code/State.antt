-- Beside `specs/State.antt`: what the code's own contracts say.
use Rattle.std.specs.Prelude.{Bool, true, false}
use Rattle.storage_simulation.specs.declared.standing.Phase.{Phase}
use Rattle.storage_simulation.specs.declared.standing.Phase.TheVariants.{Runs}

abbrev pub runs : Phase → Bool
runs Runs = true
runs _ = false
