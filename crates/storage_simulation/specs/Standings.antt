-- A standing by number: what is held of each good, and how far each task is.
use Rattle.std.specs.Prelude.{ℕ, Bool, true, false}
use Rattle.storage_simulation.specs.declared.standing.Held.{Held}
use Rattle.storage_simulation.specs.declared.standing.Held.TheVariants.{Nothing, Stored, Reserved}
use Rattle.storage_simulation.specs.declared.standing.Phase.{Phase}
use Rattle.storage_simulation.specs.declared.standing.Phase.TheVariants.{Waits}

abbrev pub held_size : Held → ℕ
held_size Nothing = 0
held_size (Stored n) = n
held_size (Reserved n) = n

abbrev pub sizes : (ℕ → Held) → ℕ → ℕ
sizes held g = held_size (held g)

abbrev pub waits : Phase → Bool
waits Waits = true
waits _ = false
