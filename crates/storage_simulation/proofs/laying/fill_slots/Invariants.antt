use Rattle.std.proofs.Common.{◌≡◌, ◌<◌, ℕ, length, get_or}
use Rattle.storage_simulation.specs.code.Index.{spot_at}
use Rattle.storage_simulation.proofs.laying.fill_slots.Given as goal

abbrev pub invariant-loop-j : goal.invariant-loop-j
invariant-loop-j l = (length l.slots.items ≡ length l.initial.slots.items) × ((i : ℕ) → i < l.j → get_or l.slots.items (spot_at l.spots i).2 0 ≡ i)
