use Rattle.std.proofs.Common.{◌≡◌, ◌≤◌, ◌<◌, ◌-◌, ℕ, true, false, length}
use Rattle.storage_simulation.specs.code.Index.{is_up_to, spot_at}
use Rattle.storage_simulation.proofs.keying.end_of.Given as goal

abbrev pub invariant-loop-low : goal.invariant-loop-low
invariant-loop-low l = (l.low ≤ l.high) × (l.high ≤ length l.spots) × ((j : ℕ) → j < l.low → is_up_to l.at l.room (spot_at l.spots j) ≡ true) × ((j : ℕ) → l.high ≤ j → j < length l.spots → is_up_to l.at l.room (spot_at l.spots j) ≡ false)

abbrev pub decreases-loop-low : goal.decreases-loop-low
decreases-loop-low l = l.high - l.low
