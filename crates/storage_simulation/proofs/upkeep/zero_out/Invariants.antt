use Rattle.std.proofs.Common.{◌≡◌, ◌<◌, ℕ, length, get_or}
use Rattle.storage_simulation.proofs.upkeep.zero_out.Given as goal

abbrev pub invariant-loop-place : goal.invariant-loop-place
invariant-loop-place l = (length l.numbers.items ≡ length l.initial.numbers.items) × ((k : ℕ) → k < l.place → get_or l.numbers.items k 0 ≡ 0)
