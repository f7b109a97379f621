use Rattle.std.proofs.Common.{◌≡◌, ◌<◌, ℕ, [], length, get_or}
use Rattle.storage_simulation.specs.Goods.{places}
use Rattle.storage_simulation.specs.code.Ordering.{progress}
use Rattle.storage_simulation.specs.Ordering.{size}
use Rattle.storage_simulation.specs.Usage.{usage}
use Rattle.storage_simulation.proofs.resetting.reset_used.Given as goal

abbrev pub invariant-loop-place : goal.invariant-loop-place
invariant-loop-place l = (length l.used.items ≡ places l.plan) × ((k : ℕ) → k < l.place → get_or l.used.items k 0 ≡ usage l.plan (size (progress l.standing)) [] k)
