use Rattle.std.proofs.Common.{ℕ, ◌<◌, ◌≤◌, ◌^◌}
use Rattle.plan_core.specs.Words.{declared}
use Rattle.storage_simulation.specs.Goods.{or_zero}
use Rattle.integration_tests.proofs.storage.are_sizes_small.Given as goal

abbrev pub invariant-loop-file : goal.invariant-loop-file
invariant-loop-file l = (f : ℕ) → f < l.file-index → or_zero (declared l.plan f) ≤ 2 ^ 40
