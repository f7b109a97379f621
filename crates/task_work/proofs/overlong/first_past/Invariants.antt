use Rattle.std.proofs.Common.{take}
use Rattle.plan_core.specs.Words.{pair_numbers}
use Rattle.lease_rules.specs.code.Storing.{AreWithin}
use Rattle.task_work.proofs.overlong.first_past.Given as goal

abbrev pub invariant-loop-k : goal.invariant-loop-k
invariant-loop-k l = AreWithin l.plan (pair_numbers (take l.k l.pairs)) (take l.k l.outputs)
