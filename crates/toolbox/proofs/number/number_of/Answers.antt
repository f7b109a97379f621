use Rattle.std.proofs.Common.{◌<◌, ◌^◌, arith}
use Rattle.toolbox.proofs.NumberLemmas.{below_more}
use Rattle.toolbox.proofs.number.number_of.Goals as goal

pub overflow_mul-number : goal.overflow_mul-number
overflow_mul-number c =
    let small : c.loop-byte.number < 10 ^ 17 = below_more _ c.loop-byte.byte-index 17 c.loop-byte.invariant.1 (omega arith) in
    omega arith

pub overflow_add-number : goal.overflow_add-number
overflow_add-number c =
    let small : c.loop-byte.number < 10 ^ 17 = below_more _ c.loop-byte.byte-index 17 c.loop-byte.invariant.1 (omega arith) in
    omega arith

pub returns-clause-small : goal.returns-clause-small
returns-clause-small c = below_more _ c.loop-byte.byte-index 18 c.loop-byte.invariant.1 (omega arith)
