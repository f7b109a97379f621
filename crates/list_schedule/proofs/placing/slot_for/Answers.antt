use Rattle.std.proofs.Common.{◌+◌, ◌^◌, arith}
use Rattle.list_schedule.proofs.placing.slot_for.Goals as goal

pub returns-clause-earliest : goal.returns-clause-earliest
returns-clause-earliest c = (c.arrivals_of-arrivals.result, c.arrivals_of-arrivals.ensures.each, c.earliest-slot.ensures.earliest)

pub returns-clause-small : goal.returns-clause-small
returns-clause-small c = λ n all free.
    let first = c.arrivals_of-arrivals.ensures.small n all in
    let order = c.arrivals_of-arrivals.ensures.in_order in
    let end = c.earliest-slot.ensures.small (n + 2 ^ 64) (λ s. let few = free s in omega (arith, few)) first (omega (arith, first, order)) in
    omega (arith, end)
