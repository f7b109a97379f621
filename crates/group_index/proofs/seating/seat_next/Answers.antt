use Rattle.std.proofs.Common.{get_or, ◌∙◌, arith}
use Rattle.std.proofs.lemmas.List.{get_or_default}
use Rattle.group_index.proofs.SeatingLemmas.{few_used, seated_next}
use Rattle.group_index.proofs.seating.seat_next.Goals as goal

pub overflow_add-seat : goal.overflow_add-seat
overflow_add-seat c =
    let in_used = c.requires.in_groups c.args.k c.requires.within in
    let few = few_used c.args.groups.now c.args.seats.now.items c.args.used.now.items c.args.k (get_or c.args.groups.now c.args.k 0) (let l = c.requires.within in omega (arith, l)) in_used c.requires.so_far in
    let at = c.index-seat.ensures ∙ get_or_default c.args.used.now.items (get_or c.args.groups.now c.args.k 0) c.index-seat.result.now 0 in_used in
    omega (arith, few, at, c.requires.few)

pub returns-clause-next : goal.returns-clause-next
returns-clause-next c =
    let in_used = c.requires.in_groups c.args.k c.requires.within in
    let at = c.index-seat.ensures ∙ get_or_default c.args.used.now.items (get_or c.args.groups.now c.args.k 0) c.index-seat.result.now 0 in_used in
    seated_next c.args.groups.now c.args.seats.now.items c.args.used.now.items c.args.k c.index-seat.result.now c.requires.within c.requires.long in_used at c.requires.so_far
