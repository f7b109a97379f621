use Rattle.std.proofs.Common.{sym, ◌∙◌, arith}
use Rattle.std.proofs.lemmas.List.{get_or_default}
use Rattle.place_peaks.proofs.granting.add_base.Goals as goal

pub index_mut-requires : goal.index_mut-requires
index_mut-requires c = let can = c.requires c.in-Some.place (sym c.in-Some.ensures) in omega (arith, can.base_in, c.args.base.now.ok)

pub overflow_add-index_mut : goal.overflow_add-index_mut
overflow_add-index_mut c =
    let can = c.requires c.in-Some.place (sym c.in-Some.ensures) in
    let same = c.index_mut.ensures.value ∙ get_or_default c.args.base.now.items c.in-Some.place c.index_mut.result.now 0 can.base_in in
    omega (arith, can.base_small, same)
