use Rattle.std.proofs.Common.{◌≤◌, ℕ, List, get_or, sym, subst}
use Rattle.group_index.proofs.SeatingLemmas.{used_short}
use Rattle.group_index.proofs.index.GroupIndex.new.Goals as goal

pub trees_of-requires : goal.trees_of-requires
trees_of-requires c = λ g. subst (λ (xs : List ℕ). get_or xs g 0 ≤ 200000) (sym c.as_slice.ensures.value) (used_short c.args.groups.now c.seat_all.new.seats.items c.seat_all.new.used.items 200000 g c.requires.few c.seat_all.ensures.seated)
