use Rattle.std.proofs.Common.{sym, arith}
use Rattle.place_peaks.proofs.cleaning.sweep_at.Goals as goal

pub index_mut-requires : goal.index_mut-requires
index_mut-requires c = let can = c.requires c.in-Some.place (sym c.in-Some.ensures) in omega (arith, can.tree_in, c.args.trees.now.ok)
