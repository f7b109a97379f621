use Rattle.std.proofs.Common.{◌-◌, ap, length, arith}
use Rattle.place_peaks.proofs.ValuesLemmas.{front_long}
use Rattle.place_peaks.proofs.tree.sweep.Goals as goal

pub take_out-requires : goal.take_out-requires
take_out-requires c = let e = ap length c.lower.ensures in let f = front_long c.args.seat (λ n. n - c.args.frees) c.args.tree.now in omega (arith, c.requires.seat, e, f)
