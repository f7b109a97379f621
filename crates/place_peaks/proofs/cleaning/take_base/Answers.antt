use Rattle.std.proofs.Common.{sym}
use Rattle.place_peaks.proofs.cleaning.take_base.Goals as goal

pub take_at-requires : goal.take_at-requires
take_at-requires c = c.requires c.in-Some.place (sym c.in-Some.ensures)
