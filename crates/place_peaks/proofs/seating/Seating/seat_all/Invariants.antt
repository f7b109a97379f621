use Rattle.std.proofs.Common.{◌≡◌}
use Rattle.plan_core.specs.Words.{task_numbers}
use Rattle.place_peaks.specs.Places.{AreSeats}
use Rattle.place_peaks.proofs.seating.Seating.seat_all.Given as goal

abbrev pub invariant-loop-k : goal.invariant-loop-k
invariant-loop-k l = record {
  same : l.self ≡ record l.initial.self { seats = l.self.seats; widths = l.self.widths };
  seated : AreSeats l.plan (task_numbers l.initial.self.line.items) l.self.seats.items l.self.widths.items l.k;
}
