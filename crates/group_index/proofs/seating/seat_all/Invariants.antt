use Rattle.std.proofs.Common.{◌≡◌, length}
use Rattle.group_index.specs.Index.{AreSeated}
use Rattle.group_index.proofs.seating.seat_all.Given as goal

abbrev pub invariant-loop-k : goal.invariant-loop-k
invariant-loop-k l = record {
  seats_long : length l.seats.items ≡ length l.initial.seats.items;
  used_long : length l.used.items ≡ length l.initial.used.items;
  seated : AreSeated l.groups l.seats.items l.used.items l.k;
}
