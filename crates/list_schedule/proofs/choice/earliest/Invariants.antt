use Rattle.std.proofs.Common.{◌+◌, ◌<◌, ◌≤◌, ◌^◌, ℕ, length, slice_index_or}
use Rattle.list_schedule.specs.code.Arrivals.{IsEarliest}
use Rattle.list_schedule.proofs.choice.earliest.Given as goal

abbrev pub invariant-loop-place : goal.invariant-loop-place
invariant-loop-place l = record {
  earliest : IsEarliest l.candidates l.times l.free l.latest l.best l.place;
  small : (n : ℕ) → ((s : ℕ) → slice_index_or l.free s 0 ≤ n) → l.latest.first ≤ n → l.latest.second ≤ n → l.best.finish ≤ n + 2 ^ 64;
  site : l.best.site < length l.free;
}
