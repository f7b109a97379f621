use Rattle.std.proofs.Common.{◌≡◌, ◌+◌, ◌≤◌, ◌^◌, ℕ, take}
use Rattle.list_schedule.specs.code.Arrivals.{latest_at, finish_of, elsewhere}
use Rattle.list_schedule.proofs.arrivals.arrivals_of.Given as goal

abbrev pub invariant-loop-place : goal.invariant-loop-place
invariant-loop-place l = record {
  each : (s : ℕ) → latest_at l.latest s ≡ elsewhere l.kept l.sites l.finishes s (take l.place l.jobs) (take l.place l.moves);
  small : (n : ℕ) → ((a : ℕ) → finish_of l.finishes a ≤ n) → l.latest.first ≤ n + 2 ^ 64;
  in_order : l.latest.second ≤ l.latest.first;
}
