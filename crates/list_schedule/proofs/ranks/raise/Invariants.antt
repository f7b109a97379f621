use Rattle.std.proofs.Common.{◌≡◌, ◌≤◌, ◌+◌, ◌^◌, ℕ, max, take}
use Rattle.list_schedule.specs.Ranks.{rank}
use Rattle.list_schedule.specs.code.Tables.{reach}
use Rattle.list_schedule.proofs.ranks.raise.Given as goal

abbrev pub invariant-loop-place : goal.invariant-loop-place
invariant-loop-place l = record {
  each : (a : ℕ) → rank l.ranks a ≡ max (rank l.initial.ranks a) (reach (take l.place l.parents) (take l.place l.moves) l.reached a);
  small : (n : ℕ) → l.reached ≤ n → ((a : ℕ) → rank l.initial.ranks a ≤ n) → (a : ℕ) → rank l.ranks a ≤ n + 2 ^ 64;
}
