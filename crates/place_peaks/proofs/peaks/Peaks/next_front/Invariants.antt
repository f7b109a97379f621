use Rattle.std.proofs.Common.{◌≡◌, [], take}
use Rattle.std.specs.Prelude.{filter}
use Rattle.place_peaks.specs.Peaks.{HasPassed, left_of, line_of}
use Rattle.place_peaks.proofs.peaks.Peaks.next_front.Given as goal

abbrev pub invariant-loop-k : goal.invariant-loop-k
invariant-loop-k l = record {
  passed : HasPassed l.self → filter (left_of l.self) (take l.k (line_of l.self)) ≡ [];
}
