use Rattle.std.proofs.Common.{◌≡◌, drop}
use Rattle.std.specs.Prelude.{filter, slice_get}
use Rattle.place_peaks.specs.Peaks.{left_of, line_of}
use Rattle.place_peaks.proofs.peaks.Peaks.left_task.Given as goal

abbrev pub invariant-loop-position : goal.invariant-loop-position
invariant-loop-position l = record {
  behind : slice_get (filter (left_of l.self) (line_of l.self)) l.k ≡ slice_get (filter (left_of l.self) (drop l.position (line_of l.self))) l.before;
}
