use Rattle.place_peaks.specs.Choosing.{InGroupBelow, IsFirst}
use Rattle.place_peaks.proofs.peaks.Peaks.first_to_begin.Given as goal

abbrev pub invariant-loop-group : goal.invariant-loop-group
invariant-loop-group l = IsFirst l.plan l.self (InGroupBelow l.self l.group) l.first
