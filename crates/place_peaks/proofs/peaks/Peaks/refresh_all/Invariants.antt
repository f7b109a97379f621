use Rattle.std.proofs.Common.{◌≡◌, take, true}
use Rattle.plan_core.specs.Numbers.{has}
use Rattle.place_peaks.specs.Peaks.{line_of}
use Rattle.place_peaks.specs.Ready.{HasGroups, IsIndexedBut, but_some, with_ready}
use Rattle.place_peaks.proofs.peaks.Peaks.refresh_all.Given as goal

abbrev pub invariant-loop-k : goal.invariant-loop-k
invariant-loop-k l = record {
  same : l.self ≡ with_ready l.initial.self l.self.ready;
  groups : HasGroups l.plan l.self;
  indexed : IsIndexedBut l.plan l.self (but_some (λ t. true) (has (take l.k (line_of l.initial.self))));
}
