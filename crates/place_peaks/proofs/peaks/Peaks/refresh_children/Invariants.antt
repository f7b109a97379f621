use Rattle.std.proofs.Common.{◌≡◌, ℕ, Bool, take}
use Rattle.plan_core.specs.Numbers.{has}
use Rattle.place_peaks.specs.Ready.{HasGroups, IsIndexedBut, but_some, with_ready}
use Rattle.place_peaks.proofs.peaks.Peaks.refresh_children.Given as goal

abbrev pub invariant-loop-i : goal.invariant-loop-i
invariant-loop-i l = record {
  same : l.self ≡ with_ready l.initial.self l.self.ready;
  groups : HasGroups l.plan l.self;
  indexed : (off : ℕ → Bool) → IsIndexedBut l.plan l.initial.self off → IsIndexedBut l.plan l.self (but_some off (has (take l.i l.children)));
}
