use Rattle.lease_book.specs.RunState.{state_of}
use Rattle.storage_simulation.specs.code.Bench.{IsFor}
use Rattle.place_peaks.specs.Peaks.{left_of, line_of}
use Rattle.lease_book.specs.Trial.{HasPlace}
use Rattle.lease_book.proofs.FreshLemmas.{FreshLeft}
use Rattle.lease_book.proofs.fresh.first_with_order.Given as goal

abbrev pub invariant-loop-k : goal.invariant-loop-k
invariant-loop-k l = record {
  left : FreshLeft l.plan (state_of l.state) (left_of l.state.peaks) (line_of l.state.peaks) l.left l.k;
  place : HasPlace l.plan l.trial;
  bench : IsFor l.plan l.bench;
}
