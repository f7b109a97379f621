use Rattle.std.proofs.Common.{length}
use Rattle.group_index.specs.Index.{IsEnd}
use Rattle.place_peaks.specs.Choosing.{IsFirst}
use Rattle.place_peaks.specs.Peaks.{line_of}
use Rattle.place_peaks.proofs.SearchingLemmas.{Passed, room_before}
use Rattle.place_peaks.proofs.peaks.Peaks.first_of_group.Given as goal

abbrev pub invariant-loop-k : goal.invariant-loop-k
invariant-loop-k l = record {
  end : IsEnd l.self.ready.index l.group l.end;
  first : IsFirst l.plan l.self (Passed l.self l.group l.end) l.first;
}

abbrev pub decreases-loop-k : goal.decreases-loop-k
decreases-loop-k l = room_before (length (line_of l.self)) l.end
