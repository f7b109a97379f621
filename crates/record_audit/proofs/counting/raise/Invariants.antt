use Rattle.std.proofs.Common.{◌≡◌, ◌≤◌, ◌<◌, ℕ, get_or, length, max}
use Rattle.storage_simulation.specs.code.Standings.{at_in}
use Rattle.record_audit.proofs.counting.raise.Given as goal

abbrev pub invariant-loop-site : goal.invariant-loop-site
invariant-loop-site l = record {
  long : length l.peaks.items ≡ length l.initial.peaks.items;
  raised : (q : ℕ) → q < l.site → get_or l.peaks.items q 0 ≡ max (get_or l.initial.peaks.items q 0) (at_in 0 l.holdings.sums.items q);
  others : (q : ℕ) → l.site ≤ q → get_or l.peaks.items q 0 ≡ get_or l.initial.peaks.items q 0;
}
