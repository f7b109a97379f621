use Rattle.std.proofs.Common.{◌≡◌}
use Rattle.outside.specs.code.Counts.{IsLater}
use Rattle.lease_book.specs.Book.{state_at}
use Rattle.site_yard.specs.code.Failures.{AreMore}
use Rattle.site_yard.specs.code.Reopening.{AreRecordedBelow, measures_below}
use Rattle.site_yard.proofs.reopening.check_pairs.Given as goal

abbrev pub invariant-loop-k : goal.invariant-loop-k
invariant-loop-k g l =
    (g.H.Host.told l.host ≡ g.H.Host.told l.initial.host) × (g.H.Host.marked l.host ≡ g.H.Host.marked l.initial.host)
    × IsLater (g.H.Host.counts l.initial.host) (g.H.Host.counts l.host)
    × AreRecordedBelow l.plan (state_at l.book).held (g.H.Host.told l.initial.host) l.k
    × AreMore (measures_below (state_at l.book).held l.k) 0 0 (g.H.Host.counts l.initial.host) (g.H.Host.counts l.host)
