use Rattle.std.proofs.Common.{◌≡◌}
use Rattle.outside.specs.code.Counts.{IsLater}
use Rattle.site_yard.specs.code.Failures.{AreMore}
use Rattle.site_yard.specs.code.Opening.{AreUnusedBelow, looks_below}
use Rattle.site_yard.proofs.opening.look.Given as goal

abbrev pub invariant-loop-k : goal.invariant-loop-k
invariant-loop-k g l =
    (g.H.Host.told l.host ≡ g.H.Host.told l.initial.host) × (g.H.Host.marked l.host ≡ g.H.Host.marked l.initial.host)
    × IsLater (g.H.Host.counts l.initial.host) (g.H.Host.counts l.host)
    × AreUnusedBelow l.plan (g.H.Host.told l.initial.host) l.k
    × AreMore (looks_below l.plan l.k) 0 0 (g.H.Host.counts l.initial.host) (g.H.Host.counts l.host)
