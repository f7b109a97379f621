use Rattle.std.proofs.Common.{◌≡◌, length, map}
use Rattle.outside.specs.code.Counts.{IsLater}
use Rattle.outside.specs.code.Parts.{reading_faults}
use Rattle.site_yard.proofs.ReturnLemmas.{IsGivingBack}
use Rattle.site_yard.proofs.returning.finish_all.Given as goal

abbrev pub invariant-loop-reading : goal.invariant-loop-reading
invariant-loop-reading g l =
    (g.H.Host.told l.host ≡ g.H.Host.told l.fn.host)
    × (g.H.Host.marked l.host ≡ g.H.Host.marked l.fn.host)
    × IsGivingBack 0 (reading_faults (map g.H.Reading.ReadPart.state l.fn.readings.items)) (reading_faults (map g.H.Reading.ReadPart.state l.readings.items)) (g.H.Host.counts l.fn.host) (g.H.Host.counts l.host)
    × IsLater (g.H.Host.counts l.fn.host) (g.H.Host.counts l.host)

abbrev pub decreases-loop-reading : goal.decreases-loop-reading
decreases-loop-reading g l = length l.readings.items
