use Rattle.std.proofs.Common.{◌≡◌, length, map}
use Rattle.outside.specs.code.Counts.{IsLater}
use Rattle.outside.specs.code.Parts.{draft_faults}
use Rattle.site_yard.proofs.ReturnLemmas.{IsGivingBack}
use Rattle.site_yard.proofs.returning.discard_all.Given as goal

abbrev pub invariant-loop-draft : goal.invariant-loop-draft
invariant-loop-draft g l =
    (g.H.Host.told l.host ≡ g.H.Host.told l.fn.host)
    × (g.H.Host.marked l.host ≡ g.H.Host.marked l.fn.host)
    × IsGivingBack 0 (draft_faults (map g.H.Draft.WritePart.state l.fn.drafts.items)) (draft_faults (map g.H.Draft.WritePart.state l.drafts.items)) (g.H.Host.counts l.fn.host) (g.H.Host.counts l.host)
    × IsLater (g.H.Host.counts l.fn.host) (g.H.Host.counts l.host)

abbrev pub decreases-loop-draft : goal.decreases-loop-draft
decreases-loop-draft g l = length l.drafts.items
