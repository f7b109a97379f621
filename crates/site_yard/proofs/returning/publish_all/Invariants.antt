use Rattle.std.proofs.Common.{◌≡◌, ◌≤◌, length, map, take, drop}
use Rattle.std.specs.Prelude.{option_map}
use Rattle.outside.specs.code.Counts.{IsLater}
use Rattle.outside.specs.code.Store.{changed_by}
use Rattle.outside.specs.code.Parts.{draft_faults}
use Rattle.site_yard.specs.code.Returning.{placings}
use Rattle.site_yard.proofs.ReturnLemmas.{IsGivingBack}
use Rattle.site_yard.proofs.returning.publish_all.Given as goal

abbrev pub invariant-loop-draft : goal.invariant-loop-draft
invariant-loop-draft g l =
    (g.H.Host.told l.host ≡ option_map (λ s. changed_by s (placings (take l.count (map g.H.Draft.WritePart.state l.fn.drafts.items)))) (g.H.Host.told l.fn.host))
    × (g.H.Host.marked l.host ≡ g.H.Host.marked l.fn.host)
    × (map g.H.Draft.WritePart.state l.drafts.items ≡ drop l.count (map g.H.Draft.WritePart.state l.fn.drafts.items))
    × (l.count ≤ length (map g.H.Draft.WritePart.state l.fn.drafts.items))
    × IsLater (g.H.Host.counts l.fn.host) (g.H.Host.counts l.host)
    × IsGivingBack l.count (draft_faults (map g.H.Draft.WritePart.state l.fn.drafts.items)) (draft_faults (map g.H.Draft.WritePart.state l.drafts.items)) (g.H.Host.counts l.fn.host) (g.H.Host.counts l.host)

abbrev pub decreases-loop-draft : goal.decreases-loop-draft
decreases-loop-draft g l = length l.drafts.items
