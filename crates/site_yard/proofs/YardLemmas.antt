-- A yard that stays the same.
use Rattle.std.proofs.Common.{refl, ◌∙◌, arith}
use Rattle.outside.specs.code.Counts.{IsLater}
use Rattle.outside.specs.declared.counts.Counts.{Counts}
use Rattle.outside.specs.declared.host.Host as host
use Rattle.site_yard.specs.code.Yard.{IsSameYard}
use Rattle.site_yard.specs.declared.yard.Yard.{Yard}
use Rattle.site_yard.proofs.PartLemmas.{later_both}

still : (a : Counts) → IsLater a a
still a = record { done = omega arith; faults = omega arith; misses = omega arith }

-- before the first call
pub still_yard : {H T Reading Draft : Type 0} {h : host.Ghosts H Reading Draft} {r : _} {w : _} {t : _} (a : Yard H T Reading Draft h r w t) → IsSameYard a a
still_yard {h = h} a = record {
  ordered = refl;
  opened = refl;
  marked = refl;
  faults = refl;
  misses = refl;
  tells = refl;
  later = still (h.counts a.host);
}

-- after calls, and more of them
pub same_yard : {H T Reading Draft : Type 0} {h : host.Ghosts H Reading Draft} {r : _} {w : _} {t : _} (a b c : Yard H T Reading Draft h r w t) → IsSameYard a b → IsSameYard b c → IsSameYard a c
same_yard {h = h} a b c x y = record {
  ordered = y.ordered ∙ x.ordered;
  opened = y.opened ∙ x.opened;
  marked = y.marked ∙ x.marked;
  faults = y.faults ∙ x.faults;
  misses = y.misses ∙ x.misses;
  tells = y.tells ∙ x.tells;
  later = later_both (h.counts a.host) (h.counts b.host) (h.counts c.host) x.later y.later;
}
