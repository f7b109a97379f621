use Rattle.std.proofs.Common.{◌≡◌, take}
use Rattle.plan_core.proofs.copying.sites_copied.Given as goal

abbrev pub invariant-loop-site : goal.invariant-loop-site
invariant-loop-site l = l.copies.items ≡ take l.site-index l.sites
