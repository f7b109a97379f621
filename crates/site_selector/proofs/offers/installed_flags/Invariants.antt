use Rattle.std.proofs.Common.{◌≡◌, take}
use Rattle.site_selector.specs.code.Offers.{installed_flags}
use Rattle.site_selector.proofs.offers.installed_flags.Given as goal

abbrev pub invariant-loop-site : goal.invariant-loop-site
invariant-loop-site l = l.flags.items ≡ installed_flags l.names (take l.site-index l.sites)
