use Rattle.std.proofs.Common.{◌≡◌, ◌++◌, drop}
use Rattle.site_selector.specs.code.Candidates.{listed_from}
use Rattle.site_selector.proofs.candidates.listed.Given as goal

abbrev pub invariant-loop-site : goal.invariant-loop-site
invariant-loop-site l = l.sites.items ++ listed_from l.flags l.pinned l.site (drop l.site l.execute) ≡ listed_from l.flags l.pinned 0 l.execute
