use Rattle.std.proofs.Common.{◌≡◌, ◌++◌, drop}
use Rattle.std.specs.Prelude.{option_map}
use Rattle.values.specs.declared.numbers.SiteId.{SiteId}
use Rattle.transfer_refiner.specs.code.Listing.{moved_from}
use Rattle.transfer_refiner.proofs.listing.push_moved.Given as goal

abbrev pub invariant-loop-site : goal.invariant-loop-site
invariant-loop-site l = l.moved.items ++ moved_from (option_map (λ (s : SiteId). s.0) l.home) l.file (drop l.site-index l.sites) ≡ l.fn.moved.items ++ moved_from (option_map (λ (s : SiteId). s.0) l.home) l.file l.sites
