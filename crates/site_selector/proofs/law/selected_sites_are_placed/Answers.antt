use Rattle.site_selector.proofs.PlacedLemmas.{site_below, kept_placed}
use Rattle.site_selector.proofs.law.selected_sites_are_placed.Goals as goal

pub returns : goal.returns
returns c = record { below = site_below; placed = kept_placed }
