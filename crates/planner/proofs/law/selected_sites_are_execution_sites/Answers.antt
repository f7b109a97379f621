use Rattle.planner.proofs.SitesLemmas.{execution_sites}
use Rattle.planner.proofs.law.selected_sites_are_execution_sites.Goals as goal

pub returns : goal.returns
returns c r s kept levels sites long chosen = execution_sites r.selector r s kept levels sites long chosen c.selected_sites_are_placed.ensures.below c.selected_sites_are_placed.ensures.placed c.scheduled_sites_are_placed.ensures.below c.scheduled_sites_are_placed.ensures.placed
