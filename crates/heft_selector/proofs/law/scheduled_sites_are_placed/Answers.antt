use Rattle.heft_selector.proofs.SiteLemmas.{sites_below, kept_sites}
use Rattle.heft_selector.proofs.law.scheduled_sites_are_placed.Goals as goal

pub returns : goal.returns
returns c = record {
  below = sites_below c.schedules_are_sound.ensures.candidate;
  placed = kept_sites c.schedules_are_sound.ensures.candidate;
}
