use Rattle.list_schedule.proofs.LawLemmas.{starts_after_parents, runs_at_candidate, finishes_first, never_overlaps}
use Rattle.list_schedule.proofs.law.schedules_are_sound.Goals as goal

pub returns : goal.returns
returns c = record { parents = starts_after_parents; candidate = runs_at_candidate; least = finishes_first; apart = never_overlaps }
