use Rattle.std.proofs.Common.{◌≡◌, length}
use Rattle.plan_core.specs.Words.{count_pairs}
use Rattle.place_peaks.specs.Links.{AreCleanersBefore}
use Rattle.place_peaks.proofs.links.cleaners_of.Given as goal

abbrev pub invariant-loop-task : goal.invariant-loop-task
invariant-loop-task l = (length l.cleaners.items ≡ count_pairs l.plan) × AreCleanersBefore l.plan l.task l.cleaners.items
