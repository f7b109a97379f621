use Rattle.std.proofs.Common.{ℕ, List, sym, ap, subst, ◌∙◌}
use Rattle.plan_core.specs.Numbers.{has}
use Rattle.plan_core.specs.Words.{task_numbers}
use Rattle.storage_simulation.specs.Following.{AreOnce}
use Rattle.place_peaks.specs.declared.seating.Seating.{Seating}
use Rattle.place_peaks.proofs.OpeningLemmas.{opened_seating}
use Rattle.place_peaks.proofs.opening.seating_of.Goals as goal

pub seat_all-requires-clause-once : goal.seat_all-requires-clause-once
seat_all-requires-clause-once c = subst AreOnce (sym (ap task_numbers c.in_ok-copied.ensures)) c.requires.fits.fits.once

pub seat_all-requires-clause-tasks : goal.seat_all-requires-clause-tasks
seat_all-requires-clause-tasks c = λ t m. c.requires.fits.fits.tasks t (ap (λ (zs : List ℕ). has zs t) (sym (ap task_numbers c.in_ok-copied.ensures)) ∙ m)

pub returns-clause-line : goal.returns-clause-line
returns-clause-line c = ap (λ (x : Seating). x.line.items) c.seat_all.ensures.same ∙ c.in_ok-copied.ensures

pub returns-clause-seated : goal.returns-clause-seated
returns-clause-seated c = opened_seating c.args.plan.now (task_numbers c.args.order.now) (record { line = c.in_ok-copied.field-0; homes = c.in_ok-homes_of.field-0; seats = c.in_ok-vec.field-0; widths = c.in_ok-vec-2.field-0 }) c.seat_all.new.self c.requires.fits c.seat_all.ensures.same (ap task_numbers c.in_ok-copied.ensures) c.in_ok-homes_of.ensures c.seat_all.ensures.seated
