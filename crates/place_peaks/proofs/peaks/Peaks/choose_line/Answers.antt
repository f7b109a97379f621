use Rattle.std.proofs.Common.{sym, subst}
use Rattle.lease_rules.specs.Choice.{IsChoice}
use Rattle.place_peaks.proofs.SearchingLemmas.{first_choice, no_first}
use Rattle.place_peaks.proofs.peaks.Peaks.choose_line.Goals as goal

pub returns-in-None : goal.returns-in-None
returns-in-None c = λ s peaks unfailed. no_first c.args.plan.now s c.args.self.now peaks c.in-None.ensures

pub line_task-requires : goal.line_task-requires
line_task-requires c = c.in-Some.ensures.within

pub returns-in-Some : goal.returns-in-Some
returns-in-Some c = λ s peaks unfailed. subst (IsChoice c.args.plan.now s) (sym c.line_task.ensures) (first_choice c.args.plan.now s c.args.self.now c.in-Some.k peaks unfailed c.in-Some.ensures)
