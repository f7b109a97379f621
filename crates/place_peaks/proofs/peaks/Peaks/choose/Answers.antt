use Rattle.std.proofs.Common.{◌≡◌, ◌-◌, List, Some, length, sym, subst, ◌∙◌}
use Rattle.std.specs.Prelude.{slice_get}
use Rattle.values.specs.declared.numbers.TaskId.{TaskId}
use Rattle.plan_core.specs.Words.{task_numbers}
use Rattle.place_peaks.proofs.ChoosingLemmas.{behind_none, waiting_is_choice}
use Rattle.place_peaks.proofs.peaks.Peaks.choose.Goals as goal

pub returns-in-Some : goal.returns-in-Some
returns-in-Some c s peaks unfailed = waiting_is_choice c.args.plan.now s c.args.self.now c.in-Some.task peaks unfailed
    (subst (λ (xs : List TaskId). slice_get (task_numbers xs) (length (task_numbers xs) - 1) ≡ Some c.in-Some.task) c.as_slice.ensures.value c.in-Some.ensures)

pub returns-in-None : goal.returns-in-None
returns-in-None c s peaks unfailed = c.choose_line.ensures s (behind_none c.args.plan.now s c.args.self.now (sym c.as_slice.ensures.value ∙ c.in-None.ensures) peaks) unfailed
