use Rattle.std.proofs.Common.{◌≡◌, ◌-◌, ◌<◌, ℕ, suc, zero, List, [], ◌∷◌, Some, length, get_or, refl, sym, ap, ◌∙◌, arith}
use Rattle.std.specs.Prelude.{slice_get}
use Rattle.std.proofs.lemmas.Bool.{eqb-false}
use Rattle.place_peaks.proofs.Offered.{count_tasks_in}
use Rattle.plan_core.specs.Words.{task_numbers}
use Rattle.place_peaks.proofs.stack.last_of.Goals as goal

got : (xs : List ℕ) (k : ℕ) → k < length xs → slice_get xs k ≡ Some (get_or xs k 0)
got [] k l = absurd (omega (arith, l))
got (x ∷ xs) zero l = refl
got (x ∷ xs) (suc k) l = got xs k (omega (arith, l))

pub returns : goal.returns
returns c =
    let count = count_tasks_in c.args.stack.now in
    let off = eqb-false (length c.args.stack.now) 0 (sym c.is_empty.ensures ∙ c.if-is_empty.false) in
    let same : length c.args.stack.now - 1 ≡ length (task_numbers c.args.stack.now) - 1 = omega (arith, count) in
    got (task_numbers c.args.stack.now) (length (task_numbers c.args.stack.now) - 1) (omega (arith, count, off)) ∙ ap (λ (n : ℕ). Some n) (ap (λ (k : ℕ). get_or (task_numbers c.args.stack.now) k 0) (sym same) ∙ sym c.task_at.ensures)
