use Rattle.std.proofs.Common.{◌≡◌, ◌-◌, List, length, ap, get_or, ◌∙◌, arith}
use Rattle.std.specs.Prelude.{filter}
use Rattle.values.specs.declared.numbers.TaskId.{TaskId}
use Rattle.plan_core.specs.Words.{task_numbers}
use Rattle.place_peaks.specs.Peaks.{left_of, line_of}
use Rattle.place_peaks.proofs.AskingLemmas.{behind_stack, in_stack}
use Rattle.place_peaks.proofs.peaks.Peaks.rest_task.Goals as goal

pub returns-then-k-waiting : goal.returns-then-k-waiting
returns-then-k-waiting c =
    let again : List TaskId = c.args.self.now.again.items in
    let n = c.len-waiting.ensures in
    let long : c.len-waiting.result ≡ length c.args.self.now.again.items = omega (arith, n, c.args.self.now.again.ok) in
    in_stack again (filter (left_of c.args.self.now) (line_of c.args.self.now)) c.len-waiting.result c.args.k c.task_at-task.result long (omega arith)
    (c.task_at-task.ensures ∙ ap (λ (xs : List TaskId). get_or (task_numbers xs) (c.len-waiting.result - 1 - c.args.k) 0) c.as_slice.ensures.value)

pub returns : goal.returns
returns c =
    let again : List TaskId = c.args.self.now.again.items in
    let n = c.len-waiting.ensures in
    let long : c.len-waiting.result ≡ length c.args.self.now.again.items = omega (arith, n, c.args.self.now.again.ok) in
    c.left_task.ensures
    ∙ behind_stack again (filter (left_of c.args.self.now) (line_of c.args.self.now)) c.len-waiting.result c.args.k long (omega arith)
