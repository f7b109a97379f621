use Rattle.std.proofs.Common.{◌∙◌, ap, ℕ, List, ◌&&◌, not}
use Rattle.plan_core.specs.Numbers.{has}
use Rattle.plan_core.specs.code.Files.{all_inputs, all_outputs}
use Rattle.plan_core.proofs.FilesLemmas.{run_reads_are}
use Rattle.plan_core.proofs.files.run_reads.Goals as goal

pub returns : goal.returns
returns c = run_reads_are c.args.jobs.now c.args.some.now (record { site = c.args.site; files = c.in_ok-files.files })
    c.in_ok-all_inputs.field-0.items c.in_ok-all_outputs.field-0.items c.sorted-used.result.items c.sorted-made.result.items
    (c.in_ok-all_inputs.ensures ∙ ap (all_inputs c.args.jobs.now) c.as_slice.ensures) (c.in_ok-all_outputs.ensures ∙ ap (all_outputs c.args.jobs.now) c.as_slice-2.ensures)
    c.sorted-used.ensures.same c.sorted-made.ensures.same c.in_ok-files.ensures.rises
    (λ x. c.in_ok-files.ensures.same x ∙ ap (λ (us : List ℕ). has us x && not (has c.deref-2.result.now x)) c.deref.ensures.value ∙ ap (λ (ms : List ℕ). has c.sorted-used.result.items x && not (has ms x)) c.deref-2.ensures.value)
