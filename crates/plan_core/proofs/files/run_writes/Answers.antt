use Rattle.std.proofs.Common.{◌∙◌, ap}
use Rattle.plan_core.specs.code.Files.{all_outputs}
use Rattle.plan_core.proofs.FilesLemmas.{run_writes_are}
use Rattle.plan_core.proofs.files.run_writes.Goals as goal

pub returns : goal.returns
returns c = run_writes_are c.args.jobs.now c.args.some.now (record { site = c.args.site; files = c.sorted-files.result }) c.in_ok-all_outputs.field-0.items
    (c.in_ok-all_outputs.ensures ∙ ap (all_outputs c.args.jobs.now) c.as_slice.ensures) c.sorted-files.ensures.rises c.sorted-files.ensures.same
