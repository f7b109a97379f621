use Rattle.std.proofs.Common.{◌≡◌, ◌+◌, [], ◌∷◌, drop, ap, sym, ◌∙◌, arith}
use Rattle.std.proofs.lemmas.Grind.{common_steps}
use Rattle.std.proofs.lemmas.List.{drop_more}
use Rattle.workflow_reader.specs.declared.document.JobEntry.{JobEntry}
use Rattle.workflow_reader.proofs.FilesLemmas.{named_more, named_all}
use Rattle.workflow_reader.proofs.files.files_of.Goals as goal

pub loop-job-preserved : goal.loop-job-preserved
loop-job-preserved c =
    let rest = drop (c.loop-job.job-index + 1) c.args.jobs.now in
    named_more _ _ _ (drop c.loop-job.job-index c.args.jobs.now) rest c.job-item.result
    (drop_more c.args.jobs.now c.loop-job.job-index c.job-item.result (omega arith) ∙ ap (λ (j : JobEntry). j ∷ rest) (sym c.job-item.is))
    c.in_ok-add_files.ensures
    c.loop-job.invariant

pub returns : goal.returns
returns c =
    let nothing : drop c.loop-job.job-index c.args.jobs.now ≡ [] = grind (arith, common_steps) in
    named_all c.names_are_numbered.ensures _ c.args.jobs.now (drop c.loop-job.job-index c.args.jobs.now) nothing c.loop-job.invariant
