use Rattle.std.proofs.Common.{◌≡◌, ◌+◌, [], ◌∷◌, drop, ap, sym, ◌∙◌, arith}
use Rattle.std.proofs.lemmas.Grind.{common_steps}
use Rattle.std.proofs.lemmas.List.{drop_more}
use Rattle.workflow_reader.specs.declared.document.JobEntry.{JobEntry}
use Rattle.workflow_reader.proofs.SizesLemmas.{sized_more, sized_all}
use Rattle.workflow_reader.proofs.files.sizes_of.Goals as goal

pub loop-job-preserved : goal.loop-job-preserved
loop-job-preserved c =
    let rest = drop (c.loop-job.job-index + 1) c.args.jobs.now in
    sized_more _ _ _ _ (drop c.loop-job.job-index c.args.jobs.now) rest c.job-item.result
    (drop_more c.args.jobs.now c.loop-job.job-index c.job-item.result (omega arith) ∙ ap (λ (j : JobEntry). j ∷ rest) (sym c.job-item.is))
    c.add_sizes.ensures
    c.loop-job.invariant

pub returns : goal.returns
returns c =
    let nothing : drop c.loop-job.job-index c.args.jobs.now ≡ [] = grind (arith, common_steps) in
    c.new.ensures
    ∙ sized_all c.names_are_numbered.ensures c.args.files.now _ c.args.jobs.now (drop c.loop-job.job-index c.args.jobs.now) c.requires nothing c.loop-job.invariant
