use Rattle.std.proofs.Common.{◌<◌, get_or, length, arith}
use Rattle.std.proofs.lemmas.Grind.{common_steps}
use Rattle.std.proofs.lemmas.List.Elements.{All-get_or}
use Rattle.values.specs.declared.numbers.JobId.{JobId}
use Rattle.clustering.proofs.RunsLemmas.{no_job, noted_more}
use Rattle.clustering.proofs.runs.note_runs.Goals as goal

pub loop-job-preserved : goal.loop-job-preserved
loop-job-preserved c =
    let i = c.loop-job.job-index in
    let here : i < length c.args.group.now = grind (arith, common_steps) in
    let below : (get_or c.args.group.now i no_job).0 < length c.args.runs.now.items = All-get_or (λ (j : JobId). j.0 < length c.args.runs.now.items) c.args.group.now i no_job here c.requires.group.below in
    let within : (get_or c.args.group.now i no_job).0 < length c.loop-job.runs.items = grind (arith, common_steps) in (
      grind (arith, common_steps),
      grind (arith, common_steps),
      noted_more c.args.numbers c.args.group.now c.args.runs.now.items c.loop-job.runs.items i c.loop-job.run c.loop-job.left c.following.result.0 c.following.result.1 c.requires.group.once here within c.loop-job.invariant.2 c.following.ensures.runs,
    )
