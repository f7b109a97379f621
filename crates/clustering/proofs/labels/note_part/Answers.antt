use Rattle.std.proofs.Common.{◌<◌, get_or, length, arith}
use Rattle.std.proofs.lemmas.Grind.{common_steps}
use Rattle.std.proofs.lemmas.List.Elements.{All-get_or}
use Rattle.values.specs.declared.numbers.JobId.{JobId}
use Rattle.clustering.proofs.LabelsLemmas.{held_more}
use Rattle.clustering.proofs.RunsLemmas.{no_job}
use Rattle.clustering.proofs.labels.note_part.Goals as goal

pub loop-job-preserved : goal.loop-job-preserved
loop-job-preserved c =
    let i = c.loop-job.job-index in
    let here : i < length c.args.part.now = grind (arith, common_steps) in
    let below : (get_or c.args.part.now i no_job).0 < length c.args.holders.now.items = All-get_or (λ (j : JobId). j.0 < length c.args.holders.now.items) c.args.part.now i no_job here c.requires.below in
    let within : (get_or c.args.part.now i no_job).0 < length c.loop-job.holders.items = grind (arith, common_steps) in (
      grind (arith, common_steps),
      held_more c.args.number c.args.part.now c.args.holders.now.items c.loop-job.holders.items i here within c.loop-job.invariant.1,
    )
