use Rattle.std.proofs.Common.{◌≡◌, map, ap, ◌∙◌, arith}
use Rattle.std.specs.Prelude.{slice_index_or}
use Rattle.std.proofs.lemmas.Grind.{common_steps}
use Rattle.values.specs.declared.numbers.JobId.{JobId}
use Rattle.dependency_graph.specs.code.Graph.{job_lists}
use Rattle.clustering.specs.code.Basis.{group_of}
use Rattle.clustering.specs.Basis.{same_group}
use Rattle.clustering.specs.Gathering.{gathered}
use Rattle.clustering.specs.Runs.{run_among, run_number, runs_of}
use Rattle.clustering.proofs.RunsLemmas.{map_as}
use Rattle.clustering.proofs.runs.runs_of.Goals as goal

pub returns : goal.returns
unfolding runs_of
returns c =
    let basis = c.args.basis.now in
    let jobs = c.args.jobs.now in
    let all : c.loop-job.keyed.items ≡ map (λ (j : JobId). (j, (group_of c.args.basis.now j, slice_index_or c.in_ok-runs.runs.items j.0 0))) c.args.jobs.now = grind (arith, common_steps) in
    let groups : job_lists c.deref.result.now ≡ gathered (same_group c.args.basis.now) c.args.jobs.now = grind (arith, common_steps) in
    let run : (j : JobId) → slice_index_or c.in_ok-runs.runs.items j.0 0 ≡ run_number c.args.basis.now c.args.jobs.now j =
    λ j. c.in_ok-runs.ensures j ∙ ap (λ gs. run_among c.args.basis.now gs j) groups in
    c.in_ok-parts.ensures (λ j. (group_of basis j, run_number basis jobs j)) jobs
    (all ∙ map_as (λ (j : JobId). (j, (group_of basis j, slice_index_or c.in_ok-runs.runs.items j.0 0))) (λ (j : JobId). (j, (group_of basis j, run_number basis jobs j))) jobs (λ j. ap (λ r. (j, (group_of basis j, r))) (run j)))
