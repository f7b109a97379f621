use Rattle.std.proofs.Common.{◌∙◌, ◌+◌, ◌≤◌, ℕ, List, length, ap, sym, subst, slice_index_or, slice_set}
use Rattle.values.specs.declared.numbers.JobId.{JobId}
use Rattle.dependency_graph.specs.Levels.{level_by}
use Rattle.dependency_graph.proofs.LevelsLemmas.{IsLeveled, job_is, leveled_all, leveled_more, levels_low, parents_kept}
use Rattle.dependency_graph.proofs.graph.Graph.levels.Goals as goal

pub level_by-level-requires-clause-parents : goal.level_by-level-requires-clause-parents
level_by-level-requires-clause-parents c = parents_kept c.requires.graph.0 c.args.self.now c.args.kept.now c.requires.graph.2 c.requires.kept (slice_index_or c.ordered-job-items.result.now c.loop-job.job-index (record { 0 = 0 })).0

pub level_by-level-requires-clause-small : goal.level_by-level-requires-clause-small
level_by-level-requires-clause-small c =
    let at = job_is c.args.self.now c.ordered-job-items.result.now c.loop-job.job-index c.ordered-job-items.ensures c.loop-job-test.true in
    rw c.deref.ensures.value (levels_low c.requires.graph.0 c.args.self.now c.args.kept.now c.loop-job.levels.items c.loop-job.job-index c.requires.graph.1 c.requires.graph.2 c.loop-job.invariant at.0)

pub loop-job-preserved : goal.loop-job-preserved
loop-job-preserved c =
    let at = job_is c.args.self.now c.ordered-job-items.result.now c.loop-job.job-index c.ordered-job-items.ensures c.loop-job-test.true in
    let j : ℕ = (slice_index_or c.ordered-job-items.result.now c.loop-job.job-index (record { 0 = 0 })).0 in
    let value = c.level_by-level.ensures ∙ ap (λ (xs : List ℕ). level_by c.args.self.now c.args.kept.now xs j) c.deref.ensures.value ∙ ap (level_by c.args.self.now c.args.kept.now c.loop-job.levels.items) at.1 in
    subst (λ (x : ℕ). IsLeveled c.args.self.now c.args.kept.now (slice_set c.loop-job.levels.items x c.level_by-level.result) (c.loop-job.job-index + 1)) (sym at.1)
    (leveled_more c.requires.graph.0 c.args.self.now c.args.kept.now c.loop-job.levels.items c.loop-job.job-index c.level_by-level.result c.requires.graph.2 c.requires.kept c.loop-job.invariant at.0 value)

pub returns : goal.returns
returns c =
    let past : length c.args.self.now.ordered ≤ c.loop-job.job-index = subst (λ (js : List JobId). length js ≤ c.loop-job.job-index) c.ordered-job-items.ensures c.loop-job-test.false in
    leveled_all c.requires.graph.0 c.args.self.now c.args.kept.now c.loop-job.levels.items c.loop-job.job-index c.requires.graph.2 c.requires.kept c.loop-job.invariant past
