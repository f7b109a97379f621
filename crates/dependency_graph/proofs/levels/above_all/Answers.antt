use Rattle.std.proofs.Common.{◌∙◌, ℕ, max, sym, ap, take, slice_index_or}
use Rattle.std.proofs.lemmas.List.{take_more}
use Rattle.values.specs.declared.numbers.JobId.{JobId}
use Rattle.dependency_graph.specs.Levels.{above, above_all}
use Rattle.dependency_graph.proofs.LevelsLemmas.{above_push}
use Rattle.dependency_graph.proofs.levels.above_all.Goals as goal

pub loop-parent-preserved : goal.loop-parent-preserved
loop-parent-preserved c =
    let j : JobId = slice_index_or c.args.parents.now c.loop-parent.parent-index (record { 0 = 0 }) in
    c.max-greatest.ensures ∙ ap (λ (n : ℕ). max n c.loop-parent.greatest) c.above.ensures ∙ ap (max (above c.args.kept.now c.args.levels.now j.0)) c.loop-parent.invariant
    ∙ sym (ap (above_all c.args.kept.now c.args.levels.now) (take_more c.args.parents.now c.loop-parent.parent-index (record { 0 = 0 }) c.loop-parent-test.true) ∙ above_push c.args.kept.now c.args.levels.now (take c.loop-parent.parent-index c.args.parents.now) j)
