use Rattle.std.proofs.Common.{[], refl, arith}
use Rattle.planner.proofs.DraftLemmas.{with_parts}
use Rattle.planner.proofs.law.placed_jobs_are_a_draft.Goals as goal

pub returns : goal.returns
returns c r s sites clusters formed graph checked placed =
    let are = c.selected_sites_are_execution_sites.ensures r s placed.kept placed.levels sites placed.leveled.are_kept.long placed.selected in
    let bare = c.single_jobs_are_a_draft.ensures s.workflow [] (record { parts = [] }) sites s.replicas r (record {
      formed = formed;
      sound = graph.sound;
      checked = checked;
      jobs_placed = are.long;
      sites_below = are.below;
      few = omega arith;
      below = λ n j h. absurd cc;
      once = λ m n i j h k e. absurd cc;
      placed = λ n j h. absurd cc;
    }) refl in
    let parts = c.clusters_are_parts.ensures r.cluster s.workflow s.graph placed.kept placed.levels sites s.transformations clusters graph placed.leveled.are_levels placed.clustered in
    with_parts s.workflow clusters sites s.replicas r placed.kept bare placed.leveled.are_kept.long parts are.below are.placed
