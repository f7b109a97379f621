use Rattle.std.proofs.Common.{ℕ, List, length, sym, ap, subst, ◌∙◌}
use Rattle.std.specs.Prelude.{Option}
use Rattle.std.specs.List.{AllByRecursion}
use Rattle.std.proofs.lemmas.List.{length-map}
use Rattle.workflow_core.specs.code.WellFormed.{IsSmallSize}
use Rattle.plan_request.specs.declared.request.Execution.{Execution}
use Rattle.digraph.specs.code.Adjacency.{lists_of}
use Rattle.dependency_graph.specs.Graph.{numbers}
use Rattle.site_selector.proofs.OfferLemmas.{checked_are}
use Rattle.list_schedule.specs.code.Tables.{AreSites}
use Rattle.heft_selector.specs.Selecting.{offering_of, estimates}
use Rattle.heft_selector.proofs.ListLemmas.{declared_small, lists_are}
use Rattle.heft_selector.proofs.SelectLemmas.{lists_low, tables_are, costs_are, candidates_are, full_are, sites_are}
use Rattle.heft_selector.proofs.select.scheduled.Goals as goal

pub times_of-requires-clause-narrow : goal.times_of-requires-clause-narrow
times_of-requires-clause-narrow c = (checked_are c.args.request.now.execute c.requires.sites).few

pub times_of-requires-clause-long : goal.times_of-requires-clause-long
times_of-requires-clause-long c = sym (length-map c.args.candidates.now _) ∙ c.requires.offered.1.long

pub times_of-requires-clause-below : goal.times_of-requires-clause-below
times_of-requires-clause-below c = λ a on. lists_low (offering_of c.args.workflow.now c.args.kept.now c.args.request.now c.requires.offered.0) (lists_of c.args.candidates.now) c.requires.offered.1 c.requires.kept a on

pub moves_of-requires-clause-lists : goal.moves_of-requires-clause-lists
moves_of-requires-clause-lists c = lists_are c.args.workflow.now c.args.graph.now c.as_slice-size_list.result.now c.requires.workflow c.requires.graph
    (subst (λ (os : List (Option ℕ)). AllByRecursion IsSmallSize os) (sym (c.as_slice-size_list.ensures.value ∙ c.in_ok-sizes.ensures)) (declared_small c.args.request.now c.args.workflow.now.files c.args.workflow.now.sizes c.requires.limits c.requires.workflow.small_sizes))

pub schedule_by-requires-clause-graph : goal.schedule_by-requires-clause-graph
schedule_by-requires-clause-graph c = (c.args.workflow.now, c.requires.workflow, c.requires.graph)

pub schedule_by-requires-clause-kept : goal.schedule_by-requires-clause-kept
schedule_by-requires-clause-kept c = c.requires.kept ∙ sym (sym (length-map c.args.graph.now.parents numbers) ∙ c.requires.graph.parents.long)

pub schedule_by-requires-clause-full : goal.schedule_by-requires-clause-full
schedule_by-requires-clause-full c = full_are c.args.workflow.now c.args.graph.now c.args.kept.now c.args.request.now c.requires.offered.0 _ _ _
    (tables_are c.args.workflow.now c.args.graph.now c.args.kept.now c.args.request.now c.requires.offered.0 (lists_of c.args.candidates.now) c.in_ok-times.times.items c.as_slice-time_lists.result.now c.in_ok-moves.moves.items c.as_slice-move_lists.result.now c.in_ok-sizes.sizes.items c.as_slice-size_list.result.now c.requires.workflow c.requires.graph c.requires.kept c.requires.limits c.requires.offered.1 c.as_slice-time_lists.ensures.value c.as_slice-move_lists.ensures.value c.as_slice-size_list.ensures.value c.in_ok-sizes.ensures c.in_ok-times.ensures c.in_ok-moves.ensures)

pub schedule_by-requires-clause-candidates : goal.schedule_by-requires-clause-candidates
schedule_by-requires-clause-candidates c = subst (λ (n : ℕ). AreSites c.args.kept.now n (lists_of c.args.candidates.now) (lists_of c.as_slice-time_lists.result.now)) (sym (ap (λ (es : List Execution). length es) c.as_slice-execute.ensures))
    (sites_are c.args.workflow.now c.args.graph.now c.args.kept.now c.args.request.now c.requires.offered.0 _ _ _
    (tables_are c.args.workflow.now c.args.graph.now c.args.kept.now c.args.request.now c.requires.offered.0 (lists_of c.args.candidates.now) c.in_ok-times.times.items c.as_slice-time_lists.result.now c.in_ok-moves.moves.items c.as_slice-move_lists.result.now c.in_ok-sizes.sizes.items c.as_slice-size_list.result.now c.requires.workflow c.requires.graph c.requires.kept c.requires.limits c.requires.offered.1 c.as_slice-time_lists.ensures.value c.as_slice-move_lists.ensures.value c.as_slice-size_list.ensures.value c.in_ok-sizes.ensures c.in_ok-times.ensures c.in_ok-moves.ensures))

pub returns : goal.returns
returns c = λ t offers. c.in_ok-heft.ensures (estimates c.args.workflow.now c.args.kept.now c.args.request.now t)
    (costs_are c.args.workflow.now c.args.graph.now c.args.kept.now c.args.request.now t _ _ _ (tables_are c.args.workflow.now c.args.graph.now c.args.kept.now c.args.request.now t (lists_of c.args.candidates.now) c.in_ok-times.times.items c.as_slice-time_lists.result.now c.in_ok-moves.moves.items c.as_slice-move_lists.result.now c.in_ok-sizes.sizes.items c.as_slice-size_list.result.now c.requires.workflow c.requires.graph c.requires.kept c.requires.limits offers c.as_slice-time_lists.ensures.value c.as_slice-move_lists.ensures.value c.as_slice-size_list.ensures.value c.in_ok-sizes.ensures c.in_ok-times.ensures c.in_ok-moves.ensures))
    (candidates_are c.args.workflow.now c.args.graph.now c.args.kept.now c.args.request.now t _ _ _ (tables_are c.args.workflow.now c.args.graph.now c.args.kept.now c.args.request.now t (lists_of c.args.candidates.now) c.in_ok-times.times.items c.as_slice-time_lists.result.now c.in_ok-moves.moves.items c.as_slice-move_lists.result.now c.in_ok-sizes.sizes.items c.as_slice-size_list.result.now c.requires.workflow c.requires.graph c.requires.kept c.requires.limits offers c.as_slice-time_lists.ensures.value c.as_slice-move_lists.ensures.value c.as_slice-size_list.ensures.value c.in_ok-sizes.ensures c.in_ok-times.ensures c.in_ok-moves.ensures))
