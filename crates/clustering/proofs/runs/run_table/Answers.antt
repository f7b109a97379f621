use Rattle.std.proofs.Common.{◌≡◌, ◌<◌, ◌+◌, ◌-◌, [], cond, get_or, length, drop, sym, ap, subst, ◌∙◌, arith}
use Rattle.std.specs.Prelude.{slice_index_or}
use Rattle.std.specs.List.{list_any}
use Rattle.std.proofs.lemmas.Grind.{common_steps}
use Rattle.std.proofs.lemmas.List.{length-map}
use Rattle.values.specs.declared.numbers.JobId.{JobId}
use Rattle.dependency_graph.specs.code.Graph.{job_lists}
use Rattle.clustering.specs.Basis.{group_numbers}
use Rattle.clustering.specs.code.Runs.{IsGroup}
use Rattle.clustering.specs.Runs.{is_job, run_among, run_in}
use Rattle.clustering.proofs.RunsLemmas.{items_at, run_step}
use Rattle.clustering.proofs.runs.run_table.Goals as goal

pub note_runs-requires-clause-group : goal.note_runs-requires-clause-group
note_runs-requires-clause-group c =
    let within : c.loop-left.left - 1 < length c.args.groups.now = grind (arith, common_steps) in
    let is : c.deref.result.now ≡ get_or (job_lists c.args.groups.now) (c.loop-left.left - 1) [] =
    c.deref.ensures.value ∙ items_at c.args.groups.now (c.loop-left.left - 1) c.index-groups-left.result within (grind (arith, common_steps)) in
    let long : length c.loop-left.runs.items ≡ c.args.jobs = c.loop-left.invariant.1 in
    subst (λ n. IsGroup n c.deref.result.now) (sym long) (subst (IsGroup c.args.jobs) (sym is) (c.requires (c.loop-left.left - 1)))

pub loop-left-preserved : goal.loop-left-preserved
loop-left-preserved c =
    let i = c.loop-left.left - 1 in
    let lists = job_lists c.args.groups.now in
    let within : c.loop-left.left - 1 < length c.args.groups.now = grind (arith, common_steps) in
    let inside : c.loop-left.left - 1 < length lists = subst (λ n. c.loop-left.left - 1 < n) (sym (length-map c.args.groups.now (λ v. v.items))) within in
    let one : c.deref.result.now ≡ get_or lists (c.loop-left.left - 1) [] =
    c.deref.ensures.value ∙ items_at c.args.groups.now (c.loop-left.left - 1) c.index-groups-left.result within (grind (arith, common_steps)) in
    let two : c.deref-in-loop-left.result.now ≡ get_or lists (c.loop-left.left - 1) [] =
    c.deref-in-loop-left.ensures.value ∙ items_at c.args.groups.now (c.loop-left.left - 1) c.index-groups-left.result within (grind (arith, common_steps)) in
    let left : c.loop-left.left ≡ (c.loop-left.left - 1) + 1 = grind (arith, common_steps) in
    let numbers : c.numbers.result ≡ group_numbers c.args.basis.now c.deref.result.now = c.numbers.ensures.numbers ∙ ap (group_numbers c.args.basis.now) (two ∙ sym one) in (
      grind (arith, common_steps),
      grind (arith, common_steps),
      λ (j : JobId). c.note_runs.ensures.noted j
          ∙ (ap (λ n. cond (list_any (is_job j) c.deref.result.now) (run_in n c.deref.result.now j) (slice_index_or c.loop-left.runs.items j.0 0)) numbers
          ∙ (ap (λ r. cond (list_any (is_job j) c.deref.result.now) (run_in (group_numbers c.args.basis.now c.deref.result.now) c.deref.result.now j) r)
          (c.loop-left.invariant.2 j ∙ ap (λ k. run_among c.args.basis.now (drop k lists) j) left)
          ∙ sym (run_step c.args.basis.now lists (c.loop-left.left - 1) c.deref.result.now j inside one))),
    )
