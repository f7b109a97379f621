use Rattle.std.proofs.Common.{◌≡◌, ℕ, ◌<◌, ◌+◌, ◌-◌, [], cond, get_or, length, drop, sym, ap, subst, ◌∙◌, arith}
use Rattle.std.specs.Prelude.{Option, Some}
use Rattle.std.specs.List.{list_any}
use Rattle.std.proofs.lemmas.Grind.{common_steps}
use Rattle.std.proofs.lemmas.List.{length-map}
use Rattle.values.specs.declared.numbers.JobId.{JobId}
use Rattle.dependency_graph.specs.code.Graph.{job_lists}
use Rattle.clustering.specs.code.Labels.{holder_from}
use Rattle.clustering.specs.code.Runs.{IsGroup}
use Rattle.clustering.specs.Runs.{is_job}
use Rattle.clustering.proofs.LabelsLemmas.{holder_step}
use Rattle.clustering.proofs.RunsLemmas.{items_at}
use Rattle.clustering.proofs.labels.holder_table.Goals as goal

pub note_part-requires : goal.note_part-requires
note_part-requires c =
    let within : c.loop-left.left - 1 < length c.args.parts.now = grind (arith, common_steps) in
    let is : c.deref.result.now ≡ get_or (job_lists c.args.parts.now) (c.loop-left.left - 1) [] =
    c.deref.ensures.value ∙ items_at c.args.parts.now (c.loop-left.left - 1) c.index-parts-left.result within (grind (arith, common_steps)) in
    let long : length c.loop-left.holders.items ≡ c.args.jobs = c.loop-left.invariant.1 in
    subst (λ n. IsGroup n c.deref.result.now) (sym long) (subst (IsGroup c.args.jobs) (sym is) (c.requires.each (c.loop-left.left - 1)))

pub loop-left-preserved : goal.loop-left-preserved
loop-left-preserved c =
    let lists = job_lists c.args.parts.now in
    let within : c.loop-left.left - 1 < length c.args.parts.now = grind (arith, common_steps) in
    let inside : c.loop-left.left - 1 < length lists = subst (λ n. c.loop-left.left - 1 < n) (sym (length-map c.args.parts.now (λ v. v.items))) within in
    let one : c.deref.result.now ≡ get_or lists (c.loop-left.left - 1) [] =
    c.deref.ensures.value ∙ items_at c.args.parts.now (c.loop-left.left - 1) c.index-parts-left.result within (grind (arith, common_steps)) in
    let left : c.loop-left.left ≡ (c.loop-left.left - 1) + 1 = grind (arith, common_steps) in (
      grind (arith, common_steps),
      grind (arith, common_steps),
      λ (j : JobId). c.note_part.ensures.noted j
          ∙ (ap (λ (r : Option ℕ). cond (list_any (is_job j) c.deref.result.now) (Some (c.loop-left.left - 1)) r)
          (c.loop-left.invariant.2 j ∙ ap (λ (k : ℕ). holder_from k (drop k lists) j) left)
          ∙ sym (holder_step lists (c.loop-left.left - 1) c.deref.result.now j inside one)),
    )
