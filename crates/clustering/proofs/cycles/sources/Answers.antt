use Rattle.std.proofs.Common.{◌≡◌, ◌<◌, ◌+◌, ◌++◌, [], ◌∷◌, drop, get_or, length, sym, ap, subst, ◌∙◌, arith}
use Rattle.std.specs.List.{All}
use Rattle.std.proofs.lemmas.Grind.{common_steps}
use Rattle.std.proofs.lemmas.List.{length-map, map-append}
use Rattle.values.specs.declared.numbers.JobId.{JobId}
use Rattle.digraph.specs.code.Adjacency.{lists_of}
use Rattle.dependency_graph.specs.code.Graph.{job_lists}
use Rattle.clustering.specs.code.Cycles.{sources_from}
use Rattle.clustering.proofs.CyclesLemmas.{sources_step}
use Rattle.clustering.proofs.RunsLemmas.{items_at}
use Rattle.clustering.proofs.cycles.sources.Goals as goal

pub part_sources-requires : goal.part_sources-requires
part_sources-requires c =
    let within : c.loop-part.part-index < length c.args.parts.now = grind (arith, common_steps) in
    let is : c.deref.result.now ≡ get_or (job_lists c.args.parts.now) c.loop-part.part-index [] =
    c.deref.ensures.value ∙ items_at c.args.parts.now c.loop-part.part-index c.part-item.result within (grind (arith, common_steps)) in
    subst (All (λ (j : JobId). j.0 < length c.args.graph.now.parents)) (sym is) (c.requires.each c.loop-part.part-index)

pub loop-part-preserved : goal.loop-part-preserved
loop-part-preserved c =
    let within : c.loop-part.part-index < length c.args.parts.now = grind (arith, common_steps) in
    let inside : c.loop-part.part-index < length (job_lists c.args.parts.now) = subst (λ n. c.loop-part.part-index < n) (sym (length-map c.args.parts.now (λ v. v.items))) within in
    let is : c.deref.result.now ≡ get_or (job_lists c.args.parts.now) c.loop-part.part-index [] =
    c.deref.ensures.value ∙ items_at c.args.parts.now c.loop-part.part-index c.part-item.result within (grind (arith, common_steps)) in
    let pushed : c.push.new.self.items ≡ c.loop-part.lists.items ++ c.in_ok-part_sources.field-0 ∷ [] = grind (arith, common_steps) in
    let lists : lists_of c.push.new.self.items ≡ lists_of c.loop-part.lists.items ++ c.in_ok-part_sources.field-0.items ∷ [] =
    ap lists_of pushed ∙ map-append (λ v. v.items) c.loop-part.lists.items (c.in_ok-part_sources.field-0 ∷ []) in (
      grind (arith, common_steps),
      ap (λ ls. ls ++ sources_from c.args.holders.now c.args.graph.now.parents (c.loop-part.number + 1) (drop (c.loop-part.part-index + 1) (job_lists c.args.parts.now))) lists
          ∙ sources_step c.args.holders.now c.args.graph.now.parents c.loop-part.number c.loop-part.part-index (job_lists c.args.parts.now) c.deref.result.now (lists_of c.loop-part.lists.items)
          (sources_from c.args.holders.now c.args.graph.now.parents 0 (job_lists c.args.parts.now)) c.in_ok-part_sources.field-0.items inside is c.in_ok-part_sources.ensures c.loop-part.invariant.1,
    )
