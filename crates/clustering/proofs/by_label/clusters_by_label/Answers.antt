use Rattle.std.proofs.Common.{◌≡◌, ℕ, ◌<◌, ◌≤◌, Bool, List, [], length, map, sym, ap, subst, ◌∙◌, arith}
use Rattle.std.specs.Prelude.{Option, slice_index_or}
use Rattle.std.specs.List.{All}
use Rattle.std.proofs.Math.Path.{fun_ext}
use Rattle.std.proofs.lemmas.List.{length-map}
use Rattle.values.specs.declared.numbers.JobId.{JobId}
use Rattle.digraph.specs.code.Adjacency.{lists_of}
use Rattle.digraph.specs.Adjacency.{neighbours}
use Rattle.digraph.specs.code.Cycle.{IsNamedCycle}
use Rattle.digraph.specs.Cycle.{Returns}
use Rattle.digraph.specs.code.Digraph as digraph
use Rattle.dependency_graph.specs.code.Graph.{job_lists}
use Rattle.clustering.specs.code.Condition.{leads}
use Rattle.clustering.specs.code.Cycles.{first_id, sources_from}
use Rattle.clustering.specs.code.Labels.{first_apart, holder, holder_in}
use Rattle.clustering.specs.Labels.{labels_of}
use Rattle.clustering.specs.code.Runs.{IsGroup}
use Rattle.clustering.proofs.CyclesLemmas.{AreSources, label_few, label_groups, label_jobs, label_sources}
use Rattle.clustering.proofs.by_label.clusters_by_label.Goals as goal

pub holder_table-requires-clause-few : goal.holder_table-requires-clause-few
holder_table-requires-clause-few c =
    let parts : job_lists c.deref.result.now ≡ labels_of c.args.basis.now c.args.jobs.now = ap job_lists c.deref.ensures.value ∙ c.in_ok-parts.ensures in
    subst (λ n. n ≤ 10000) (sym (ap length parts) ∙ length-map c.deref.result.now (λ v. v.items)) (label_few c.args.basis.now c.args.kept.now c.args.jobs.now c.requires.few c.requires.ranked)

pub holder_table-requires-clause-each : goal.holder_table-requires-clause-each
holder_table-requires-clause-each c =
    let parts : job_lists c.deref.result.now ≡ labels_of c.args.basis.now c.args.jobs.now = ap job_lists c.deref.ensures.value ∙ c.in_ok-parts.ensures in
    λ k. subst (λ (ps : List (List JobId)). IsGroup (length c.args.kept.now) (slice_index_or ps k [])) (sym parts) (label_groups c.args.basis.now c.args.kept.now c.args.jobs.now c.requires.few c.requires.ranked k)

pub sources-requires-clause-few : goal.sources-requires-clause-few
sources-requires-clause-few c =
    let parts : job_lists c.deref-5.result.now ≡ labels_of c.args.basis.now c.args.jobs.now = ap job_lists c.deref-5.ensures.value ∙ c.in_ok-parts.ensures in
    subst (λ n. n ≤ 10000) (sym (ap length parts) ∙ length-map c.deref-5.result.now (λ v. v.items)) (label_few c.args.basis.now c.args.kept.now c.args.jobs.now c.requires.few c.requires.ranked)

pub sources-requires-clause-each : goal.sources-requires-clause-each
sources-requires-clause-each c =
    let parts : job_lists c.deref-5.result.now ≡ labels_of c.args.basis.now c.args.jobs.now = ap job_lists c.deref-5.ensures.value ∙ c.in_ok-parts.ensures in
    λ k. subst (λ (ps : List (List JobId)). All (λ (j : JobId). j.0 < length c.args.graph.now.parents) (slice_index_or ps k [])) (sym parts)
    (label_jobs c.args.workflow.now c.args.graph.now c.args.basis.now c.args.kept.now c.args.jobs.now c.requires.graph c.requires.few c.requires.long c.requires.ranked k)

pub new-requires-clause-few : goal.new-requires-clause-few
new-requires-clause-few c =
    let parts : job_lists c.deref.result.now ≡ labels_of c.args.basis.now c.args.jobs.now = ap job_lists c.deref.ensures.value ∙ c.in_ok-parts.ensures in
    let table : (j : JobId) → holder_in c.in_ok-holders.holders.items j ≡ holder (labels_of c.args.basis.now c.args.jobs.now) j =
    λ j. c.in_ok-holders.ensures j ∙ ap (λ (ps : List (List JobId)). holder ps j) parts in
    let lists : lists_of c.deref-6.result.now ≡ sources_from c.in_ok-holders.holders.items c.args.graph.now.parents 0 (labels_of c.args.basis.now c.args.jobs.now) =
    ap lists_of c.deref-6.ensures.value ∙ (c.in_ok-sources.ensures ∙ (ap (λ (t : List (Option ℕ)). sources_from t c.args.graph.now.parents 0 (job_lists c.deref-5.result.now)) c.deref-4.ensures.value
    ∙ ap (sources_from c.in_ok-holders.holders.items c.args.graph.now.parents 0) (ap job_lists c.deref-5.ensures.value ∙ c.in_ok-parts.ensures))) in
    let sources : AreSources c.args.workflow.now (labels_of c.args.basis.now c.args.jobs.now) (lists_of c.deref-6.result.now) =
    label_sources c.args.workflow.now c.args.graph.now c.args.basis.now c.args.kept.now c.args.jobs.now c.in_ok-holders.holders.items (lists_of c.deref-6.result.now) c.requires.graph c.requires.ranked table lists in
    let few : length (labels_of c.args.basis.now c.args.jobs.now) ≤ 10000 = label_few c.args.basis.now c.args.kept.now c.args.jobs.now c.requires.few c.requires.ranked in
    let long : length c.deref-6.result.now ≡ length (labels_of c.args.basis.now c.args.jobs.now) = sym (length-map c.deref-6.result.now (λ v. v.items)) ∙ sources.long in
    omega (arith, few, long)

pub new-requires-clause-in_range : goal.new-requires-clause-in_range
new-requires-clause-in_range c =
    let parts : job_lists c.deref.result.now ≡ labels_of c.args.basis.now c.args.jobs.now = ap job_lists c.deref.ensures.value ∙ c.in_ok-parts.ensures in
    let table : (j : JobId) → holder_in c.in_ok-holders.holders.items j ≡ holder (labels_of c.args.basis.now c.args.jobs.now) j =
    λ j. c.in_ok-holders.ensures j ∙ ap (λ (ps : List (List JobId)). holder ps j) parts in
    let lists : lists_of c.deref-6.result.now ≡ sources_from c.in_ok-holders.holders.items c.args.graph.now.parents 0 (labels_of c.args.basis.now c.args.jobs.now) =
    ap lists_of c.deref-6.ensures.value ∙ (c.in_ok-sources.ensures ∙ (ap (λ (t : List (Option ℕ)). sources_from t c.args.graph.now.parents 0 (job_lists c.deref-5.result.now)) c.deref-4.ensures.value
    ∙ ap (sources_from c.in_ok-holders.holders.items c.args.graph.now.parents 0) (ap job_lists c.deref-5.ensures.value ∙ c.in_ok-parts.ensures))) in
    let sources : AreSources c.args.workflow.now (labels_of c.args.basis.now c.args.jobs.now) (lists_of c.deref-6.result.now) =
    label_sources c.args.workflow.now c.args.graph.now c.args.basis.now c.args.kept.now c.args.jobs.now c.in_ok-holders.holders.items (lists_of c.deref-6.result.now) c.requires.graph c.requires.ranked table lists in
    let long : length c.deref-6.result.now ≡ length (labels_of c.args.basis.now c.args.jobs.now) = sym (length-map c.deref-6.result.now (λ v. v.items)) ∙ sources.long in
    λ k. subst (λ n. All (λ m. m < n) (neighbours (lists_of c.deref-6.result.now) k)) (sym long) (sources.in_range k)

pub returns-in_ok-ids-in-Some : goal.returns-in_ok-ids-in-Some
returns-in_ok-ids-in-Some c =
    let parts : job_lists c.deref.result.now ≡ labels_of c.args.basis.now c.args.jobs.now = ap job_lists c.deref.ensures.value ∙ c.in_ok-parts.ensures in
    let table : (j : JobId) → holder_in c.in_ok-holders.holders.items j ≡ holder (labels_of c.args.basis.now c.args.jobs.now) j =
    λ j. c.in_ok-holders.ensures j ∙ ap (λ (ps : List (List JobId)). holder ps j) parts in
    let lists : lists_of c.deref-6.result.now ≡ sources_from c.in_ok-holders.holders.items c.args.graph.now.parents 0 (labels_of c.args.basis.now c.args.jobs.now) =
    ap lists_of c.deref-6.ensures.value ∙ (c.in_ok-sources.ensures ∙ (ap (λ (t : List (Option ℕ)). sources_from t c.args.graph.now.parents 0 (job_lists c.deref-5.result.now)) c.deref-4.ensures.value
    ∙ ap (sources_from c.in_ok-holders.holders.items c.args.graph.now.parents 0) (ap job_lists c.deref-5.ensures.value ∙ c.in_ok-parts.ensures))) in
    let sources : AreSources c.args.workflow.now (labels_of c.args.basis.now c.args.jobs.now) (lists_of c.deref-6.result.now) =
    label_sources c.args.workflow.now c.args.graph.now c.args.basis.now c.args.kept.now c.args.jobs.now c.in_ok-holders.holders.items (lists_of c.deref-6.result.now) c.requires.graph c.requires.ranked table lists in
    let same : digraph.edge c.in_ok-digraph.digraph ≡ leads c.args.workflow.now (labels_of c.args.basis.now c.args.jobs.now) = fun_ext (λ a. fun_ext (λ b. c.in_ok-digraph.ensures.edges a b ∙ sources.edges a b)) in
    record {
      jobs = c.args.jobs.now;
      ranked = c.requires.ranked;
      one_site = ap (λ (ps : List (List JobId)). first_apart c.args.basis.now ps c.args.jobs.now) (sym (ap job_lists c.deref-2.ensures.value ∙ c.in_ok-parts.ensures)) ∙ c.in_ok-check_sites.ensures;
      cycle = record {
        parts = c.in-Some.cycle.items;
        cycle = subst (λ (e : ℕ → ℕ → Bool). IsNamedCycle e c.in-Some.cycle.items) same (rw c.in-Some.is at c.in_ok-cycle.ensures.cycle);
        ids_are =
            c.in_ok-ids-in-Some.ensures
            ∙ (ap (λ (ps : List (List JobId)). map (first_id c.args.workflow.now ps) c.deref-in-Some-2.result.now) (ap job_lists c.deref-in-Some.ensures.value ∙ c.in_ok-parts.ensures)
            ∙ ap (map (first_id c.args.workflow.now (labels_of c.args.basis.now c.args.jobs.now))) c.deref-in-Some-2.ensures.value);
      };
    }

pub returns-in_ok-clusters_of-in-None : goal.returns-in_ok-clusters_of-in-None
returns-in_ok-clusters_of-in-None c =
    let parts : job_lists c.deref.result.now ≡ labels_of c.args.basis.now c.args.jobs.now = ap job_lists c.deref.ensures.value ∙ c.in_ok-parts.ensures in
    let table : (j : JobId) → holder_in c.in_ok-holders.holders.items j ≡ holder (labels_of c.args.basis.now c.args.jobs.now) j =
    λ j. c.in_ok-holders.ensures j ∙ ap (λ (ps : List (List JobId)). holder ps j) parts in
    let lists : lists_of c.deref-6.result.now ≡ sources_from c.in_ok-holders.holders.items c.args.graph.now.parents 0 (labels_of c.args.basis.now c.args.jobs.now) =
    ap lists_of c.deref-6.ensures.value ∙ (c.in_ok-sources.ensures ∙ (ap (λ (t : List (Option ℕ)). sources_from t c.args.graph.now.parents 0 (job_lists c.deref-5.result.now)) c.deref-4.ensures.value
    ∙ ap (sources_from c.in_ok-holders.holders.items c.args.graph.now.parents 0) (ap job_lists c.deref-5.ensures.value ∙ c.in_ok-parts.ensures))) in
    let sources : AreSources c.args.workflow.now (labels_of c.args.basis.now c.args.jobs.now) (lists_of c.deref-6.result.now) =
    label_sources c.args.workflow.now c.args.graph.now c.args.basis.now c.args.kept.now c.args.jobs.now c.in_ok-holders.holders.items (lists_of c.deref-6.result.now) c.requires.graph c.requires.ranked table lists in
    let same : digraph.edge c.in_ok-digraph.digraph ≡ leads c.args.workflow.now (labels_of c.args.basis.now c.args.jobs.now) = fun_ext (λ a. fun_ext (λ b. c.in_ok-digraph.ensures.edges a b ∙ sources.edges a b)) in
    record {
      jobs = c.args.jobs.now;
      ranked = c.requires.ranked;
      one_site = ap (λ (ps : List (List JobId)). first_apart c.args.basis.now ps c.args.jobs.now) (sym (ap job_lists c.deref-2.ensures.value ∙ c.in_ok-parts.ensures)) ∙ c.in_ok-check_sites.ensures;
      acyclic = subst (λ (e : ℕ → ℕ → Bool). (a : ℕ) → Returns e a → ⊥) same (rw c.in-None.is at c.in_ok-cycle.ensures.cycle);
      parts = c.in_ok-clusters_of-in-None.ensures ∙ c.in_ok-parts.ensures;
    }
