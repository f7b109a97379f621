use Rattle.std.proofs.Common.{◌≡◌, ◌∙◌, ◌-◌, ◌<◌, ◌≤◌, ℕ, suc, Bool, false, List, length, map, ap, subst, sym, slice_index_or, slice_set, arith}
use Rattle.std.specs.Prelude.{replicate}
use Rattle.std.proofs.lemmas.List.{length-replicate}
use Rattle.values.specs.declared.numbers.JobId.{JobId}
use Rattle.workflow_core.specs.declared.workflow.Workflow.{Workflow}
use Rattle.workflow_core.specs.declared.workflow.Job.{Job}
use Rattle.dependency_graph.specs.Graph.{Links}
use Rattle.replica_catalog.specs.declared.catalog.Replica.{Replica}
use Rattle.data_reuse.specs.Absent.{absent_in, is_absent}
use Rattle.data_reuse.proofs.WalkLemmas.{IsWalked, job_is, keeps_is, marked_is, placed, placed_in, walk_all, walk_more, walk_none}
use Rattle.data_reuse.proofs.walk.kept.Goals as goal

pub loop-place-init : goal.loop-place-init
loop-place-init c =
    let zeros : c.in_ok-kept.kept.items ≡ replicate (length c.as_slice-jobs.result.now) false = c.in_ok-kept.ensures.items_if_clones_equal (λ y h. h) in
    let long : length c.in_ok-kept.kept.items ≡ length c.args.workflow.now.jobs = ap (λ (bs : List Bool). length bs) zeros ∙ length-replicate (length c.as_slice-jobs.result.now) false ∙ ap (λ (js : List Job). length js) c.as_slice-jobs.ensures in
    let all : length c.args.graph.now.ordered ≤ length c.ordered-ordered.result.now = subst (λ (js : List JobId). length js ≤ length c.ordered-ordered.result.now) c.ordered-ordered.ensures (omega arith) in
    walk_none (absent_in c.args.workflow.now c.args.replicas.now.entries c.args.force) c.args.workflow.now c.args.graph.now c.in_ok-kept.kept.items c.in_ok-needed.needed.items (length c.ordered-ordered.result.now) all long c.in_ok-needed.ensures.long c.in_ok-needed.ensures.each

pub loop-place-preserved : goal.loop-place-preserved
loop-place-preserved c =
    let w : Workflow = c.args.workflow.now in
    let g : Links = c.args.graph.now in
    let es : List Replica = c.args.replicas.now.entries in
    let q : ℕ = c.loop-place.place - 1 in
    let top : c.loop-place.place ≤ length c.ordered-ordered.result.now = c.loop-place.auto.place in
    let some : 0 < c.loop-place.place = c.loop-place-test.true in
    let low : c.loop-place.place - 1 < length c.ordered-ordered.result.now = omega (arith, top, some) in
    let at = job_is g c.ordered-ordered.result.now q c.ordered-ordered.ensures low in
    let j : Job = c.index-jobs-number.result in
    let is = ap (λ (js : List Job). slice_index_or js (placed g q) j) (sym c.as_slice-jobs.ensures) ∙ ap (λ (n : ℕ). slice_index_or c.as_slice-jobs.result.now n j) (sym at.1) ∙ sym c.index-jobs-number.is in
    let within = placed_in w g c.requires.graph q at.0 in
    let flags_are : c.deref.result.now ≡ map (is_absent es c.args.force) w.files =
    c.deref.ensures.value ∙ c.in_ok-absent.ensures ∙ ap (λ (ns : List (List ℕ)). map (is_absent es c.args.force) ns) c.as_slice.ensures in
    let keep = c.visit.ensures.kept ∙ keeps_is w es c.args.force c.deref.result.now c.loop-place.needed.items (placed g q) j c.requires.well_formed within is flags_are in
    let walked : IsWalked (absent_in w es c.args.force) w g c.loop-place.kept.items c.loop-place.needed.items (suc (c.loop-place.place - 1)) =
    subst (λ (p : ℕ). IsWalked (absent_in w es c.args.force) w g c.loop-place.kept.items c.loop-place.needed.items p) (let one : c.loop-place.place ≡ suc (c.loop-place.place - 1) = omega (arith, some) in one) c.loop-place.invariant in
    subst (λ (x : ℕ). IsWalked (absent_in w es c.args.force) w g (slice_set c.loop-place.kept.items x c.visit.result) c.visit.new.needed.items (c.loop-place.place - 1)) (sym at.1)
    (walk_more (absent_in w es c.args.force) w g c.loop-place.kept.items c.loop-place.needed.items c.visit.new.needed.items (c.loop-place.place - 1) c.visit.result c.requires.graph walked at.0 keep c.visit.ensures.long
    (marked_is w (placed g q) j c.visit.result c.visit.new.needed.items c.loop-place.needed.items within is c.visit.ensures.each))

pub returns : goal.returns
returns c = walk_all (absent_in c.args.workflow.now c.args.replicas.now.entries c.args.force) c.args.workflow.now c.args.graph.now c.loop-place.kept.items c.loop-place.needed.items c.loop-place.place c.requires.graph c.loop-place.invariant c.loop-place-test.false
