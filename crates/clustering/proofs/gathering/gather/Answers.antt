use Rattle.std.proofs.Common.{◌≡◌, ◌∷◌, length, sym, subst, ap, ◌∙◌, arith}
use Rattle.std.specs.List.{position_or_len}
use Rattle.std.specs.Vec.Iter.{into_iter_items}
use Rattle.std.proofs.lemmas.Grind.{common_steps}
use Rattle.std.proofs.lemmas.List.{length-map}
use Rattle.indexmap.specs.IndexSet.{insert_key}
use Rattle.dependency_graph.specs.code.Graph.{job_lists}
use Rattle.clustering.specs.code.Gathering.{with_at}
use Rattle.clustering.proofs.GatheringLemmas.{Gathers, gathers_all, gathers_first, gathers_more, long_more}
use Rattle.clustering.proofs.gathering.gather.Goals as goal

pub loop-job-init : goal.loop-job-init
loop-job-init g c = (grind (arith, common_steps), gathers_first g.K.PartialEq.eq c.args.keyed.items c.new-known.result.keys (job_lists c.new-parts.result.items) (into_iter_items c.into_iter-job-iterator.result) (grind (arith, common_steps)) (grind (arith, common_steps)) (grind (arith, common_steps)))

pub loop-job-preserved : goal.loop-job-preserved
loop-job-preserved g c =
    let ks = c.loop-job.known.keys in
    let ps = job_lists c.loop-job.parts.items in
    let next : into_iter_items c.loop-job.job-iterator ≡ (c.in-Some.job, c.in-Some.key) ∷ into_iter_items c.next.new.self = grind (arith, common_steps) in
    let known : c.add_job.new.known.keys ≡ insert_key g.K.PartialEq.eq ks c.in-Some.key = grind (arith, common_steps) in
    let parts : job_lists c.add_job.new.parts.items ≡ with_at ps (position_or_len (g.K.PartialEq.eq c.in-Some.key) ks) c.in-Some.job = grind (arith, common_steps) in
    let before : Gathers g.K.PartialEq.eq c.args.keyed.items ks ps ((c.in-Some.job, c.in-Some.key) ∷ into_iter_items c.next.new.self) = subst (Gathers g.K.PartialEq.eq c.args.keyed.items ks ps) next c.loop-job.invariant.1 in
    let more = gathers_more g.K.PartialEq.eq c.args.keyed.items ks ps c.in-Some.job c.in-Some.key (into_iter_items c.next.new.self) before in (
      ap length known
          ∙ long_more g.K.PartialEq.eq ks ps c.in-Some.key c.in-Some.job (c.loop-job.invariant.0 ∙ sym (length-map c.loop-job.parts.items (λ v. v.items)))
          ∙ ap length (sym parts)
          ∙ length-map c.add_job.new.parts.items (λ v. v.items),
      subst (λ xs. Gathers g.K.PartialEq.eq c.args.keyed.items xs (job_lists c.add_job.new.parts.items) (into_iter_items c.next.new.self)) (sym known)
          (subst (λ qs. Gathers g.K.PartialEq.eq c.args.keyed.items (insert_key g.K.PartialEq.eq ks c.in-Some.key) qs (into_iter_items c.next.new.self)) (sym parts) more),
    )

pub returns : goal.returns
returns g c = gathers_all g.K.PartialEq.eq c.args.keyed.items c.loop-job.known.keys (job_lists c.loop-job.parts.items) (into_iter_items c.loop-job.job-iterator) c.loop-job.invariant.1 (grind (arith, common_steps))
