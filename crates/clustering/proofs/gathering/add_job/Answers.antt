use Rattle.std.proofs.Common.{◌≡◌, ◌<◌, ◌≤◌, ◌++◌, [], ◌∷◌, length, ap, ◌∙◌, arith}
use Rattle.std.specs.List.{position_or_len}
use Rattle.std.proofs.lemmas.Grind.{common_steps}
use Rattle.dependency_graph.specs.code.Graph.{job_lists}
use Rattle.clustering.specs.code.Gathering.{with_at}
use Rattle.clustering.proofs.GatheringLemmas.{at_end, at_place}
use Rattle.clustering.proofs.gathering.add_job.Goals as goal

pub returns-in_ok-push-clause-parts : goal.returns-in_ok-push-clause-parts
returns-in_ok-push-clause-parts g c =
    let is : c.in_ok-place.place ≡ position_or_len (g.K.PartialEq.eq c.args.key) c.args.known.now.keys = grind (arith, common_steps) in
    let within : c.in_ok-place.place < length c.args.parts.now.items = grind (arith, common_steps) in
    let grows : c.push.new.self.items ≡ c.index_mut.result.now.items ++ c.args.job ∷ [] = grind (arith, common_steps) in
    at_place c.args.parts.now.items c.in_ok-place.place c.index_mut.result.now c.push.new.self c.args.job within c.index_mut.ensures.value grows
    ∙ ap (λ i. with_at (job_lists c.args.parts.now.items) i c.args.job) is

pub returns-in_ok-push-3-clause-parts : goal.returns-in_ok-push-3-clause-parts
returns-in_ok-push-3-clause-parts g c =
    let is : c.in_ok-place.place ≡ position_or_len (g.K.PartialEq.eq c.args.key) c.args.known.now.keys = grind (arith, common_steps) in
    let past : length c.args.parts.now.items ≤ c.in_ok-place.place = grind (arith, common_steps) in
    let one : c.push-else-place-len.new.self.items ≡ c.args.job ∷ [] = grind (arith, common_steps) in
    let pushed : c.push-else-place-len-2.new.self.items ≡ c.args.parts.now.items ++ c.push-else-place-len.new.self ∷ [] = grind (arith, common_steps) in
    ap job_lists pushed
    ∙ at_end c.args.parts.now.items c.in_ok-place.place c.push-else-place-len.new.self c.args.job past one
    ∙ ap (λ i. with_at (job_lists c.args.parts.now.items) i c.args.job) is
