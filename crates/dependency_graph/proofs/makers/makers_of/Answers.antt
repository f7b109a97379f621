use Rattle.std.proofs.Common.{◌≡◌, ◌+◌, ◌++◌, ◌∷◌, [], ◌∙◌, ◌<◌, length, map, take, List, sym, ap, subst, arith}
use Rattle.std.specs.List.{All}
use Rattle.std.proofs.lemmas.List.{take_more, length-take-le}
use Rattle.workflow_core.specs.declared.workflow.Job.{Job}
use Rattle.workflow_core.specs.declared.workflow.Output.{Output}
use Rattle.workflow_core.specs.WellFormed.{outputs_of}
use Rattle.dependency_graph.specs.Edges.{makers_from}
use Rattle.dependency_graph.specs.code.Makers.{first_two, AreNoted}
use Rattle.dependency_graph.proofs.MakersLemmas.{table_more, outputs_within}
use Rattle.dependency_graph.proofs.makers.makers_of.Goals as goal

pub note-requires : goal.note-requires
note-requires c =
    let all : All (λ f. f < c.args.files) (outputs_of c.index-jobs-i.result) = subst (λ (j : Job). All (λ f. f < c.args.files) (outputs_of j)) (sym c.index-jobs-i.is) (c.requires.in_range c.loop-i.i c.index-jobs-i.result c.loop-i-test.true) in
    outputs_within c.as_slice.result.now c.index-jobs-i.result.outputs c.args.files (length c.loop-i.table.items) c.as_slice.ensures c.loop-i.invariant.0 all

pub loop-i-preserved : goal.loop-i-preserved
loop-i-preserved c =
    let more : take (c.loop-i.i + 1) c.args.jobs.now ≡ take c.loop-i.i c.args.jobs.now ++ c.index-jobs-i.result ∷ [] = take_more c.args.jobs.now c.loop-i.i c.index-jobs-i.result c.loop-i-test.true ∙ ap (λ (j : Job). take c.loop-i.i c.args.jobs.now ++ j ∷ []) (sym c.index-jobs-i.is) in
    let long : length (take c.loop-i.i c.args.jobs.now) ≡ c.loop-i.i = length-take-le c.loop-i.i c.args.jobs.now (omega arith) in
    let noted : AreNoted c.loop-i.table.items c.note.new.table.items (record { 0 = c.loop-i.i }) (outputs_of c.index-jobs-i.result) = subst (λ (os : List Output). AreNoted c.loop-i.table.items c.note.new.table.items (record { 0 = c.loop-i.i }) (map (λ (o : Output). o.file.0) os)) c.as_slice.ensures c.note.ensures.noted in (
      c.note.ensures.long ∙ c.loop-i.invariant.0,
      λ f h. table_more c.loop-i.table.items c.note.new.table.items (take c.loop-i.i c.args.jobs.now) c.index-jobs-i.result c.loop-i.i f (sym long) (c.loop-i.invariant.1 f h) noted
          ∙ sym (ap (λ (js : List Job). first_two (makers_from f 0 js)) more),
    )
