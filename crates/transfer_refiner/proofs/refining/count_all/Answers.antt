use Rattle.std.proofs.Common.{◌≤◌, ◌∙◌, length, arith}
use Rattle.transfer_refiner.specs.code.View.{draft_of}
use Rattle.transfer_refiner.proofs.TogetherLemmas.{count_is, few_moved, few_requested, kinds_long}
use Rattle.transfer_refiner.proofs.refining.count_all.Goals as goal

pub count_tasks-tasks-requires-clause-few_moved : goal.count_tasks-tasks-requires-clause-few_moved
count_tasks-tasks-requires-clause-few_moved c = let few : length c.args.moved.now ≤ 3200000 = few_moved (draft_of c.args.view.now) c.args.moved.now c.requires.draft c.requires.moved in omega (arith, few)

pub count_tasks-tasks-requires-clause-few_requested : goal.count_tasks-tasks-requires-clause-few_requested
count_tasks-tasks-requires-clause-few_requested c = let few : length c.deref.result.now ≤ 50000 = few_requested (draft_of c.args.view.now) c.deref.result.now c.requires.draft (c.deref.ensures.value ∙ c.requires.tables.requested) in omega (arith, few)

pub returns : goal.returns
returns c = count_is (draft_of c.args.view.now) c.count_tasks-tasks.result c.count_cleans-cleans.result c.args.pairs.now (c.count_tasks-tasks.ensures ∙ kinds_long (draft_of c.args.view.now) c.args.moved.now c.deref.result.now c.requires.moved (c.deref.ensures.value ∙ c.requires.tables.requested)) c.count_cleans-cleans.ensures c.requires.pairs
