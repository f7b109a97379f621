use Rattle.std.proofs.Common.{◌≤◌, ◌∙◌, sym, ap, length, map, arith, refl, subst, All}
use Rattle.std.proofs.lemmas.Result.{IfOk-weaker}
use Rattle.plan_core.specs.declared.plan.Task.{Task}
use Rattle.transfer_refiner.specs.code.View.{draft_of}
use Rattle.transfer_refiner.specs.Tasks.{comes_after}
use Rattle.transfer_refiner.specs.code.Steps.{IsListed}
use Rattle.transfer_refiner.proofs.TogetherLemmas.{few_pairs, pairs_once, range_of, tasks_are}
use Rattle.transfer_refiner.proofs.refining.all_tasks.Goals as goal

pub tasks_of-requires : goal.tasks_of-requires
tasks_of-requires c = let few : length c.args.pairs.now ≤ 3200000 = few_pairs (draft_of c.args.view.now) c.args.pairs.now c.requires.draft c.requires.pairs in record { few = omega arith; once = pairs_once (draft_of c.args.view.now) c.args.pairs.now c.requires.pairs }

pub with_all_parents-tasks-requires-clause-few_pairs : goal.with_all_parents-tasks-requires-clause-few_pairs
with_all_parents-tasks-requires-clause-few_pairs c = let few : length c.args.pairs.now ≤ 3200000 = few_pairs (draft_of c.args.view.now) c.args.pairs.now c.requires.draft c.requires.pairs in omega arith

pub with_all_parents-tasks-requires-clause-kinds : goal.with_all_parents-tasks-requires-clause-kinds
with_all_parents-tasks-requires-clause-kinds c = ap (map (λ (t : Task). t.kind)) c.deref.ensures.value ∙ c.in_ok-bare.ensures.kinds ∙ c.requires.kinds

pub with_all_parents-tasks-requires-clause-in_range : goal.with_all_parents-tasks-requires-clause-in_range
with_all_parents-tasks-requires-clause-in_range c = range_of c.args.jobs.now c.args.pairs.now c.args.pairs.now c.in_ok-bare.bare.items c.deref.result.now c.in_ok-bare.ensures.listed c.deref.ensures.value refl

pub returns : goal.returns
returns c =
    let kinds = ap (map (λ (t : Task). t.kind)) c.deref.ensures.value ∙ c.in_ok-bare.ensures.kinds ∙ c.requires.kinds in
    let listed = subst (All (IsListed c.args.jobs.now c.args.pairs.now)) (sym c.deref.ensures.value) c.in_ok-bare.ensures.listed in
    IfOk-weaker c.with_all_parents-tasks.result _ _ (λ ts are. tasks_are (draft_of c.args.view.now) c.args.jobs.now c.args.pairs.now c.deref.result.now ts (comes_after (draft_of c.args.view.now)) kinds listed c.requires.pairs are (λ t u. refl)) c.with_all_parents-tasks.ensures
