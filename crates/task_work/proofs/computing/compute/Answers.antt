use Rattle.std.proofs.Common.{◌≡◌, ◌+◌, ◌≤◌, length, true, sym, subst}
use Rattle.plan_core.specs.Kinds.{jobs_make}
use Rattle.task_work.specs.Table.{at}
use Rattle.task_work.proofs.ComputingLemmas.{computes_all, computes_stop, outputs_made, outputs_once}
use Rattle.task_work.proofs.computing.compute.Goals as goal

pub returns-in-Err-run_jobs-clause-answer : goal.returns-in-Err-run_jobs-clause-answer
returns-in-Err-run_jobs-clause-answer g c =
    computes_stop g.T.Tool.apply c.args.plan.now c.args.task.0 c.args.blobs.items c.jobs_of.result.now c.in-Ok.table (at c.run_jobs.new.table) (g.T.Tool.faults c.args.tool.now) (g.T.Tool.faults c.run_jobs.new.tool) c.in-Err-run_jobs.cause c.jobs_of.ensures c.in-Ok.ensures c.in-Err-run_jobs.ensures.answer

pub outputs_of-requires-clause-there : goal.outputs_of-requires-clause-there
outputs_of-requires-clause-there g c = λ f h.
    let p = c.args.plan.now in
    c.in-Ok-run_jobs.ensures.answer.there f
    (subst (λ js. jobs_make p.jobs js f ≡ true) (sym c.jobs_of.ensures)
    (outputs_made p c.requires.proper (c.files_are_listed_by_pair.ensures.writes p c.requires.proper) (c.files_are_listed_by_pair.ensures.in_range p c.requires.proper) (c.pairs_stand_once.ensures.once p c.requires.proper) c.args.task.0 c.requires.run f h))

pub outputs_of-requires-clause-once : goal.outputs_of-requires-clause-once
outputs_of-requires-clause-once g c =
    let p = c.args.plan.now in
    outputs_once p c.requires.proper (c.files_are_listed_by_pair.ensures.writes p c.requires.proper) (c.files_are_listed_by_pair.ensures.in_range p c.requires.proper) (c.pairs_stand_once.ensures.once p c.requires.proper) c.args.task.0 c.requires.run

pub returns-in-Ok-outputs_of-clause-answer : goal.returns-in-Ok-outputs_of-clause-answer
returns-in-Ok-outputs_of-clause-answer g c =
    computes_all g.T.Tool.apply c.args.plan.now c.args.task.0 c.args.blobs.items c.jobs_of.result.now c.in-Ok.table c.run_jobs.new.table (g.T.Tool.faults c.args.tool.now) (g.T.Tool.faults c.run_jobs.new.tool) c.in-Ok-outputs_of.outputs c.jobs_of.ensures c.in-Ok.ensures c.in-Ok-run_jobs.ensures.answer c.in-Ok-outputs_of.ensures

pub returns-in-Err-run_jobs-clause-runs : goal.returns-in-Err-run_jobs-clause-runs
returns-in-Err-run_jobs-clause-runs g c = subst (λ js. g.T.Tool.runs c.run_jobs.new.tool ≤ g.T.Tool.runs c.args.tool.now + length js) c.jobs_of.ensures c.in-Err-run_jobs.ensures.runs

pub returns-in-Ok-outputs_of-clause-runs : goal.returns-in-Ok-outputs_of-clause-runs
returns-in-Ok-outputs_of-clause-runs g c = subst (λ js. g.T.Tool.runs c.run_jobs.new.tool ≤ g.T.Tool.runs c.args.tool.now + length js) c.jobs_of.ensures c.in-Ok-run_jobs.ensures.runs
