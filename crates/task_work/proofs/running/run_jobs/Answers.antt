use Rattle.std.proofs.Common.{get_or}
use Rattle.values.specs.declared.numbers.JobId.{JobId}
use Rattle.task_work.specs.Table.{at}
use Rattle.task_work.proofs.SmallLemmas.{all_run, both_counts, last_run, one_run_more}
use Rattle.task_work.proofs.RunningLemmas.{after_next, all_dropped, declines_next, next_job, ran_all, stops, there_next}
use Rattle.task_work.proofs.running.run_jobs.Goals as goal

pub returns-in-Err-clause-answer : goal.returns-in-Err-clause-answer
returns-in-Err-clause-answer g c =
    let i = c.loop-number.invariant in
    let k = c.loop-number.number-index in
    let zeroth : JobId = record { 0 = 0 } in
    stops g.T.Tool.apply c.args.plan.now.jobs c.args.jobs.now _ _ k zeroth (at c.loop-number.table) (at c.args.table.now) (at c.run_job.new.table) (at c.run_job.new.table) (g.T.Tool.faults c.args.tool.now) (g.T.Tool.faults c.loop-number.tool) (g.T.Tool.faults c.run_job.new.tool) c.in-Err.cause c.loop-number-test.true (next_job c.args.jobs.now k zeroth c.loop-number-test.true) i.3 i.0 c.in-Err.ensures.answer

pub loop-number-preserved : goal.loop-number-preserved
loop-number-preserved g c =
    let i = c.loop-number.invariant in
    let k = c.loop-number.number-index in
    let zeroth : JobId = record { 0 = 0 } in
    let j = get_or c.args.jobs.now k zeroth in
    let jobs = c.args.plan.now.jobs in
    let v = at c.loop-number.table in
    let w = at c.run_job.new.table in
    let cut = next_job c.args.jobs.now k zeroth c.loop-number-test.true in
    let ran = c.in-Ok.ensures.answer in (
      declines_next g.T.Tool.apply jobs _ _ j v w _ cut ran i.0,
      λ f. after_next g.T.Tool.apply jobs _ _ j v w f _ cut ran (i.1 f),
      λ f h. there_next g.T.Tool.apply jobs _ _ j v w f cut ran (i.2 f h),
      both_counts _ _ _ i.3 c.in-Ok.ensures.tool,
      one_run_more _ _ j _ _ _ _ cut i.4 c.in-Ok.ensures.runs,
    )

pub returns-clause-answer : goal.returns-clause-answer
returns-clause-answer g c =
    let i = c.loop-number.invariant in
    let k = c.loop-number.number-index in
    ran_all g.T.Tool.apply c.args.plan.now.jobs c.args.jobs.now _ (at c.args.table.now) (at c.loop-number.table) (all_dropped c.args.jobs.now k c.loop-number-test.false) i.0 i.1 i.2

pub returns-in-Err-clause-runs : goal.returns-in-Err-clause-runs
returns-in-Err-clause-runs g c =
    let k = c.loop-number.number-index in
    let zeroth : JobId = record { 0 = 0 } in
    last_run _ _ (get_or c.args.jobs.now k zeroth) _ _ _ _ (next_job c.args.jobs.now k zeroth c.loop-number-test.true) c.loop-number.invariant.4 c.in-Err.ensures.runs

pub returns-clause-runs : goal.returns-clause-runs
returns-clause-runs g c = all_run _ _ _ _ (all_dropped c.args.jobs.now c.loop-number.number-index c.loop-number-test.false) c.loop-number.invariant.4
