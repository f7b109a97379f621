use Rattle.std.proofs.Common.{◌≡◌, ℕ, List, arith}
use Rattle.std.specs.Prelude.{Err, Vec}
use Rattle.std.specs.declared.alloc.Global.{Global}
use Rattle.plan_request.specs.JobTools.{tool_of}
use Rattle.evaluation.specs.JobTools.{known_tool, tools_of}
use Rattle.evaluation.proofs.RestLemmas.{unless_then}
use Rattle.evaluation.proofs.StepLemmas.{tools_end, tools_more}
use Rattle.evaluation.proofs.job_tools.known_tools.Goals as goal

pub returns-in-Err : goal.returns-in-Err
returns-in-Err g c =
    unless_then (List ℕ) (Vec (List ℕ) Global) c.in-Err.fault
    (Err c.in-Err.fault ≡ known_tool g.T.Tool.known c.job-item.result (tool_of c.args.stated.now c.job-item.result.transformation.name))
    (Err c.in-Err.fault ≡ tools_of g.T.Tool.known c.args.stated.now c.args.jobs.now)
    c.in-Err.ensures
    (tools_end g.T.Tool.known c.args.stated.now c.args.jobs.now c.loop-job.job-index c.job-item.result c.loop-job.tools.items c.in-Err.fault (omega arith) c.job-item.is c.loop-job.invariant)

pub loop-job-preserved : goal.loop-job-preserved
loop-job-preserved g c = tools_more g.T.Tool.known c.args.stated.now c.args.jobs.now c.loop-job.job-index c.job-item.result c.loop-job.tools.items c.push.new.self.items c.in-Ok.name (omega arith) c.job-item.is c.loop-job.invariant c.in-Ok.ensures c.in_ok-push-in-Ok.ensures.items
