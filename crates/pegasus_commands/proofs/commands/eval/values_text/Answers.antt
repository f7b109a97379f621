use Rattle.std.proofs.Common.{refl}
use Rattle.plan_run.specs.Moments.{gateless}
use Rattle.plan_run.specs.code.Moments.{work_moment, working}
use Rattle.pegasus_commands.proofs.EvalLemmas.{says_unvalued}
use Rattle.pegasus_commands.proofs.commands.eval.values_text.Goals as goal

pub returns-in-Err : goal.returns-in-Err
returns-in-Err g c = λ told t.
    let before = work_moment g.H.Host c.args.host.now (gateless (g.T.Tool.faults c.args.tool.now) (g.T.Tool.runs c.args.tool.now) told) in
    let after = work_moment g.H.Host c.values_of.new.host (gateless (g.T.Tool.faults c.values_of.new.tool) (g.T.Tool.runs c.values_of.new.tool) told) in
    let w = working g.T.Tool.apply g.T.Tool.known before after in
    record {
      same = c.in-Err.ensures.told;
      runs = c.in-Err.ensures.runs;
      entered = refl;
      says = says_unvalued w c.args.surveyed.now c.in-Err.fault _ _ c.in-Err.ensures.answer c.at_once.ensures.text (rw c.of_evaluation_fault.ensures at c.at_once.ensures.answer);
    }

pub returns-in-Ok-value_text : goal.returns-in-Ok-value_text
returns-in-Ok-value_text g c = λ told t. record {
  same = c.in-Ok.ensures.told;
  runs = c.in-Ok.ensures.runs;
  entered = refl;
  says = (_, c.in-Ok.ensures.requested, rw c.deref.ensures.value at c.in-Ok-value_text.ensures);
}
