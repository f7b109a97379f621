use Rattle.worker_gate.proofs.FillingLemmas.{fills_lent}
use Rattle.worker_gate.proofs.tending.fill_loan.Goals as goal

pub returns : goal.returns
returns g c =
    let rs = c.as_mut_slice.ensures in
    let ds = c.as_mut_slice-2.ensures in
    let e = c.fill.ensures in
    let loan = c.args.loan.now in
    record {
      fills = fills_lent g.H.Reading.ReadPart.state g.H.Draft.WritePart.state g.T.Tool.apply c.args.plan.now c.args.task.0 loan.readings.items c.as_mut_slice.result.now c.fill.new.readings loan.readings.len loan.drafts.items c.as_mut_slice-2.result.now c.fill.new.drafts loan.drafts.len (g.T.Tool.faults c.args.tool.now) (g.T.Tool.faults c.fill.new.tool) c.fill.result rs.value rs.len ds.value ds.len
          (record { filled = e.filled; why = e.why; shown = e.shown; once = e.once; fits = e.fits; readings = e.readings; drafts = e.drafts; tool = e.tool });
      runs = e.runs;
    }
