use Rattle.transfer_refiner.proofs.MarkedLemmas.{flagged_is}
use Rattle.transfer_refiner.proofs.marked.flagged_files.Goals as goal

pub returns-clause-same : goal.returns-clause-same
returns-clause-same c = flagged_is c.args.workflow.now c.in_ok-all_flagged.field-0.items c.sorted-files.result.items c.in_ok-all_flagged.ensures c.sorted-files.ensures.same
