use Rattle.transfer_refiner.proofs.MarkedLemmas.{requested_is}
use Rattle.transfer_refiner.proofs.marked.requested_files.Goals as goal

pub returns : goal.returns
returns c = requested_is c.args.workflow.now c.in_ok-all_requested.field-0.items c.sorted-files.result.items c.requires c.in_ok-all_requested.ensures c.sorted-files.ensures.rises c.sorted-files.ensures.same
