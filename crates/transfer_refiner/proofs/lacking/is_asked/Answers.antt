use Rattle.std.proofs.Common.{◌∙◌}
use Rattle.transfer_refiner.specs.code.View.{draft_of}
use Rattle.transfer_refiner.proofs.LackingLemmas.{asked_is}
use Rattle.transfer_refiner.proofs.MovingLemmas.{requested_rises}
use Rattle.transfer_refiner.proofs.lacking.is_asked.Goals as goal

pub is_among-asked-requires : goal.is_among-asked-requires
is_among-asked-requires c = requested_rises (draft_of c.args.view.now) c.deref.result.now (c.deref.ensures.value ∙ c.requires.tables.requested)

pub returns : goal.returns
returns c = c.is_among-asked.ensures ∙ asked_is (draft_of c.args.view.now) c.args.file.0 c.deref.result.now c.requires.in_range (c.deref.ensures.value ∙ c.requires.tables.requested)
