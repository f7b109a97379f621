use Rattle.std.proofs.Common.{◌∙◌, ap, not}
use Rattle.transfer_refiner.specs.code.View.{draft_of}
use Rattle.transfer_refiner.proofs.LackingLemmas.{there_is}
use Rattle.transfer_refiner.proofs.lacking.is_there.Goals as goal

pub returns : goal.returns
returns c = ap not c.is_empty-none.ensures ∙ there_is (draft_of c.args.view.now) c.args.file.0 c.before-sites.result.now (λ s. c.before-sites.ensures.same s ∙ c.requires.tables.stood s c.args.file.0)
