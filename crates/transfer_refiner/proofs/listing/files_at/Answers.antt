use Rattle.std.proofs.Common.{◌∙◌}
use Rattle.transfer_refiner.specs.code.View.{draft_of}
use Rattle.transfer_refiner.proofs.MovingLemmas.{files_are}
use Rattle.transfer_refiner.proofs.listing.files_at.Goals as goal

pub returns : goal.returns
returns c = files_are (draft_of c.args.view.now) c.args.site c.after.result.now c.requires.draft c.after.ensures.rises (λ x. c.after.ensures.same x ∙ c.requires.tables.stood c.args.site x)
