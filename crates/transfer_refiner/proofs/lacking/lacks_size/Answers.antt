use Rattle.std.proofs.Common.{◌∙◌, ap}
use Rattle.std.specs.Prelude.{is_some, None, slice_index_or}
use Rattle.transfer_refiner.specs.code.View.{draft_of}
use Rattle.transfer_refiner.proofs.LackingLemmas.{size_lacks}
use Rattle.transfer_refiner.proofs.lacking.lacks_size.Goals as goal

pub returns : goal.returns
returns c = size_lacks (draft_of c.args.view.now) c.args.file.0 _ c.is_there-there.result c.is_asked-asked.result c.is_some.result c.lacks_known.ensures c.is_there-there.ensures c.is_asked-asked.ensures (c.is_some.ensures ∙ ap is_some c.declared_of-size.ensures ∙ ap (λ xs. is_some (slice_index_or xs c.args.file.0 None)) c.requires.tables.sizes)
