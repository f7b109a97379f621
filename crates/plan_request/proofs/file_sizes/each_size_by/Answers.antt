use Rattle.std.proofs.Common.{inl, inr}
use Rattle.plan_request.proofs.FileSizesLemmas.{sizes_done}
use Rattle.plan_request.proofs.file_sizes.each_size_by.Goals as goal

pub returns : goal.returns
returns c = sizes_done c.args.index.now c.args.default _ _ _ _ c.loop-file.invariant (elim c.in-None.ensures.steps [ inl first ↦ inl first.1.0 | inr second ↦ inr second.1.0 ])
