use Rattle.std.proofs.Common.{inl, inr}
use Rattle.ensemble.proofs.StatedLemmas.{sizes_done}
use Rattle.ensemble.proofs.stated.add_each.Goals as goal

pub returns : goal.returns
returns c = sizes_done c.args.member.now _ _ _ _ c.loop-file.invariant (elim c.in-None.ensures.steps [ inl first ↦ inl first.1.0 | inr second ↦ inr second.1.0 ])
