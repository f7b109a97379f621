use Rattle.std.proofs.Common.{ℕ, Bool, length, subst}
use Rattle.std.specs.Prelude.{IfOk}
use Rattle.digraph.specs.code.Digraph.{edge}
use Rattle.transfer_refiner.specs.code.View.{draft_of}
use Rattle.transfer_refiner.specs.code.Steps.{AreParented}
use Rattle.transfer_refiner.proofs.TogetherLemmas.{no_cleans, stated_low}
use Rattle.transfer_refiner.proofs.refining.with_all_parents.Goals as goal

pub with_parents-tasks-requires-clause-no_cleans : goal.with_parents-tasks-requires-clause-no_cleans
with_parents-tasks-requires-clause-no_cleans c = no_cleans (draft_of c.args.view.now) c.args.bare.now c.requires.kinds

pub with_parents-tasks-requires-clause-stated : goal.with_parents-tasks-requires-clause-stated
with_parents-tasks-requires-clause-stated c = stated_low (draft_of c.args.view.now) c.args.bare.now (edge c.in-Ok.stated) c.requires.kinds c.in-Ok.ensures

pub returns : goal.returns
returns c = subst (λ (later : ℕ → ℕ → Bool). IfOk c.with_parents-tasks.result (λ ts. AreParented later c.args.bare.now ts (length c.args.bare.now))) (λ i t u. c.in-Ok.ensures u t i) c.with_parents-tasks.ensures
