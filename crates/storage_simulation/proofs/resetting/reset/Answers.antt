use Rattle.std.proofs.Common.{[], refl, ◌∙◌}
use Rattle.storage_simulation.specs.code.Ordering.{progress}
use Rattle.storage_simulation.proofs.ResettingLemmas.{missing_few, reset_is}
use Rattle.storage_simulation.proofs.resetting.reset.Goals as goal

pub reset_missing-requires-clause-few : goal.reset_missing-requires-clause-few
reset_missing-requires-clause-few c = λ t. missing_few c.args.plan.now (progress c.args.standing.now) [] t c.requires.orderable c.requires.limits

pub returns : goal.returns
returns c = reset_is c.args.plan.now c.args.standing.now c.args.front.now _ c.requires.made_for c.requires.orderable c.requires.limits c.requires.standing c.requires.within (record {
  placed = c.clear.ensures.items;
  room = c.clear.ensures.capacity;
  graph = refl;
  done_long = c.reset_done.ensures.long;
  done_is = c.reset_done.ensures.each;
  missing_long = c.reset_missing.ensures.long;
  missing_is = c.reset_missing.ensures.each;
  used_long = c.reset_used.ensures.long;
  used_is = c.reset_used.ensures.each;
  peaks = c.copy_used.ensures ∙ c.deref.ensures.value;
})
