use Rattle.std.proofs.Common.{None, subst, arith, w64, to_z, of_z}
use Rattle.std.proofs.lemmas.List.Elements.{All-more}
use Rattle.peak_tree.specs.Numbers.{StaysInRange}
use Rattle.integration_tests.proofs.peaks.all_stay.Goals as goal

pub loop-position-preserved : goal.loop-position-preserved
loop-position-preserved c =
    let stays = c.stays.ensures c.if-not-stays.false in
    All-more (StaysInRange (to_z w64 (of_z w64 c.args.delta))) c.args.tree.now c.loop-position.position None (omega (arith, c.loop-position-test.true, c.requires)) c.loop-position.invariant
    (subst (StaysInRange (to_z w64 (of_z w64 c.args.delta))) c.value.ensures stays)
