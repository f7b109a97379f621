use Rattle.std.proofs.Common.{ℕ, take, get_or, sym}
use Rattle.std.proofs.lemmas.List.{take_more}
use Rattle.digraph.proofs.NearestLemmas.{nearest_more}
use Rattle.digraph.proofs.nearest.nearest.Goals as goal

pub loop-node-preserved : goal.loop-node-preserved
loop-node-preserved c =
    let node : ℕ = get_or c.args.nodes.now c.loop-node.node-index 0 in
    rw (take_more c.args.nodes.now c.loop-node.node-index 0 c.loop-node-test.true, c.lesser-best.ensures)
    (nearest_more c.args.table.now (take c.loop-node.node-index c.args.nodes.now) node c.loop-node.best c.distance_at.result c.loop-node.invariant (sym c.distance_at.ensures))
