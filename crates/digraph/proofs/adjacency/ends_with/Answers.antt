use Rattle.std.proofs.Common.{arith, ◌<◌, length}
use Rattle.digraph.proofs.ScatterLemmas.{ends_last}
use Rattle.digraph.proofs.adjacency.ends_with.Goals as goal

pub returns-in-len1-up : goal.returns-in-len1-up
returns-in-len1-up c = let some : 0 < length c.args.list.now = omega arith in ends_last c.args.list.now c.args.node 0 some
