use Rattle.std.proofs.Common.{take}
use Rattle.digraph.specs.code.Nearest.{IsNearest}
use Rattle.digraph.proofs.nearest.nearest.Given as goal

abbrev pub invariant-loop-node : goal.invariant-loop-node
invariant-loop-node l = IsNearest l.table (take l.node-index l.nodes) l.best
