use Rattle.std.proofs.Common.{ℕ, ◌<◌}
use Rattle.digraph.specs.code.Adjacency.{leads, lists_of}
use Rattle.digraph.specs.Cycle.{Returns}
use Rattle.digraph.proofs.cycle.named_cycle.Given as goal

abbrev pub invariant-loop-node : goal.invariant-loop-node
invariant-loop-node l = (a : ℕ) → a < l.node → Returns (leads (lists_of l.successors)) a → ⊥
