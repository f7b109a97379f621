use Rattle.digraph.proofs.KahnLemmas.{Rooted}
use Rattle.digraph.proofs.kahn.roots.Given as goal

abbrev pub invariant-loop-i : goal.invariant-loop-i
invariant-loop-i l = Rooted l.counts l.i l.nodes.items
