use Rattle.std.proofs.Common.{◌≡◌, ◌<◌, ◌∙◌, ℕ, length, below_more, sym, subst, arith}
use Rattle.digraph.proofs.AdjacencyLemmas.{length_lists_of}
use Rattle.digraph.proofs.CycleLemmas.{named, no_answer}
use Rattle.digraph.proofs.OrderLemmas.{returns_in}
use Rattle.digraph.specs.code.Adjacency.{leads, lists_of}
use Rattle.digraph.specs.Cycle.{Returns}
use Rattle.digraph.specs.code.Ranks.{AreRanks}
use Rattle.digraph.proofs.cycle.named_cycle.Goals as goal

pub stays_away-requires-clause-ranks : goal.stays_away-requires-clause-ranks
stays_away-requires-clause-ranks c = subst (AreRanks (leads (lists_of c.args.successors.now))) (sym c.deref.ensures.value) c.in_ok-ranks.ensures.ranks

pub loop-node-preserved-then-stays_away : goal.loop-node-preserved-then-stays_away
loop-node-preserved-then-stays_away c = below_more (λ a. Returns (leads (lists_of c.args.successors.now)) a → ⊥) c.loop-node.node c.loop-node.invariant (c.stays_away.ensures c.if-stays_away.true)

pub returns-in-Some-clause-cycle : goal.returns-in-Some-clause-cycle
returns-in-Some-clause-cycle c = named (leads (lists_of c.args.successors.now)) c.loop-node.node c.in-Some.cycle.items c.loop-node.invariant (rw c.in-Some.is at c.in_ok-cycle.ensures.cycle)

pub loop-node-preserved : goal.loop-node-preserved
loop-node-preserved c =
    below_more (λ a. Returns (leads (lists_of c.args.successors.now)) a → ⊥) c.loop-node.node c.loop-node.invariant
    (no_answer c.in_ok-cycle.field-0 _ _ (λ x e. c.in_default.not-Some x e) c.in_ok-cycle.ensures.cycle)

pub returns-clause-cycle : goal.returns-clause-cycle
returns-clause-cycle c = λ a back.
    let low : a < length (lists_of c.args.successors.now) = returns_in (lists_of c.args.successors.now) a back in
    c.loop-node.invariant a (omega (arith, low, length_lists_of c.args.predecessors.now, length_lists_of c.args.successors.now, c.requires.linked.long, c.requires.few, c.loop-node-test.false)) back
