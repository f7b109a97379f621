use Rattle.std.proofs.Common.{◌≡◌, ℕ, length, sym, subst, arith}
use Rattle.digraph.specs.code.Adjacency.{lists_of, leads}
use Rattle.digraph.specs.Order.{IsTopologicalOrder}
use Rattle.digraph.proofs.AdjacencyLemmas.{length_lists_of}
use Rattle.digraph.proofs.OrderLemmas.{placed_order, none_placed, none_returns}
use Rattle.digraph.proofs.order.topological_order.Goals as goal

pub returns-then-len-predecessors : goal.returns-then-len-predecessors
returns-then-len-predecessors c =
    let all : length c.in_ok-placement.placement.ordered.items ≡ length (lists_of c.args.predecessors.now) = omega (arith, c.if-len-predecessors.true, c.len.ensures, c.in_ok-placement.placement.ordered.ok, length_lists_of c.args.predecessors.now) in
    let order : IsTopologicalOrder (leads (lists_of c.args.successors.now)) (length c.args.predecessors.now) c.in_ok-placement.placement.ordered.items = subst (λ (n : ℕ). IsTopologicalOrder (leads (lists_of c.args.successors.now)) n c.in_ok-placement.placement.ordered.items) (length_lists_of c.args.predecessors.now)
    (placed_order (lists_of c.args.predecessors.now) (lists_of c.args.successors.now) c.in_ok-placement.placement.ordered.items c.in_ok-placement.placement.counts.items c.requires.linked c.in_ok-placement.ensures all) in
    record { order = order; acyclic = none_returns (lists_of c.args.predecessors.now) (lists_of c.args.successors.now) c.in_ok-placement.placement.ordered.items c.requires.linked (subst (λ (n : ℕ). IsTopologicalOrder (leads (lists_of c.args.successors.now)) n c.in_ok-placement.placement.ordered.items) (sym (length_lists_of c.args.predecessors.now)) order) }

pub returns-else-len-predecessors : goal.returns-else-len-predecessors
returns-else-len-predecessors c =
    record {
      order = none_placed (lists_of c.args.predecessors.now) (lists_of c.args.successors.now) c.in_ok-placement.placement.ordered.items c.in_ok-placement.placement.counts.items c.requires.linked c.in_ok-placement.ensures
          (λ e. c.if-len-predecessors.false (omega (arith, e, c.len.ensures, c.in_ok-placement.placement.ordered.ok, length_lists_of c.args.predecessors.now)));
      acyclic = tt;
    }
