use Rattle.std.proofs.Common.{◌≡◌, ◌∙◌, Bool, ℕ, List, length, ap, subst, sym, refl}
use Rattle.std.specs.Prelude.{Option, Vec, Err}
use Rattle.std.specs.declared.alloc.Global.{Global}
use Rattle.std.proofs.Math.Path.{fun_ext}
use Rattle.values.specs.declared.numbers.JobId.{JobId}
use Rattle.digraph.specs.code.Adjacency.{lists_of}
use Rattle.digraph.specs.Adjacency.{neighbours, has_node}
use Rattle.digraph.specs.code.Cycle.{IsNamedCycle}
use Rattle.digraph.specs.code.Digraph as digraph
use Rattle.dependency_graph.specs.declared.fault.GraphFault.{GraphFault}
use Rattle.dependency_graph.specs.Edges.{edge}
use Rattle.dependency_graph.specs.code.Built.{AreProducers, Builds}
use Rattle.dependency_graph.proofs.BuiltLemmas.{one_producer}
use Rattle.dependency_graph.proofs.GraphLemmas.{graph_is}
use Rattle.dependency_graph.proofs.built.build.Goals as goal

pub returns-in_ok-graph_of-in-Some : goal.returns-in_ok-graph_of-in-Some
returns-in_ok-graph_of-in-Some c =
    let same : digraph.edge c.in_ok-digraph.digraph ≡ edge c.args.workflow.now =
    fun_ext (λ a. fun_ext (λ b. c.in_ok-digraph.ensures.edges a b ∙ ap (λ (vs : List (Vec ℕ Global)). has_node a (neighbours (lists_of vs) b)) c.deref-2.ensures.value ∙ c.in_ok-sources.ensures.edges a b)) in
    record {
      answer = graph_is c.args.workflow.now c.in_ok-graph_of-in-Some.field-0 (digraph.edge c.in_ok-digraph.digraph) (digraph.count c.in_ok-digraph.digraph) c.in-Some.order.items
          same (c.in_ok-digraph.ensures.count ∙ ap length c.deref-2.ensures.value ∙ c.in_ok-sources.ensures.long)
          (subst (λ (ps : List (Option JobId)). AreProducers c.args.workflow.now ps) (sym c.in_ok-graph_of-in-Some.ensures.producers) c.in_ok-producers.ensures)
          c.in_ok-graph_of-in-Some.ensures.parents c.in_ok-graph_of-in-Some.ensures.children
          (c.in_ok-graph_of-in-Some.ensures.ordered ∙ c.deref-in-Some.ensures.value) (rw c.in-Some.is at c.in_ok-order.ensures.order) (rw c.in-Some.is at c.in_ok-order.ensures.acyclic);
    }

pub returns-in_ok-cycle_fault-in-None : goal.returns-in_ok-cycle_fault-in-None
returns-in_ok-cycle_fault-in-None c =
    let same : digraph.edge c.in_ok-digraph.digraph ≡ edge c.args.workflow.now =
    fun_ext (λ a. fun_ext (λ b. c.in_ok-digraph.ensures.edges a b ∙ ap (λ (vs : List (Vec ℕ Global)). has_node a (neighbours (lists_of vs) b)) c.deref-2.ensures.value ∙ c.in_ok-sources.ensures.edges a b)) in
    let fault = c.in_ok-cycle_fault-in-None.ensures in
    record {
      answer = subst (λ (e : GraphFault). Builds c.args.workflow.now (Err e)) (sym fault.2) (record {
        one_producer = one_producer c.args.workflow.now c.in_ok-producers.producers.items c.in_ok-producers.ensures;
        jobs = fault.0;
        cycle = subst (λ (e : ℕ → ℕ → Bool). IsNamedCycle e fault.0) same fault.1;
        ids_are = refl;
      });
    }
