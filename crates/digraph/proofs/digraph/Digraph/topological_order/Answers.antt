use Rattle.std.proofs.Common.{ℕ, List, subst}
use Rattle.std.specs.Prelude.{MatchOption, Vec}
use Rattle.std.specs.declared.alloc.Global.{Global}
use Rattle.digraph.specs.code.Adjacency.{lists_of, leads}
use Rattle.digraph.specs.Cycle.{Returns}
use Rattle.digraph.proofs.digraph.Digraph.topological_order.Goals as goal

pub returns-clause-acyclic : goal.returns-clause-acyclic
returns-clause-acyclic c =
    subst (λ (ss : List (Vec ℕ Global)). MatchOption c.in_ok-order.order (Unit {0}) (λ (_ : Vec ℕ Global). (a : ℕ) → Returns (leads (lists_of ss)) a → ⊥)) c.deref-2.ensures.value c.in_ok-order.ensures.acyclic
