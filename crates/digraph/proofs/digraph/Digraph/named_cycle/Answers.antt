use Rattle.std.proofs.Common.{ℕ, List, subst}
use Rattle.std.specs.Prelude.{MatchOption, Vec}
use Rattle.std.specs.declared.alloc.Global.{Global}
use Rattle.digraph.specs.code.Adjacency.{lists_of, leads}
use Rattle.digraph.specs.Cycle.{Returns}
use Rattle.digraph.specs.code.Cycle.{IsNamedCycle}
use Rattle.digraph.proofs.digraph.Digraph.named_cycle.Goals as goal

pub returns-clause-cycle : goal.returns-clause-cycle
returns-clause-cycle c =
    subst (λ (ss : List (Vec ℕ Global)). MatchOption c.in_ok-cycle.cycle ((a : ℕ) → Returns (leads (lists_of ss)) a → ⊥) (λ (ns : Vec ℕ Global). IsNamedCycle (leads (lists_of ss)) ns.items)) c.deref-2.ensures.value c.in_ok-cycle.ensures.cycle
