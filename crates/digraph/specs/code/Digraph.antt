-- A directed graph: how many nodes it has, and whether an edge leads from one to another.
use Rattle.std.specs.Prelude.{ℕ, Bool, length}
use Rattle.digraph.specs.declared.digraph.Digraph.{Digraph}
use Rattle.digraph.specs.code.Adjacency.{lists_of, leads}

abbrev pub count : Digraph → ℕ
count g = length g.predecessors.items

abbrev pub edge : Digraph → ℕ → ℕ → Bool
edge g = leads (lists_of g.successors.items)
