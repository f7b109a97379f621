use Rattle.std.proofs.Common.{◌≡◌, ◌<◌, ◌||◌, ◌&&◌, ◌∙◌, ℕ, nat_eq, List, length, map, get_or, sym, ap, subst, arith}
use Rattle.std.specs.List.{All, list_any}
use Rattle.std.proofs.lemmas.List.{length-map}
use Rattle.workflow_core.specs.declared.workflow.Job.{Job}
use Rattle.workflow_core.specs.WellFormed.{inputs_of}
use Rattle.digraph.specs.code.Adjacency.{lists_of}
use Rattle.digraph.specs.Adjacency.{neighbours, has_node}
use Rattle.std.specs.Prelude.{Vec}
use Rattle.std.specs.declared.alloc.Global.{Global}
use Rattle.dependency_graph.specs.code.Sources.{found}
use Rattle.dependency_graph.proofs.EdgesLemmas.{pair_numbers, pairs_in, sources_in, sources_are}
use Rattle.dependency_graph.proofs.edges.sources_of.Goals as goal

pub add_pairs-requires-clause-in_range : goal.add_pairs-requires-clause-in_range
add_pairs-requires-clause-in_range c =
    let is : lists_of c.in_ok-lists.lists.items ≡ map (λ (j : Job). found c.args.producers.now (inputs_of j)) c.args.workflow.now.jobs = c.in_ok-lists.ensures ∙ ap (map (λ (j : Job). found c.args.producers.now (inputs_of j))) c.as_slice.ensures in
    let many : length c.in_ok-lists.lists.items ≡ length c.args.workflow.now.jobs = sym (length-map c.in_ok-lists.lists.items (λ (v : Vec ℕ Global). v.items)) ∙ ap length is ∙ length-map c.args.workflow.now.jobs (λ (j : Job). found c.args.producers.now (inputs_of j)) in
    let pairs : c.deref.result.now ≡ map pair_numbers c.args.workflow.now.pairs = c.deref.ensures.value ∙ c.in_ok-pairs.ensures ∙ ap (map pair_numbers) c.as_slice-2.ensures in
    subst (λ (qs : List (ℕ × ℕ)). All (λ (q : ℕ × ℕ). (q.0 < length c.in_ok-lists.lists.items) × (q.1 < length c.in_ok-lists.lists.items)) qs) (sym pairs)
    (pairs_in (length c.args.workflow.now.jobs) (length c.in_ok-lists.lists.items) c.args.workflow.now.pairs many c.requires.well_formed.pairs)

pub add_pairs-requires-clause-below : goal.add_pairs-requires-clause-below
add_pairs-requires-clause-below c =
    let is : lists_of c.in_ok-lists.lists.items ≡ map (λ (j : Job). found c.args.producers.now (inputs_of j)) c.args.workflow.now.jobs = c.in_ok-lists.ensures ∙ ap (map (λ (j : Job). found c.args.producers.now (inputs_of j))) c.as_slice.ensures in
    let many : length c.in_ok-lists.lists.items ≡ length c.args.workflow.now.jobs = sym (length-map c.in_ok-lists.lists.items (λ (v : Vec ℕ Global). v.items)) ∙ ap length is ∙ length-map c.args.workflow.now.jobs (λ (j : Job). found c.args.producers.now (inputs_of j)) in
    λ k i d h. let low : get_or (neighbours (lists_of c.in_ok-lists.lists.items) k) i d < length c.args.workflow.now.jobs = sources_in c.args.workflow.now c.args.producers.now (lists_of c.in_ok-lists.lists.items) c.requires.well_formed c.requires.producers is k i d h in omega (arith, low, many)

pub returns-clause-edges : goal.returns-clause-edges
returns-clause-edges c =
    let is : lists_of c.in_ok-lists.lists.items ≡ map (λ (j : Job). found c.args.producers.now (inputs_of j)) c.args.workflow.now.jobs = c.in_ok-lists.ensures ∙ ap (map (λ (j : Job). found c.args.producers.now (inputs_of j))) c.as_slice.ensures in
    sources_are c.args.workflow.now c.args.producers.now (lists_of c.in_ok-lists.lists.items) (lists_of c.add_pairs.new.lists.items) c.requires.well_formed c.requires.producers is
    (λ a b. c.in_ok-add_pairs.ensures.added a b
    ∙ ap (λ (qs : List (ℕ × ℕ)). has_node a (neighbours (lists_of c.in_ok-lists.lists.items) b) || list_any (λ (q : ℕ × ℕ). nat_eq q.0 a && nat_eq q.1 b) qs) (c.deref.ensures.value ∙ c.in_ok-pairs.ensures ∙ ap (map pair_numbers) c.as_slice-2.ensures))
