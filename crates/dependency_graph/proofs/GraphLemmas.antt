-- A graph of jobs, and of their numbers.
use Rattle.std.proofs.Common.{◌≡◌, ℕ, zero, suc, ◌<◌, Bool, true, List, [], ◌∷◌, length, map, take, refl, sym, ap, subst, ◌∙◌, arith}
use Rattle.std.specs.Prelude.{Option, Some, None, MatchOption, is_some, slice_index_or}
use Rattle.std.specs.List.{All}
use Rattle.std.proofs.lemmas.List.{get_or-map, length-map}
use Rattle.values.specs.declared.numbers.JobId.{JobId}
use Rattle.workflow_core.specs.declared.workflow.Workflow.{Workflow}
use Rattle.dependency_graph.proofs.BuiltLemmas.{one_producer}
use Rattle.dependency_graph.proofs.EdgesLemmas.{first_producer, no_producer}
use Rattle.dependency_graph.specs.code.Built.{AreProducers}
use Rattle.dependency_graph.specs.Edges.{edge, makers, producer}
use Rattle.dependency_graph.specs.Graph.{IsGraphOf, Links, producer_of_file, numbers}
use Rattle.digraph.specs.Adjacency.{AreNeighbours, has_node}
use Rattle.digraph.specs.Cycle.{Returns}
use Rattle.digraph.specs.Order.{IsTopologicalOrder}

take_numbers : (i : ℕ) (js : List JobId) → take i (numbers js) ≡ numbers (take i js)
take_numbers zero js = refl
take_numbers (suc i) [] = refl
take_numbers (suc i) (j ∷ js) = ap (λ (ns : List ℕ). j.0 ∷ ns) (take_numbers i js)

-- who leads to a job comes before it
pub comes_first : (w : Workflow) (g : Links) → IsGraphOf w g → (i : ℕ) (a : JobId) → i < length g.ordered → slice_index_or g.ordered i a ≡ a → (p : ℕ) → edge w p a.0 ≡ true → has_node p (numbers (take i g.ordered)) ≡ true
comes_first w g graph i a h at p into =
    ap (has_node p) (sym (take_numbers i g.ordered))
    ∙ graph.order.in_order i a.0 (omega (arith, h, length-map g.ordered (λ (j : JobId). j.0))) (get_or-map (λ (j : JobId). j.0) g.ordered i a a.0 h ∙ ap (λ (j : JobId). j.0) at) p into

-- the numbers of a graph's order are in range
pub numbers_in : (n : ℕ) (js : List JobId) → All (λ a. a < n) (numbers js) → All (λ (j : JobId). j.0 < n) js
numbers_in n js all i d h = subst (λ (x : ℕ). x < n) (get_or-map (λ (j : JobId). j.0) js i d d.0 h) (all i d.0 (omega (arith, h, length-map js (λ (j : JobId). j.0))))

-- a file has a producer where the graph has one for it
pub known_maker : (w : Workflow) (g : Links) → IsGraphOf w g → (f : ℕ) → f < length g.producers → (o : Option JobId) → producer_of_file g.producers f ≡ o → is_some (producer w.jobs f) ≡ is_some o
known_maker w g graph f h None e = ap is_some (no_producer w f (subst (λ (o : Option JobId). MatchOption o (makers w f ≡ []) (λ (j : JobId). makers w f ≡ j.0 ∷ [])) e (graph.producer f (omega (arith, h, graph.files)))))
known_maker w g graph f h (Some j) e = ap is_some (first_producer w f j.0 [] (subst (λ (o : Option JobId). MatchOption o (makers w f ≡ []) (λ (j : JobId). makers w f ≡ j.0 ∷ [])) e (graph.producer f (omega (arith, h, graph.files))))).1

-- the graph of the numbers is the graph of the jobs
pub graph_is : (w : Workflow) (g : Links) (e : ℕ → ℕ → Bool) (count : ℕ) (order : List ℕ) → e ≡ edge w → count ≡ length w.jobs → AreProducers w g.producers
    → AreNeighbours (λ b a. e a b) count (map numbers g.parents) → AreNeighbours e count (map numbers g.children) → numbers g.ordered ≡ order → IsTopologicalOrder e count order → ((a : ℕ) → Returns e a → ⊥) → IsGraphOf w g
graph_is w g e count order same many are parents children ordered is_order none = record {
  sound = record { one_producer = one_producer w g.producers are; no_return = λ a back. none a (subst (λ (e : ℕ → ℕ → Bool). Returns e a) (sym same) back) };
  files = are.long;
  producer = are.each;
  parents = subst (λ (e : ℕ → ℕ → Bool). AreNeighbours (λ b a. e a b) (length w.jobs) (map numbers g.parents)) same (subst (λ (n : ℕ). AreNeighbours (λ b a. e a b) n (map numbers g.parents)) many parents);
  children = subst (λ (e : ℕ → ℕ → Bool). AreNeighbours e (length w.jobs) (map numbers g.children)) same (subst (λ (n : ℕ). AreNeighbours e n (map numbers g.children)) many children);
  in_range = numbers_in (length w.jobs) g.ordered here.in_range;
  order = here;
}
  where
    here : IsTopologicalOrder (edge w) (length w.jobs) (numbers g.ordered)
    here = subst (λ (ns : List ℕ). IsTopologicalOrder (edge w) (length w.jobs) ns) (sym ordered) (subst (λ (e : ℕ → ℕ → Bool). IsTopologicalOrder e (length w.jobs) order) same (subst (λ (n : ℕ). IsTopologicalOrder e n order) many is_order))
