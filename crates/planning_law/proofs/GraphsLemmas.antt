-- Graphs of the same jobs and pairs have the same lists of parents and children, so levels and schedules of one are those of the other.
use Rattle.std.proofs.Common.{◌≡◌, ℕ, zero, suc, ◌+◌, ◌<◌, ◌≤◌, ◌||◌, ◌&&◌, max, Bool, ltb, List, [], ◌∷◌, length, map, get_or, refl, sym, ap, subst, ◌∙◌, arith}
use Rattle.std.specs.Prelude.{◌==◌, if◌then◌else◌, slice_index_or}
use Rattle.std.specs.List.{list_any}
use Rattle.std.proofs.lemmas.Bool.{lt-ltb, ltb-true}
use Rattle.std.proofs.lemmas.List.{ext_get_or}
use Rattle.values.specs.declared.numbers.JobId.{JobId}
use Rattle.workflow_core.specs.declared.workflow.Job.{Job}
use Rattle.workflow_core.specs.declared.workflow.Workflow.{Workflow}
use Rattle.workflow_core.specs.WellFormed.{child_of, parent_of, inputs_of, outputs_of}
use Rattle.digraph.specs.Adjacency.{AreNeighbours, IsRising, neighbours}
use Rattle.dependency_graph.specs.Edges.{edge, is_among}
use Rattle.dependency_graph.specs.Graph.{IsGraphOf, Links, jobs_at, numbers}
use Rattle.dependency_graph.specs.Levels.{AreLevels, above_all, is_kept}
use Rattle.list_schedule.specs.Estimates.{Estimates, cost}
use Rattle.list_schedule.specs.Ranks.{AreRanks, farthest}
use Rattle.list_schedule.specs.Schedule.{IsHeft, IsPlaced, Schedule, candidate, finish, free_after, latest}
use Rattle.planning_law.proofs.ListsLemmas.{IsOrderedBy, NeverBoth, one_by_map, one_jobs, one_order}

-- ---- edges

abbrev passes_by : List Job → ℕ → ℕ → Bool
passes_by js a b = list_any (λ f. is_among f (slice_index_or (map outputs_of js) a [])) (slice_index_or (map inputs_of js) b [])

abbrev paired_by : List (JobId × JobId) → ℕ → ℕ → Bool
paired_by ps a b = list_any (λ (p : JobId × JobId). parent_of p == a && child_of p == b) ps

edge_is : (w : Workflow) (a b : ℕ) → edge w a b ≡ (passes_by w.jobs a b || paired_by w.pairs a b)
unfolding edge
edge_is w a b = refl

same_edge : (v w : Workflow) → v.jobs ≡ w.jobs → v.pairs ≡ w.pairs → (a b : ℕ) → edge v a b ≡ edge w a b
same_edge v w jobs pairs a b =
    edge_is v a b ∙ ap (λ (js : List Job). passes_by js a b || paired_by v.pairs a b) jobs
    ∙ ap (λ (ps : List (JobId × JobId)). passes_by w.jobs a b || paired_by ps a b) pairs ∙ sym (edge_is w a b)

-- ---- lists of neighbours

never_less : NeverBoth ltb
never_less a b one two = let l = ltb-true a b one in let m = ltb-true b a two in omega (arith, l, m)

rising_ordered : (ns : List ℕ) → IsRising ns → IsOrderedBy ltb ns
rising_ordered [] rises i j l m = absurd (omega (arith, l, m))
rising_ordered (n ∷ ns) rises zero zero l m = absurd (omega (arith, l))
rising_ordered (n ∷ ns) rises (suc i) zero l m = absurd (omega (arith, l))
rising_ordered (n ∷ ns) rises zero (suc j) l m = lt-ltb n (get_or ns j 0) (rises.0 j 0 (omega (arith, m)))
rising_ordered (n ∷ ns) rises (suc i) (suc j) l m = rising_ordered ns rises.1 i j (omega (arith, l)) (omega (arith, m))

one_neighbours : (e f : ℕ → ℕ → Bool) (count many : ℕ) (ls ms : List (List ℕ)) → count ≡ many → ((a b : ℕ) → e a b ≡ f a b) → AreNeighbours e count ls → AreNeighbours f many ms → ls ≡ ms
one_neighbours e f count many ls ms long same first second = ext_get_or [] ls ms (first.long ∙ long ∙ sym second.long) (λ k low. each k)
  where
    each : (k : ℕ) → neighbours ls k ≡ neighbours ms k
    each k = one_order ltb never_less (neighbours ls k) (neighbours ms k) (rising_ordered (neighbours ls k) (first.rising k)) (rising_ordered (neighbours ms k) (second.rising k)) (λ a. first.same k a ∙ same k a ∙ sym (second.same k a))

one_lists : (xs ys : List (List JobId)) → map numbers xs ≡ map numbers ys → xs ≡ ys
one_lists xs ys same = one_by_map numbers one_jobs xs ys same

jobs_many : (v w : Workflow) → v.jobs ≡ w.jobs → length v.jobs ≡ length w.jobs
jobs_many v w jobs = ap (λ (js : List Job). length js) jobs

pub same_parents : (v w : Workflow) (g k : Links) → v.jobs ≡ w.jobs → v.pairs ≡ w.pairs → IsGraphOf v g → IsGraphOf w k → g.parents ≡ k.parents
same_parents v w g k jobs pairs first second = one_lists g.parents k.parents
    (one_neighbours (λ b a. edge v a b) (λ b a. edge w a b) (length v.jobs) (length w.jobs) (map numbers g.parents) (map numbers k.parents) (jobs_many v w jobs) (λ b a. same_edge v w jobs pairs a b) first.parents second.parents)

pub same_children : (v w : Workflow) (g k : Links) → v.jobs ≡ w.jobs → v.pairs ≡ w.pairs → IsGraphOf v g → IsGraphOf w k → g.children ≡ k.children
same_children v w g k jobs pairs first second = one_lists g.children k.children
    (one_neighbours (edge v) (edge w) (length v.jobs) (length w.jobs) (map numbers g.children) (map numbers k.children) (jobs_many v w jobs) (same_edge v w jobs pairs) first.children second.children)

-- ---- levels and schedules

abbrev level_above : List (List JobId) → List Bool → List ℕ → ℕ → ℕ
level_above parents kept levels a = if is_kept kept a then above_all kept levels (jobs_at parents a) else 0

pub levels_over : (g k : Links) (kept : List Bool) (levels : List ℕ) → g.parents ≡ k.parents → AreLevels g kept levels → AreLevels k kept levels
levels_over g k kept levels parents are = record {
  long = are.long;
  each = λ a low. are.each a low ∙ ap (λ (ls : List (List JobId)). level_above ls kept levels a) parents;
}

ranks_over : (g k : Links) (kept : List Bool) (e : Estimates) (ranks : List ℕ) → g.children ≡ k.children → AreRanks g kept e ranks → AreRanks k kept e ranks
ranks_over g k kept e ranks children are = record {
  long = are.long;
  each = λ a on. are.each a on ∙ ap (λ (ls : List (List JobId)). cost e a + farthest kept e ranks a (jobs_at ls a)) children;
}

abbrev start_by : List (List JobId) → List Bool → Estimates → Schedule → List ℕ → ℕ → ℕ → ℕ
start_by parents kept e h placed a s = max (free_after h s 0 placed) (latest kept e h a s (jobs_at parents a))

abbrev finish_by : List (List JobId) → List Bool → Estimates → Schedule → List ℕ → ℕ → ℕ → ℕ
finish_by parents kept e h placed a s = start_by parents kept e h placed a s + e.time a s

placed_over : (g k : Links) (kept : List Bool) (e : Estimates) (h : Schedule) (placed : List ℕ) (a : ℕ) → g.parents ≡ k.parents → IsPlaced g kept e h placed a → IsPlaced k kept e h placed a
placed_over g k kept e h placed a parents is = record {
  choice = is.choice;
  among = is.among;
  at = is.at;
  begins = is.begins ∙ ap (λ (ls : List (List JobId)). start_by ls kept e h placed a (candidate e a is.choice)) parents;
  ends = is.ends ∙ ap (λ (ls : List (List JobId)). finish_by ls kept e h placed a (candidate e a is.choice)) parents;
  least = λ i low. subst (λ (ls : List (List JobId)). finish h a ≤ finish_by ls kept e h placed a (candidate e a i)) parents (is.least i low);
  first = λ i low. subst (λ (ls : List (List JobId)). finish h a < finish_by ls kept e h placed a (candidate e a i)) parents (is.first i low);
}

pub heft_over : (g k : Links) (kept : List Bool) (e : Estimates) (h : Schedule) → g.parents ≡ k.parents → g.children ≡ k.children → IsHeft g kept e h → IsHeft k kept e h
heft_over g k kept e h parents children is = record {
  ranks = is.ranks;
  are_ranks = ranks_over g k kept e is.ranks children is.are_ranks;
  order = is.order;
  sites = is.sites;
  starts = is.starts;
  finishes = is.finishes;
  placed = λ i low. placed_over g k kept e h _ _ parents (is.placed i low);
  no_site = is.no_site;
  no_start = is.no_start;
  no_finish = is.no_finish;
}
