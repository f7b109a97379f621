-- The ranks of kept jobs are one, and so is their order by rank.
use Rattle.std.proofs.Common.{◌≡◌, ℕ, zero, suc, ◌+◌, ◌<◌, ◌||◌, ◌&&◌, Bool, true, false, cond, eqb, ltb, List, [], ◌∷◌, length, drop, get_or, refl, sym, ap, subst, ◌∙◌, nat_eq, arith}
use Rattle.std.proofs.lemmas.Bool.{both_ways, eqb-true, eq-eqb}
use Rattle.std.proofs.lemmas.List.{drop_all}
use Rattle.values.specs.declared.numbers.JobId.{JobId}
use Rattle.workflow_core.specs.declared.workflow.Workflow.{Workflow}
use Rattle.digraph.specs.Adjacency.{has_node}
use Rattle.dependency_graph.specs.Graph.{IsGraphOf, Links, jobs_at, numbers}
use Rattle.dependency_graph.specs.Levels.{is_kept}
use Rattle.dependency_graph.proofs.TestLemmas.{has_at}
use Rattle.list_schedule.specs.Estimates.{Estimates, cost}
use Rattle.list_schedule.specs.Ranks.{AreRanks, IsRankOrder, comes_first, farthest, rank}
use Rattle.list_schedule.proofs.GraphLemmas.{IsNext, by_bool, next_is, times_has}
use Rattle.heft_selector.proofs.SelectLemmas.{kept_low}
use Rattle.planning_law.proofs.ListsLemmas.{IsOrderedBy, NeverBoth, never_falling, one_order, told}

-- ---- ranks

in_head : (c : JobId) (cs : List JobId) → has_node c.0 (numbers (c ∷ cs)) ≡ true
in_head c cs = ap (λ (t : Bool). t || has_node c.0 (numbers cs)) (eq-eqb c.0 c.0 refl)

in_tail : (c : JobId) (cs : List JobId) (b : ℕ) → has_node b (numbers cs) ≡ true → has_node b (numbers (c ∷ cs)) ≡ true
in_tail c cs b there = by (nat_eq c.0 b) (has_node b (numbers cs)) there
  where
    by : (t u : Bool) → u ≡ true → (t || u) ≡ true
    by true u h = refl
    by false u h = h

-- how far it is to kept children of the same ranks
far_same : (kept : List Bool) (e : Estimates) (one two : List ℕ) (a : ℕ) (cs : List JobId) → ((c : ℕ) → has_node c (numbers cs) ≡ true → is_kept kept c ≡ true → rank one c ≡ rank two c) → farthest kept e one a cs ≡ farthest kept e two a cs
far_same kept e one two a [] same = refl
far_same kept e one two a (c ∷ cs) same =
    let here : cond {A = ℕ} (is_kept kept c.0) (e.move a c.0 + rank one c.0) 0 ≡ cond {A = ℕ} (is_kept kept c.0) (e.move a c.0 + rank two c.0) 0
    = by (is_kept kept c.0) (λ on. same c.0 (in_head c cs) on) in
    let rest = far_same kept e one two a cs (λ b there on. same b (in_tail c cs b there) on) in
    omega (arith, here, rest)
  where
    by : (t : Bool) → (t ≡ true → rank one c.0 ≡ rank two c.0) → cond {A = ℕ} t (e.move a c.0 + rank one c.0) 0 ≡ cond {A = ℕ} t (e.move a c.0 + rank two c.0) 0
    by true f = ap (λ (n : ℕ). e.move a c.0 + n) (f refl)
    by false f = refl

-- kept jobs have the same ranks from a place of the graph's order on, where those after it have
same_earlier : (w : Workflow) (g : Links) (kept : List Bool) (e : Estimates) (one two : List ℕ) → IsGraphOf w g → AreRanks g kept e one → AreRanks g kept e two
    → (k : ℕ) → k < length (numbers g.ordered) → ((c : ℕ) → has_node c (drop (k + 1) (numbers g.ordered)) ≡ true → is_kept kept c ≡ true → rank one c ≡ rank two c)
    → (a : ℕ) → has_node a (drop k (numbers g.ordered)) ≡ true → is_kept kept a ≡ true → rank one a ≡ rank two a
same_earlier w g kept e one two graph first second k low later a there on = by_bool (nat_eq j a)
    (λ t. let is : j ≡ a = eqb-true j a t in subst (λ (n : ℕ). rank one n ≡ rank two n) is (here (subst (λ (n : ℕ). is_kept kept n ≡ true) (sym is) on)))
    (λ f. later a (sym (ap (λ (t : Bool). t || has_node a (drop (k + 1) (numbers g.ordered))) f) ∙ sym (next.more a) ∙ there) on)
  where
    j : ℕ
    j = get_or (numbers g.ordered) k 0

    next : IsNext g k j
    next = next_is w g graph k low

    here : is_kept kept j ≡ true → rank one j ≡ rank two j
    here kept_j =
        first.each j kept_j
        ∙ ap (λ (n : ℕ). cost e j + n) (far_same kept e one two j (jobs_at g.children j) (λ c child kept_c. later c (next.children c child) kept_c))
        ∙ sym (second.each j kept_j)

same_from : (w : Workflow) (g : Links) (kept : List Bool) (e : Estimates) (one two : List ℕ) → IsGraphOf w g → AreRanks g kept e one → AreRanks g kept e two
    → (m k : ℕ) → k + m ≡ length (numbers g.ordered) → (a : ℕ) → has_node a (drop k (numbers g.ordered)) ≡ true → is_kept kept a ≡ true → rank one a ≡ rank two a
same_from w g kept e one two graph first second zero k many a there on = absurd (both_ways (has_node a (drop k (numbers g.ordered))) (ap (has_node a) (drop_all k (numbers g.ordered) (omega (arith, many)))) there)
same_from w g kept e one two graph first second (suc m) k many a there on =
    same_earlier w g kept e one two graph first second k (omega (arith, many)) (same_from w g kept e one two graph first second m (k + 1) (omega (arith, many))) a there on

pub one_rank : (w : Workflow) (g : Links) (kept : List Bool) (e : Estimates) (one two : List ℕ) → IsGraphOf w g → length kept ≡ length w.jobs → AreRanks g kept e one → AreRanks g kept e two
    → (a : ℕ) → is_kept kept a ≡ true → rank one a ≡ rank two a
one_rank w g kept e one two graph long first second a on =
    let low = kept_low kept a on in
    let once = graph.order.each_once a (omega (arith, low, long)) in
    same_from w g kept e one two graph first second (length (numbers g.ordered)) 0 (omega arith) a (times_has a (numbers g.ordered) (omega (arith, once))) on

-- ---- the order by rank

never_first : (ranks : List ℕ) → NeverBoth (comes_first ranks)
never_first ranks a b one two = never_falling (rank ranks a) (rank ranks b) a b (told (ltb (rank ranks b) (rank ranks a)) (rank ranks a) (rank ranks b) a b one) (told (ltb (rank ranks a) (rank ranks b)) (rank ranks b) (rank ranks a) b a two)

-- `comes_first`, by the two jobs' ranks
abbrev by_ranks : ℕ → ℕ → ℕ → ℕ → Bool
by_ranks q r b a = ltb r q || (eqb q r && ltb b a)

pub one_rank_order : (kept : List Bool) (one two : List ℕ) → ((a : ℕ) → is_kept kept a ≡ true → rank one a ≡ rank two a) → (xs ys : List ℕ) → IsRankOrder kept one xs → IsRankOrder kept two ys → xs ≡ ys
one_rank_order kept one two same xs ys first second = one_order (comes_first one) (never_first one) xs ys first.falling falling (λ a. first.kept_ones a ∙ sym (second.kept_ones a))
  where
    equal : (i : ℕ) → i < length ys → rank one (get_or ys i 0) ≡ rank two (get_or ys i 0)
    equal i low = same (get_or ys i 0) (sym (second.kept_ones (get_or ys i 0)) ∙ has_at ys i low)

    falling : IsOrderedBy (comes_first one) ys
    falling i j less low =
        ap (λ (n : ℕ). by_ranks n (rank one (get_or ys j 0)) (get_or ys i 0) (get_or ys j 0)) (equal i (omega (arith, less, low)))
        ∙ ap (λ (n : ℕ). by_ranks (rank two (get_or ys i 0)) n (get_or ys i 0) (get_or ys j 0)) (equal j low)
        ∙ second.falling i j less low
