-- The ranks, one job more.
use Rattle.std.proofs.Common.{◌≡◌, ℕ, zero, suc, ◌+◌, ◌-◌, ◌/◌, ◌<◌, ◌≤◌, ◌||◌, ◌&&◌, max, Bool, true, false, cond, List, [], ◌∷◌, ◌++◌, length, map, take, drop, get_or, refl, sym, ap, subst, ◌∙◌, nat_eq, arith}
use Rattle.std.specs.Prelude.{sum, replicate}
use Rattle.std.proofs.lemmas.Bool.{eqb-true, eq-eqb}
use Rattle.std.proofs.lemmas.List.{take_more, drop_all, length-map}
use Rattle.values.specs.declared.numbers.JobId.{JobId}
use Rattle.workflow_core.specs.code.WellFormed.{IsWellFormed}
use Rattle.workflow_core.specs.declared.workflow.Workflow.{Workflow}
use Rattle.digraph.specs.Adjacency.{has_node, neighbours, times}
use Rattle.dependency_graph.specs.Graph.{IsGraphOf, Links, jobs_at, numbers}
use Rattle.dependency_graph.specs.Levels.{is_kept}
use Rattle.dependency_graph.proofs.LevelsLemmas.{job_is, order_long, below}
use Rattle.list_schedule.specs.Estimates.{Estimates, cost}
use Rattle.list_schedule.specs.Ranks.{rank, farthest, AreRanks}
use Rattle.list_schedule.specs.code.Tables.{moves_to, AreCosts, reach, rank_by}
use Rattle.list_schedule.proofs.GraphLemmas.{by_bool, links, after_edge, child_edge, IsNext, next_is, times_has}

pub reach_push : (ps : List JobId) (ms : List ℕ) (v a : ℕ) (p : JobId) (m : ℕ) → length ms ≡ length ps → reach (ps ++ p ∷ []) (ms ++ m ∷ []) v a ≡ max (reach ps ms v a) (cond {A = ℕ} (nat_eq p.0 a) (m + v) 0)
reach_push [] [] v a p m e = omega arith
reach_push [] (n ∷ ms) v a p m e = absurd (omega (arith, e))
reach_push (q ∷ ps) [] v a p m e = absurd (omega (arith, e))
reach_push (q ∷ ps) (n ∷ ms) v a p m e = let rest = reach_push ps ms v a p m (omega (arith, e)) in omega (arith, rest)

pub no_job : JobId
no_job = record { 0 = 0 }

-- one more of the parents is reached
pub reach_more : (ps : List JobId) (ms : List ℕ) (v a i : ℕ) (d : JobId) → length ms ≡ length ps → i < length ps
    → reach (take (i + 1) ps) (take (i + 1) ms) v a ≡ max (reach (take i ps) (take i ms) v a) (cond {A = ℕ} (nat_eq (get_or ps i d).0 a) (get_or ms i 0 + v) 0)
reach_more ps ms v a i d e l =
    ap (λ (xs : List JobId). reach xs (take (i + 1) ms) v a) (take_more ps i d l)
    ∙ ap (λ (ns : List ℕ). reach (take i ps ++ get_or ps i d ∷ []) ns v a) (take_more ms i 0 (omega (arith, e, l)))
    ∙ reach_push (take i ps) (take i ms) v a (get_or ps i d) (get_or ms i 0) (short ms ps i e)
  where
    short : (xs : List ℕ) (ys : List JobId) (i : ℕ) → length xs ≡ length ys → length (take i xs) ≡ length (take i ys)
    short xs ys zero e = refl
    short [] [] (suc i) e = refl
    short [] (y ∷ ys) (suc i) e = absurd (omega (arith, e))
    short (x ∷ xs) [] (suc i) e = absurd (omega (arith, e))
    short (x ∷ xs) (y ∷ ys) (suc i) e = let rest = short xs ys i (omega (arith, e)) in omega (arith, rest)

-- what is reached by moves to job j
pub reach_is : (e : Estimates) (j v a : ℕ) (ps : List JobId) → reach ps (moves_to e j ps) v a ≡ cond {A = ℕ} (has_node a (numbers ps)) (e.move a j + v) 0
reach_is e j v a [] = refl
reach_is e j v a (p ∷ ps) = by (nat_eq p.0 a) refl (reach_is e j v a ps)
  where
    both : (t : Bool) (n : ℕ) → max n (cond {A = ℕ} t n 0) ≡ n
    both true n = omega arith
    both false n = omega arith

    by : (t : Bool) → nat_eq p.0 a ≡ t → reach ps (moves_to e j ps) v a ≡ cond {A = ℕ} (has_node a (numbers ps)) (e.move a j + v) 0
        → max (cond {A = ℕ} t (e.move p.0 j + v) 0) (reach ps (moves_to e j ps) v a) ≡ cond {A = ℕ} (t || has_node a (numbers ps)) (e.move a j + v) 0
    by true at rest =
        ap (λ (n : ℕ). max (e.move n j + v) (reach ps (moves_to e j ps) v a)) (eqb-true p.0 a at)
        ∙ ap (λ (n : ℕ). max (e.move a j + v) n) rest ∙ both (has_node a (numbers ps)) (e.move a j + v)
    by false at rest = omega (arith, rest)

-- the same as `farthest`, of the jobs of a set alone
abbrev pub reached : List Bool → (ℕ → Bool) → Estimates → List ℕ → ℕ → List JobId → ℕ
reached kept D e ranks a [] = 0
reached kept D e ranks a (c ∷ cs) = max (cond {A = ℕ} (is_kept kept c.0 && D c.0) (e.move a c.0 + rank ranks c.0) 0) (reached kept D e ranks a cs)

and_true : (b t : Bool) → t ≡ true → (b && t) ≡ b
and_true true t e = e
and_true false t e = refl

and_false : (b t : Bool) → t ≡ false → (b && t) ≡ false
and_false true t e = e
and_false false t e = refl

in_head : (c : JobId) (cs : List JobId) → has_node c.0 (numbers (c ∷ cs)) ≡ true
in_head c cs = ap (λ (t : Bool). t || has_node c.0 (numbers cs)) (eq-eqb c.0 c.0 refl)

in_tail : (c : JobId) (cs : List JobId) (b : ℕ) → has_node b (numbers cs) ≡ true → has_node b (numbers (c ∷ cs)) ≡ true
in_tail c cs b h = by (nat_eq c.0 b) (has_node b (numbers cs)) h
  where
    by : (t u : Bool) → u ≡ true → (t || u) ≡ true
    by true u k = refl
    by false u k = k

far_all : (kept : List Bool) (D : ℕ → Bool) (e : Estimates) (ranks : List ℕ) (a : ℕ) (cs : List JobId) → ((c : ℕ) → has_node c (numbers cs) ≡ true → D c ≡ true) → reached kept D e ranks a cs ≡ farthest kept e ranks a cs
far_all kept D e ranks a [] all = refl
far_all kept D e ranks a (c ∷ cs) all =
    let here : cond {A = ℕ} (is_kept kept c.0 && D c.0) (e.move a c.0 + rank ranks c.0) 0 ≡ cond {A = ℕ} (is_kept kept c.0) (e.move a c.0 + rank ranks c.0) 0
    = ap (λ (t : Bool). cond {A = ℕ} t (e.move a c.0 + rank ranks c.0) 0) (and_true (is_kept kept c.0) (D c.0) (all c.0 (in_head c cs))) in
    let rest = far_all kept D e ranks a cs (λ b h. all b (in_tail c cs b h)) in
    omega (arith, here, rest)

far_same : (kept : List Bool) (e : Estimates) (ranks new : List ℕ) (a : ℕ) (cs : List JobId) → ((c : ℕ) → has_node c (numbers cs) ≡ true → rank ranks c ≡ rank new c) → farthest kept e ranks a cs ≡ farthest kept e new a cs
far_same kept e ranks new a [] same = refl
far_same kept e ranks new a (c ∷ cs) same =
    let here : cond {A = ℕ} (is_kept kept c.0) (e.move a c.0 + rank ranks c.0) 0 ≡ cond {A = ℕ} (is_kept kept c.0) (e.move a c.0 + rank new c.0) 0
    = ap (λ (n : ℕ). cond {A = ℕ} (is_kept kept c.0) (e.move a c.0 + n) 0) (same c.0 (in_head c cs)) in
    let rest = far_same kept e ranks new a cs (λ b h. same b (in_tail c cs b h)) in
    omega (arith, here, rest)

far_none : (kept : List Bool) (D : ℕ → Bool) (e : Estimates) (ranks : List ℕ) (a : ℕ) (cs : List JobId) → ((c : ℕ) → D c ≡ false) → reached kept D e ranks a cs ≡ 0
far_none kept D e ranks a [] none = refl
far_none kept D e ranks a (c ∷ cs) none =
    let here : cond {A = ℕ} (is_kept kept c.0 && D c.0) (e.move a c.0 + rank ranks c.0) 0 ≡ 0
    = ap (λ (t : Bool). cond {A = ℕ} t (e.move a c.0 + rank ranks c.0) 0) (and_false (is_kept kept c.0) (D c.0) (none c.0)) in
    let rest = far_none kept D e ranks a cs none in
    omega (arith, here, rest)

-- a dropped job more changes nothing
far_dropped : (kept : List Bool) (D F : ℕ → Bool) (e : Estimates) (ranks : List ℕ) (j a : ℕ) (cs : List JobId) → ((c : ℕ) → F c ≡ (nat_eq j c || D c)) → is_kept kept j ≡ false
    → reached kept D e ranks a cs ≡ reached kept F e ranks a cs
far_dropped kept D F e ranks j a [] more off = refl
far_dropped kept D F e ranks j a (c ∷ cs) more off =
    let here : cond {A = ℕ} (is_kept kept c.0 && D c.0) (e.move a c.0 + rank ranks c.0) 0 ≡ cond {A = ℕ} (is_kept kept c.0 && F c.0) (e.move a c.0 + rank ranks c.0) 0
    = ap (λ (t : Bool). cond {A = ℕ} t (e.move a c.0 + rank ranks c.0) 0) (same (nat_eq j c.0) refl ∙ ap (λ (t : Bool). is_kept kept c.0 && t) (sym (more c.0))) in
    let rest = far_dropped kept D F e ranks j a cs more off in
    omega (arith, here, rest)
  where
    same : (t : Bool) → nat_eq j c.0 ≡ t → (is_kept kept c.0 && D c.0) ≡ (is_kept kept c.0 && (t || D c.0))
    same true at = let dropped : is_kept kept c.0 ≡ false = ap (is_kept kept) (sym (eqb-true j c.0 at)) ∙ off in
        ap (λ (b : Bool). b && D c.0) dropped ∙ sym (ap (λ (b : Bool). b && (true || D c.0)) dropped)
    same false at = refl

-- one kept job more, of which the rank is r
far_more : (kept : List Bool) (D F : ℕ → Bool) (e : Estimates) (ranks new : List ℕ) (j r a : ℕ) (cs : List JobId) → ((c : ℕ) → F c ≡ (nat_eq j c || D c)) → is_kept kept j ≡ true
    → D j ≡ false → rank new j ≡ r → ((c : ℕ) → D c ≡ true → rank ranks c ≡ rank new c)
    → reached kept F e new a cs ≡ max (reached kept D e ranks a cs) (cond {A = ℕ} (has_node j (numbers cs)) (e.move a j + r) 0)
far_more kept D F e ranks new j r a [] more is fresh at same = omega arith
far_more kept D F e ranks new j r a (c ∷ cs) more is fresh at same =
    head (nat_eq c.0 j) refl (far_more kept D F e ranks new j r a cs more is fresh at same)
  where
    again : (t : Bool) (n m : ℕ) → max n (max m (cond {A = ℕ} t n 0)) ≡ max m n
    again true n m = omega arith
    again false n m = omega arith

    head : (t : Bool) → nat_eq c.0 j ≡ t
        → reached kept F e new a cs ≡ max (reached kept D e ranks a cs) (cond {A = ℕ} (has_node j (numbers cs)) (e.move a j + r) 0)
        → max (cond {A = ℕ} (is_kept kept c.0 && F c.0) (e.move a c.0 + rank new c.0) 0) (reached kept F e new a cs)
        ≡ max (max (cond {A = ℕ} (is_kept kept c.0 && D c.0) (e.move a c.0 + rank ranks c.0) 0) (reached kept D e ranks a cs)) (cond {A = ℕ} (t || has_node j (numbers cs)) (e.move a j + r) 0)
    head true h rest =
        let same_job : c.0 ≡ j = eqb-true c.0 j h in
        let inside : (is_kept kept c.0 && F c.0) ≡ true = ap (λ (n : ℕ). is_kept kept n && F n) same_job ∙ ap (λ (t : Bool). t && F j) is ∙ more j ∙ ap (λ (t : Bool). t || D j) (eq-eqb j j refl) in
        let outside : (is_kept kept c.0 && D c.0) ≡ false = ap (λ (n : ℕ). is_kept kept n && D n) same_job ∙ and_false (is_kept kept j) (D j) fresh in
        let one : cond {A = ℕ} (is_kept kept c.0 && F c.0) (e.move a c.0 + rank new c.0) 0 ≡ e.move a j + r
        = ap (λ (t : Bool). cond {A = ℕ} t (e.move a c.0 + rank new c.0) 0) inside ∙ ap (λ (n : ℕ). e.move a n + rank new n) same_job ∙ ap (λ (n : ℕ). e.move a j + n) at in
        let two : cond {A = ℕ} (is_kept kept c.0 && D c.0) (e.move a c.0 + rank ranks c.0) 0 ≡ 0 = ap (λ (t : Bool). cond {A = ℕ} t (e.move a c.0 + rank ranks c.0) 0) outside in
        let three = again (has_node j (numbers cs)) (e.move a j + r) (reached kept D e ranks a cs) in
        omega (arith, one, two, three, rest)
    head false h rest =
        let here : cond {A = ℕ} (is_kept kept c.0 && F c.0) (e.move a c.0 + rank new c.0) 0 ≡ cond {A = ℕ} (is_kept kept c.0 && D c.0) (e.move a c.0 + rank ranks c.0) 0
        = ap (λ (t : Bool). cond {A = ℕ} (is_kept kept c.0 && t) (e.move a c.0 + rank new c.0) 0) (more c.0 ∙ ap (λ (t : Bool). t || D c.0) (other (nat_eq j c.0) refl)) ∙ by (D c.0) refl in
        omega (arith, here, rest)
      where
        other : (t : Bool) → nat_eq j c.0 ≡ t → nat_eq j c.0 ≡ false
        other false k = k
        other true k = absurd (let both : nat_eq c.0 j ≡ true = eq-eqb c.0 j (sym (eqb-true j c.0 k)) in let clash = sym both ∙ h in cc)

        by : (t : Bool) → D c.0 ≡ t → cond {A = ℕ} (is_kept kept c.0 && t) (e.move a c.0 + rank new c.0) 0 ≡ cond {A = ℕ} (is_kept kept c.0 && t) (e.move a c.0 + rank ranks c.0) 0
        by true k = ap (λ (n : ℕ). cond {A = ℕ} (is_kept kept c.0 && true) (e.move a c.0 + n) 0) (sym (same c.0 k))
        by false k = let zero_one = and_false (is_kept kept c.0) false refl in ap (λ (t : Bool). cond {A = ℕ} t (e.move a c.0 + rank new c.0) 0) zero_one ∙ sym (ap (λ (t : Bool). cond {A = ℕ} t (e.move a c.0 + rank ranks c.0) 0) zero_one)

abbrev pub from_place : Links → ℕ → ℕ → Bool
from_place g k a = has_node a (drop k (numbers g.ordered))

-- The jobs from place k of the order on have their ranks, and each other job what comes after it of those.
pub record AreRankedFrom (g : Links) (kept : List Bool) (e : Estimates) (ranks : List ℕ) (k : ℕ) : Type 0 where
  pub done : (a : ℕ) → from_place g k a ≡ true → is_kept kept a ≡ true → rank ranks a ≡ cost e a + farthest kept e ranks a (jobs_at g.children a)
  pub rest : (a : ℕ) → from_place g k a ≡ false → rank ranks a ≡ reached kept (from_place g k) e ranks a (jobs_at g.children a)

zero_at : (n a : ℕ) → rank (replicate n 0) a ≡ 0
zero_at zero a = refl
zero_at (suc n) zero = refl
zero_at (suc n) (suc a) = zero_at n a

none_from : (g : Links) (k a : ℕ) → length (numbers g.ordered) ≤ k → from_place g k a ≡ false
none_from g k a past = ap (has_node a) (drop_all k (numbers g.ordered) past)

pub ranked_none : (g : Links) (kept : List Bool) (e : Estimates) (ranks : List ℕ) (n k : ℕ) → ranks ≡ replicate n 0 → length (numbers g.ordered) ≤ k → AreRankedFrom g kept e ranks k
ranked_none g kept e ranks n k is past = record {
  done = λ a there kept_one. absurd (let out = none_from g k a past in let clash = sym there ∙ out in cc);
  rest = λ a there. ap (λ (xs : List ℕ). rank xs a) is ∙ zero_at n a ∙ sym (far_none kept (from_place g k) e ranks a (jobs_at g.children a) (λ c. none_from g k c past));
}

children_from : (w : Workflow) (g : Links) → IsGraphOf w g → (k a c : ℕ) → from_place g k a ≡ true → has_node c (numbers (jobs_at g.children a)) ≡ true → from_place g k c ≡ true
children_from w g graph k a c there child = after_edge w g graph k a c there (sym (child_edge w g graph a c) ∙ child)

pub ranked_dropped : (w : Workflow) (g : Links) (kept : List Bool) (e : Estimates) (ranks : List ℕ) (k j : ℕ) → IsGraphOf w g → IsNext g k j → is_kept kept j ≡ false → AreRankedFrom g kept e ranks (k + 1) → AreRankedFrom g kept e ranks k
ranked_dropped w g kept e ranks k j graph next off is = record {
  done = λ a there kept_one. is.done a (by_bool (nat_eq j a)
      (λ t. absurd (let dropped = ap (is_kept kept) (sym (eqb-true j a t)) ∙ off in let clash = sym kept_one ∙ dropped in cc))
      (λ f. sym (ap (λ (t : Bool). t || from_place g (k + 1) a) f) ∙ sym (next.more a) ∙ there)) kept_one;
  rest = λ a out. is.rest a (or_right (nat_eq j a) (from_place g (k + 1) a) (sym (next.more a) ∙ out)) ∙ far_dropped kept (from_place g (k + 1)) (from_place g k) e ranks j a (jobs_at g.children a) next.more off;
}
  where
    or_right : (t u : Bool) → (t || u) ≡ false → u ≡ false
    or_right true u h = absurd cc
    or_right false u h = h

-- what the ranks become with job j: its own, and what its parents reach
pub record AreRaised (g : Links) (e : Estimates) (ranks new : List ℕ) (j r : ℕ) : Type 0 where
  pub is : r ≡ cost e j + rank ranks j
  pub each : (a : ℕ) → rank new a ≡ max (cond {A = ℕ} (nat_eq j a) r (rank ranks a)) (cond {A = ℕ} (has_node a (numbers (jobs_at g.parents j))) (e.move a j + r) 0)

pub ranked_more : (w : Workflow) (g : Links) (kept : List Bool) (e : Estimates) (ranks new : List ℕ) (k j r : ℕ) → IsGraphOf w g → IsNext g k j → is_kept kept j ≡ true → AreRankedFrom g kept e ranks (k + 1)
    → AreRaised g e ranks new j r → AreRankedFrom g kept e new k
ranked_more w g kept e ranks new k j r graph next kept_one is raised = record { done = done; rest = rest }
  where
    D : ℕ → Bool
    D = from_place g (k + 1)

    or_right : (t u : Bool) → (t || u) ≡ false → u ≡ false
    or_right true u h = absurd cc
    or_right false u h = h

    or_left : (t u : Bool) → (t || u) ≡ false → t ≡ false
    or_left true u h = absurd cc
    or_left false u h = refl

    -- no parent stands from place k on
    no_parent : (a : ℕ) → from_place g k a ≡ true → has_node a (numbers (jobs_at g.parents j)) ≡ false
    no_parent a there = by_bool (has_node a (numbers (jobs_at g.parents j))) (λ t. absurd (let out = next.parents a t in let clash = sym there ∙ out in cc)) (λ f. f)

    here : from_place g k j ≡ true
    here = next.more j ∙ ap (λ (t : Bool). t || D j) (eq-eqb j j refl)

    at : rank new j ≡ r
    at = let each = raised.each j in
        let one : cond {A = ℕ} (nat_eq j j) r (rank ranks j) ≡ r = ap (λ (t : Bool). cond {A = ℕ} t r (rank ranks j)) (eq-eqb j j refl) in
        let two : cond {A = ℕ} (has_node j (numbers (jobs_at g.parents j))) (e.move j j + r) 0 ≡ 0 = ap (λ (t : Bool). cond {A = ℕ} t (e.move j j + r) 0) (no_parent j here) in
        omega (arith, each, one, two)

    in_more : (a : ℕ) → D a ≡ true → from_place g k a ≡ true
    in_more a there = next.more a ∙ by (nat_eq j a) (D a) there
      where
        by : (t u : Bool) → u ≡ true → (t || u) ≡ true
        by true u h = refl
        by false u h = h

    other : (a : ℕ) → D a ≡ true → nat_eq j a ≡ false
    other a there = by_bool (nat_eq j a) (λ t. absurd (let k = ap D (eqb-true j a t) in let clash = sym next.fresh ∙ k ∙ there in cc)) (λ f. f)

    same : (a : ℕ) → D a ≡ true → rank ranks a ≡ rank new a
    same a there = let each = raised.each a in
        let one : cond {A = ℕ} (nat_eq j a) r (rank ranks a) ≡ rank ranks a = ap (λ (t : Bool). cond {A = ℕ} t r (rank ranks a)) (other a there) in
        let two : cond {A = ℕ} (has_node a (numbers (jobs_at g.parents j))) (e.move a j + r) 0 ≡ 0 = ap (λ (t : Bool). cond {A = ℕ} t (e.move a j + r) 0) (no_parent a (in_more a there)) in
        omega (arith, each, one, two)

    done : (a : ℕ) → from_place g k a ≡ true → is_kept kept a ≡ true → rank new a ≡ cost e a + farthest kept e new a (jobs_at g.children a)
    done a there kept_a = by_bool (nat_eq j a)
        (λ t. subst (λ (n : ℕ). rank new n ≡ cost e n + farthest kept e new n (jobs_at g.children n)) (eqb-true j a t) own)
        (λ f. let old : D a ≡ true = sym (ap (λ (t : Bool). t || D a) f) ∙ sym (next.more a) ∙ there in
        sym (same a old) ∙ is.done a old kept_a ∙ ap (λ (n : ℕ). cost e a + n) (far_same kept e ranks new a (jobs_at g.children a) (λ c child. same c (children_from w g graph (k + 1) a c old child))))
      where
        own : rank new j ≡ cost e j + farthest kept e new j (jobs_at g.children j)
        own = at ∙ raised.is ∙ ap (λ (n : ℕ). cost e j + n)
            (is.rest j next.fresh ∙ far_all kept D e ranks j (jobs_at g.children j) next.children
            ∙ far_same kept e ranks new j (jobs_at g.children j) (λ c child. same c (next.children c child)))

    rest : (a : ℕ) → from_place g k a ≡ false → rank new a ≡ reached kept (from_place g k) e new a (jobs_at g.children a)
    rest a out =
        let neither : (nat_eq j a || D a) ≡ false = sym (next.more a) ∙ out in
        let each = raised.each a in
        let one : cond {A = ℕ} (nat_eq j a) r (rank ranks a) ≡ rank ranks a = ap (λ (t : Bool). cond {A = ℕ} t r (rank ranks a)) (or_left (nat_eq j a) (D a) neither) in
        let two : cond {A = ℕ} (has_node a (numbers (jobs_at g.parents j))) (e.move a j + r) 0 ≡ cond {A = ℕ} (has_node j (numbers (jobs_at g.children a))) (e.move a j + r) 0
        = ap (λ (t : Bool). cond {A = ℕ} t (e.move a j + r) 0) (sym (links w g graph a j)) in
        let old = is.rest a (or_right (nat_eq j a) (D a) neither) in
        let more = far_more kept D (from_place g k) e ranks new j r a (jobs_at g.children a) next.more kept_one next.fresh at same in
        omega (arith, each, one, two, old, more)

pub ranked_all : (w : Workflow) (g : Links) (kept : List Bool) (e : Estimates) (ranks : List ℕ) → IsGraphOf w g → length kept ≡ length g.parents → length ranks ≡ length kept → AreRankedFrom g kept e ranks 0 → AreRanks g kept e ranks
ranked_all w g kept e ranks graph many long is = record {
  long = long;
  each = λ a kept_one. is.done a (times_has a (numbers g.ordered) (let once = graph.order.each_once a (low a kept_one) in omega (arith, once))) kept_one;
}
  where
    flag_below : (xs : List Bool) (a : ℕ) → is_kept xs a ≡ true → a < length xs
    flag_below [] zero h = absurd cc
    flag_below [] (suc a) h = absurd cc
    flag_below (x ∷ xs) zero h = omega arith
    flag_below (x ∷ xs) (suc a) h = let less = flag_below xs a h in omega (arith, less)

    low : (a : ℕ) → is_kept kept a ≡ true → a < length w.jobs
    low a kept_one = let l = flag_below kept a kept_one in let p = graph.parents.long in let q = length-map g.parents numbers in omega (arith, l, p, q, many)

-- ---- in the words of the walk

pub zero_small : (xs : List ℕ) (n m a : ℕ) → xs ≡ replicate n 0 → rank xs a ≤ m
zero_small xs n m a is = let none : rank xs a ≡ 0 = ap (λ (ys : List ℕ). rank ys a) is ∙ zero_at n a in omega (arith, none)

pub ranked_first : (g : Links) (kept : List Bool) (e : Estimates) (ranks : List ℕ) (n : ℕ) (js : List JobId) → js ≡ g.ordered → ranks ≡ replicate n 0 → AreRankedFrom g kept e ranks (length js - 0)
ranked_first g kept e ranks n js walk is = ranked_none g kept e ranks n (length js - 0) is (let l = length-map g.ordered (λ (j : JobId). j.0) in let m : length js ≡ length g.ordered = ap (λ (ks : List JobId). length ks) walk in omega (arith, l, m))

abbrev pub job_at : List JobId → ℕ → ℕ
job_at js k = (get_or js k (record { 0 = 0 })).0

pub walk_low : (w : Workflow) (g : Links) (js : List JobId) (k : ℕ) → IsGraphOf w g → js ≡ g.ordered → k < length js → job_at js k < length w.jobs
walk_low w g js k graph walk low = let at = job_is g js k walk low in let within = below w g graph k at.0 in omega (arith, at.1, within)

kept_long : (w : Workflow) (g : Links) (kept : List Bool) → IsGraphOf w g → length kept ≡ length g.parents → length kept ≡ length w.jobs
kept_long w g kept graph many = let p = graph.parents.long in let q = length-map g.parents numbers in omega (arith, p, q, many)

pub job_within : (w : Workflow) (g : Links) (kept : List Bool) (js : List JobId) (k : ℕ) → IsGraphOf w g → length kept ≡ length g.parents → js ≡ g.ordered → k < length js → job_at js k < length kept
job_within w g kept js k graph many walk low = let long = kept_long w g kept graph many in let within = walk_low w g js k graph walk low in omega (arith, long, within)

pub few_done : (w : Workflow) (g : Links) (js : List JobId) → IsWellFormed w → IsGraphOf w g → js ≡ g.ordered → length js ≤ 10000
few_done w g js formed graph walk = let l = order_long w g graph in let m : length js ≡ length g.ordered = ap (λ (ks : List JobId). length ks) walk in let few = formed.few_jobs in omega (arith, l, m, few)

-- the mean of the times at a job's candidates
mean_is : (e : Estimates) (ts : List ℕ) (j : ℕ) → ts ≡ map (e.time j) (e.candidates j) → sum ts / length ts ≡ cost e j
mean_is e ts j is = ap (λ (xs : List ℕ). sum xs / length xs) is ∙ ap (λ (n : ℕ). sum (map (e.time j) (e.candidates j)) / n) (length-map (e.candidates j) (e.time j))

pub ranked_next : (w : Workflow) (g : Links) (kept : List Bool) (e : Estimates) (times moves : List (List ℕ)) (ranks new : List ℕ) (js : List JobId) (done : ℕ) → IsGraphOf w g → js ≡ g.ordered → done < length js
    → AreCosts g kept e times moves
    → (is_kept kept (job_at js (length js - 1 - done)) ≡ true → (a : ℕ) → rank new a ≡ max (cond {A = ℕ} (nat_eq (job_at js (length js - 1 - done)) a) (rank_by times ranks (job_at js (length js - 1 - done))) (rank ranks a)) (reach (jobs_at g.parents (job_at js (length js - 1 - done))) (neighbours moves (job_at js (length js - 1 - done))) (rank_by times ranks (job_at js (length js - 1 - done))) a))
    → (is_kept kept (job_at js (length js - 1 - done)) ≡ false → new ≡ ranks)
    → AreRankedFrom g kept e ranks (length js - done) → AreRankedFrom g kept e new (length js - (done + 1))
ranked_next w g kept e times moves ranks new js done graph walk low costs kept_case dropped_case is =
    subst (λ (n : ℕ). AreRankedFrom g kept e new n) (let q : k ≡ length js - (done + 1) = omega (arith, low) in q) by_kept
  where
    k : ℕ
    k = length js - 1 - done

    j : ℕ
    j = job_at js k

    inside : k < length js
    inside = omega (arith, low)

    at : (k < length g.ordered) × (j ≡ get_or (numbers g.ordered) k 0)
    at = job_is g js k walk inside

    next : IsNext g k j
    next = subst (IsNext g k) (sym at.1) (next_is w g graph k (let l = length-map g.ordered (λ (j : JobId). j.0) in omega (arith, at.0, l)))

    earlier : AreRankedFrom g kept e ranks (k + 1)
    earlier = subst (λ (n : ℕ). AreRankedFrom g kept e ranks n) (let q : length js - done ≡ k + 1 = omega (arith, low) in q) is

    by_kept : AreRankedFrom g kept e new k
    by_kept = by_bool (is_kept kept j)
        (λ t. ranked_more w g kept e ranks new k j (rank_by times ranks j) graph next t earlier (record {
          is = ap (λ (n : ℕ). n + rank ranks j) (mean_is e (neighbours times j) j (costs.at_sites j t));
          each = λ a. kept_case t a ∙ ap (λ (n : ℕ). max (cond {A = ℕ} (nat_eq j a) (rank_by times ranks j) (rank ranks a)) n)
              (ap (λ (ms : List ℕ). reach (jobs_at g.parents j) ms (rank_by times ranks j) a) (costs.from_parents j t) ∙ reach_is e j (rank_by times ranks j) a (jobs_at g.parents j));
        }))
        (λ f. subst (λ (xs : List ℕ). AreRankedFrom g kept e xs k) (sym (dropped_case f)) (ranked_dropped w g kept e ranks k j graph next f earlier))
