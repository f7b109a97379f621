-- What a schedule comes to.
use Rattle.std.proofs.Common.{◌≡◌, ℕ, zero, suc, ◌+◌, ◌<◌, ◌≤◌, ◌||◌, ◌⊎◌, inl, inr, Bool, true, false, cond, eqb, List, [], ◌∷◌, ◌++◌, length, take, get_or, refl, sym, ap, subst, ◌∙◌, nat_eq, arith}
use Rattle.std.proofs.lemmas.Bool.{eqb-true, eq-eqb, cases_order}
use Rattle.std.proofs.lemmas.List.{take_more, length-map}
use Rattle.values.specs.declared.numbers.JobId.{JobId}
use Rattle.digraph.specs.Adjacency.{has_node}
use Rattle.dependency_graph.specs.Graph.{Links, jobs_at, numbers}
use Rattle.dependency_graph.specs.Levels.{is_kept}
use Rattle.dependency_graph.proofs.TestLemmas.{has_at, has_more}
use Rattle.list_schedule.specs.Estimates.{Estimates}
use Rattle.list_schedule.specs.Schedule.{Schedule, start, finish, is_site, runs_at, free_after, arrival, latest, earliest_start, earliest_finish, candidate, IsPlaced, IsHeft}
use Rattle.values.specs.Numbers.{site_id}
use Rattle.list_schedule.specs.code.Law.{StartsAfterParents, RunsAtCandidate, FinishesFirst, NeverOverlaps}
use Rattle.list_schedule.proofs.GraphLemmas.{by_bool, stands}
use Rattle.list_schedule.proofs.PlacingLemmas.{free_push, stands_before}

-- a kept job with its place in the order
record Placed (g : Links) (kept : List Bool) (e : Estimates) (h : Schedule) (a : ℕ) : Type 0 where
  place : ℕ
  low : place < length (numbers h.order)
  is : get_or (numbers h.order) place 0 ≡ a
  placed : IsPlaced g kept e h (take place (numbers h.order)) a

placed_at : (g : Links) (kept : List Bool) (e : Estimates) (h : Schedule) → IsHeft g kept e h → (i : ℕ) → i < length (numbers h.order) → IsPlaced g kept e h (take i (numbers h.order)) (get_or (numbers h.order) i 0)
placed_at g kept e h heft i low = heft.placed i (let l = length-map h.order (λ (j : JobId). j.0) in omega (arith, low, l))

find_place : (g : Links) (kept : List Bool) (e : Estimates) (h : Schedule) → IsHeft g kept e h → (a : ℕ) → is_kept kept a ≡ true → Placed g kept e h a
find_place g kept e h heft a kept_a = by (stands a (numbers h.order) (heft.order.kept_ones a ∙ kept_a))
  where
    by : (q : ℕ) × (q < length (numbers h.order)) × (get_or (numbers h.order) q 0 ≡ a) → Placed g kept e h a
    by found = record { place = found.0; low = found.1; is = found.2; placed = subst (IsPlaced g kept e h (take found.0 (numbers h.order))) found.2 (placed_at g kept e h heft found.0 found.1) }

arrives : (kept : List Bool) (e : Estimates) (h : Schedule) (a s p : ℕ) (ps : List JobId) → is_kept kept p ≡ true → has_node p (numbers ps) ≡ true → finish h p + cond {A = ℕ} (runs_at h s p) 0 (e.move p a) ≤ latest kept e h a s ps
arrives kept e h a s p [] kept_p there = absurd cc
arrives kept e h a s p (q ∷ ps) kept_p there = by_bool (nat_eq q.0 p)
    (λ t. let here : arrival kept e h a s q.0 ≡ finish h p + cond {A = ℕ} (runs_at h s p) 0 (e.move p a)
    = ap (arrival kept e h a s) (eqb-true q.0 p t) ∙ ap (λ (b : Bool). cond {A = ℕ} b (finish h p + cond {A = ℕ} (runs_at h s p) 0 (e.move p a)) 0) kept_p in
    omega (arith, here))
    (λ f. let rest = arrives kept e h a s p ps kept_p (sym (ap (λ (b : Bool). b || has_node p (numbers ps)) f) ∙ there) in omega (arith, rest))

-- a job that is placed at s has the candidate s
site_of_placed : (g : Links) (kept : List Bool) (e : Estimates) (h : Schedule) (placed : List ℕ) (a s : ℕ) → (is : IsPlaced g kept e h placed a) → runs_at h s a ≡ true → candidate e a is.choice ≡ s
site_of_placed g kept e h placed a s is at = eqb-true (candidate e a is.choice) s (sym (ap (is_site s) is.at) ∙ at)

pub starts_after_parents : StartsAfterParents
starts_after_parents g kept e h heft a p s kept_a kept_p parent at =
    let found = find_place g kept e h heft a kept_a in
    let here : runs_at h s.0 a ≡ true = ap (is_site s.0) at ∙ eq-eqb s.0 s.0 refl in
    let is = site_of_placed g kept e h (take found.place (numbers h.order)) a s.0 found.placed here in
    let begins : start h a ≡ earliest_start g kept e h (take found.place (numbers h.order)) a s.0 = found.placed.begins ∙ ap (earliest_start g kept e h (take found.place (numbers h.order)) a) is in
    let far = arrives kept e h a s.0 p (jobs_at g.parents a) kept_p parent in
    omega (arith, begins, far)

has_place : (xs : List ℕ) (i : ℕ) → i < length xs → has_node (get_or xs i 0) xs ≡ true
has_place xs i low = has_at xs i low

pub runs_at_candidate : RunsAtCandidate
runs_at_candidate g kept e h heft a kept_a =
    let found = find_place g kept e h heft a kept_a in
    (site_id (candidate e a found.placed.choice), found.placed.at, has_place (e.candidates a) found.placed.choice found.placed.among)

pub finishes_first : FinishesFirst
finishes_first g kept e h heft i s low there =
    let is = heft.placed i low in
    let at = stands s (e.candidates (get_or (numbers h.order) i 0)) there in
    subst (λ (t : ℕ). finish h (get_or (numbers h.order) i 0) ≤ earliest_finish g kept e h (take i (numbers h.order)) (get_or (numbers h.order) i 0) t) at.2 (is.least at.0 at.1)

-- one job more, after which a site is free
free_next : (g : Links) (kept : List Bool) (e : Estimates) (h : Schedule) → IsHeft g kept e h → (s k a : ℕ) → k < length (numbers h.order) → has_node a (take (k + 1) (numbers h.order)) ≡ true → runs_at h s a ≡ true
    → (has_node a (take k (numbers h.order)) ≡ true → finish h a ≤ free_after h s 0 (take k (numbers h.order))) → finish h a ≤ free_after h s 0 (take (k + 1) (numbers h.order))
free_next g kept e h heft s k a inside there at before = subst (λ (xs : List ℕ). finish h a ≤ free_after h s 0 xs) (sym more) (subst (λ (n : ℕ). finish h a ≤ n) (sym (free_push h s 0 j (take k ns))) (by_bool (has_node a (take k ns)) old new))
  where
    ns : List ℕ
    ns = numbers h.order

    j : ℕ
    j = get_or ns k 0

    more : take (k + 1) ns ≡ take k ns ++ j ∷ []
    more = take_more ns k 0 inside

    old : has_node a (take k ns) ≡ true → finish h a ≤ cond (runs_at h s j) (finish h j) (free_after h s 0 (take k ns))
    old t = by (runs_at h s j) refl
      where
        by : (b : Bool) → runs_at h s j ≡ b → finish h a ≤ cond b (finish h j) (free_after h s 0 (take k ns))
        by true q =
            let is = placed_at g kept e h heft k inside in
            let c = site_of_placed g kept e h (take k ns) j s is q in
            let ends : finish h j ≡ earliest_finish g kept e h (take k ns) j s = is.ends ∙ ap (earliest_finish g kept e h (take k ns) j) c in
            let past = before t in
            omega (arith, past, ends)
        by false q = before t

    new : has_node a (take k ns) ≡ false → finish h a ≤ cond (runs_at h s j) (finish h j) (free_after h s 0 (take k ns))
    new f =
        let is : j ≡ a = eqb-true j a (sym (ap (λ (b : Bool). b || nat_eq j a) f) ∙ sym (has_more ns k a inside) ∙ there) in
        let here : runs_at h s j ≡ true = ap (runs_at h s) is ∙ at in
        let same : cond (runs_at h s j) (finish h j) (free_after h s 0 (take k ns)) ≡ finish h a = ap (λ (b : Bool). cond b (finish h j) (free_after h s 0 (take k ns))) here ∙ ap (finish h) is in
        omega (arith, same)

-- a site is free after all that ran there before
free_past : (g : Links) (kept : List Bool) (e : Estimates) (h : Schedule) → IsHeft g kept e h → (s k a : ℕ) → k ≤ length (numbers h.order) → has_node a (take k (numbers h.order)) ≡ true → runs_at h s a ≡ true
    → finish h a ≤ free_after h s 0 (take k (numbers h.order))
free_past g kept e h heft s zero a low there at = absurd cc
free_past g kept e h heft s (suc k) a low there at =
    let next : suc k ≡ k + 1 = omega arith in
    subst (λ (n : ℕ). finish h a ≤ free_after h s 0 (take n (numbers h.order))) (sym next)
    (free_next g kept e h heft s k a (omega (arith, low)) (subst (λ (n : ℕ). has_node a (take n (numbers h.order)) ≡ true) next there) at (λ t. free_past g kept e h heft s k a (omega (arith, low)) t at))

-- a job that stands before another one at its site has ended when that one begins
ended : (g : Links) (kept : List Bool) (e : Estimates) (h : Schedule) → IsHeft g kept e h → (a b s : ℕ) (x : Placed g kept e h a) (y : Placed g kept e h b) → x.place < y.place → runs_at h s a ≡ true → runs_at h s b ≡ true → finish h a ≤ start h b
ended g kept e h heft a b s x y less at_a at_b =
    let past = free_past g kept e h heft s y.place a (let l = y.low in omega (arith, l)) (stands_before (numbers h.order) x.place y.place a less x.low x.is) at_a in
    let c = site_of_placed g kept e h (take y.place (numbers h.order)) b s y.placed at_b in
    let begins : start h b ≡ earliest_start g kept e h (take y.place (numbers h.order)) b s = y.placed.begins ∙ ap (earliest_start g kept e h (take y.place (numbers h.order)) b) c in
    omega (arith, past, begins)

pub never_overlaps : NeverOverlaps
never_overlaps g kept e h heft a b s kept_a kept_b differ at_a at_b = by (cases_order x.place y.place)
  where
    x : Placed g kept e h a
    x = find_place g kept e h heft a kept_a

    y : Placed g kept e h b
    y = find_place g kept e h heft b kept_b

    by : ((x.place ≡ y.place) ⊎ ((x.place < y.place) ⊎ (y.place < x.place))) → (finish h a ≤ start h b) ⊎ (finish h b ≤ start h a)
    by (inl same) = absurd (let is : a ≡ b = sym x.is ∙ ap (λ (n : ℕ). get_or (numbers h.order) n 0) same ∙ y.is in let e : eqb a b ≡ true = eq-eqb a b is in let clash = sym e ∙ differ in cc)
    by (inr (inl less)) = inl (ended g kept e h heft a b s x y less at_a at_b)
    by (inr (inr more)) = inr (ended g kept e h heft b a s y x more at_b at_a)
