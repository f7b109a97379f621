-- The schedule, one job more.
use Rattle.std.proofs.Common.{◌≡◌, ℕ, zero, suc, ◌+◌, ◌<◌, ◌≤◌, ◌||◌, ◌&&◌, ◌⊎◌, inl, inr, not, max, Bool, true, false, cond, eqb, ltb, List, [], ◌∷◌, ◌++◌, length, take, get_or, refl, sym, ap, subst, ◌∙◌, nat_eq, arith}
use Rattle.std.specs.Prelude.{replicate, Option, Some, None}
use Rattle.std.proofs.lemmas.Bool.{eqb-true, eq-eqb, cases_order}
use Rattle.std.proofs.lemmas.List.{take_more, length-take, get_or-map, get_or-take}
use Rattle.values.specs.declared.numbers.JobId.{JobId}
use Rattle.values.specs.declared.numbers.SiteId.{SiteId}
use Rattle.workflow_core.specs.declared.workflow.Workflow.{Workflow}
use Rattle.digraph.specs.Adjacency.{has_node, neighbours}
use Rattle.dependency_graph.specs.Graph.{IsGraphOf, Links, jobs_at, numbers}
use Rattle.dependency_graph.specs.Levels.{is_kept}
use Rattle.dependency_graph.proofs.TestLemmas.{has_at, fresh_at, has_more}
use Rattle.list_schedule.specs.declared.arrivals.Latest.{Latest}
use Rattle.list_schedule.specs.declared.choice.Slot.{Slot}
use Rattle.list_schedule.specs.declared.board.Board.{Board}
use Rattle.list_schedule.specs.Estimates.{Estimates, cost}
use Rattle.list_schedule.specs.Ranks.{rank, farthest, AreRanks, comes_first, IsRankOrder}
use Rattle.list_schedule.specs.Schedule.{Schedule, site, start, finish, is_site, runs_at, free_after, arrival, latest, earliest_start, earliest_finish, candidate, IsPlaced}
use Rattle.values.specs.Numbers.{site_id}
use Rattle.list_schedule.specs.code.Tables.{moves_to, AreCosts, AreCandidates}
use Rattle.list_schedule.specs.code.Arrivals.{latest_at, finish_of, elsewhere, start_at, finish_at, IsEarliest}
use Rattle.list_schedule.specs.code.Board.{IsEmpty, IsPut, schedule_at, ArePlaced}
use Rattle.list_schedule.proofs.SetLemmas.{set_at}
use Rattle.list_schedule.proofs.GraphLemmas.{by_bool, stands, links}

-- ---- parents come first

far_reach : (kept : List Bool) (e : Estimates) (ranks : List ℕ) (p a : ℕ) (cs : List JobId) → is_kept kept a ≡ true → has_node a (numbers cs) ≡ true → rank ranks a ≤ farthest kept e ranks p cs
far_reach kept e ranks p a [] kept_a there = absurd cc
far_reach kept e ranks p a (c ∷ cs) kept_a there = by_bool (nat_eq c.0 a)
    (λ t. let here : cond {A = ℕ} (is_kept kept c.0) (e.move p c.0 + rank ranks c.0) 0 ≡ e.move p a + rank ranks a
    = ap (λ (n : ℕ). cond {A = ℕ} (is_kept kept n) (e.move p n + rank ranks n) 0) (eqb-true c.0 a t) ∙ ap (λ (b : Bool). cond {A = ℕ} b (e.move p a + rank ranks a) 0) kept_a in
    omega (arith, here))
    (λ f. let rest = far_reach kept e ranks p a cs kept_a (sym (ap (λ (b : Bool). b || has_node a (numbers cs)) f) ∙ there) in omega (arith, rest))

-- a kept parent's rank is greater
pub parent_greater : (w : Workflow) (g : Links) (kept : List Bool) (e : Estimates) (ranks : List ℕ) → IsGraphOf w g → AreRanks g kept e ranks → ((a : ℕ) → is_kept kept a ≡ true → 1 ≤ cost e a)
    → (a p : ℕ) → is_kept kept a ≡ true → is_kept kept p ≡ true → has_node p (numbers (jobs_at g.parents a)) ≡ true → rank ranks a < rank ranks p
parent_greater w g kept e ranks graph are costly a p kept_a kept_p parent =
    let own = are.each p kept_p in
    let some = costly p kept_p in
    let far = far_reach kept e ranks p a (jobs_at g.children p) kept_a (links w g graph p a ∙ parent) in
    omega (arith, own, some, far)

pub stands_before : (order : List ℕ) (q i p : ℕ) → q < i → q < length order → get_or order q 0 ≡ p → has_node p (take i order) ≡ true
stands_before order q i p less low at =
    ap (λ (n : ℕ). has_node n (take i order)) (sym at ∙ sym (get_or-take i order q 0 less))
    ∙ has_at (take i order) q (let long = length-take i order in omega (arith, long, less, low))

pub parents_first : (w : Workflow) (g : Links) (kept : List Bool) (e : Estimates) (ranks order : List ℕ) → IsGraphOf w g → AreRanks g kept e ranks → ((a : ℕ) → is_kept kept a ≡ true → 1 ≤ cost e a) → IsRankOrder kept ranks order
    → (i : ℕ) → i < length order → (p : ℕ) → has_node p (numbers (jobs_at g.parents (get_or order i 0))) ≡ true → is_kept kept p ≡ true → has_node p (take i order) ≡ true
parents_first w g kept e ranks order graph are costly sorted i low p parent kept_p = by (stands p order (sorted.kept_ones p ∙ kept_p))
  where
    a : ℕ
    a = get_or order i 0

    greater : rank ranks a < rank ranks p
    greater = parent_greater w g kept e ranks graph are costly a p (sym (sorted.kept_ones a) ∙ has_at order i low) kept_p parent

    no : comes_first ranks a p ≡ true → ⊥
    no h = clash (rank ranks a) (rank ranks p) a p greater h
      where
        clash : (r q x y : ℕ) → r < q → (ltb q r || (eqb r q && ltb x y)) ≡ true → ⊥
        clash r q x y l h = absurd (let f : (ltb q r || (eqb r q && ltb x y)) ≡ false = grind arith in let k = sym h ∙ f in cc)

    by : (q : ℕ) × (q < length order) × (get_or order q 0 ≡ p) → has_node p (take i order) ≡ true
    by found = at (cases_order found.0 i)
      where
        at : ((found.0 ≡ i) ⊎ ((found.0 < i) ⊎ (i < found.0))) → has_node p (take i order) ≡ true
        at (inl same) = absurd (let is : a ≡ p = ap (λ (n : ℕ). get_or order n 0) (sym same) ∙ found.2 in let r : rank ranks a ≡ rank ranks p = ap (rank ranks) is in omega (arith, greater, r))
        at (inr (inl less)) = stands_before order found.0 i p less found.1 found.2
        at (inr (inr more)) = absurd (no (ap (λ (n : ℕ). comes_first ranks a n) (sym found.2) ∙ sorted.falling i found.0 more found.1))

-- ---- two schedules that agree

pub record Agree (h k : Schedule) (a : ℕ) : Type 0 where
  pub at : site h a ≡ site k a
  pub begins : start h a ≡ start k a
  pub ends : finish h a ≡ finish k a

runs_same : (h k : Schedule) (s a : ℕ) → Agree h k a → runs_at h s a ≡ runs_at k s a
runs_same h k s a agree = ap (is_site s) agree.at

free_same : (h k : Schedule) (s first : ℕ) (xs : List ℕ) → ((a : ℕ) → has_node a xs ≡ true → Agree h k a) → free_after h s first xs ≡ free_after k s first xs
free_same h k s first [] agree = refl
free_same h k s first (a ∷ rest) agree =
    let here = agree a (ap (λ (t : Bool). t || has_node a rest) (eq-eqb a a refl)) in
    ap (λ (n : ℕ). free_after h s n rest) (ap (λ (t : Bool). cond t (finish h a) first) (runs_same h k s a here) ∙ ap (λ (n : ℕ). cond (runs_at k s a) n first) here.ends)
    ∙ free_same h k s (cond (runs_at k s a) (finish k a) first) rest (λ b there. agree b (later (nat_eq a b) (has_node b rest) there))
  where
    later : (t u : Bool) → u ≡ true → (t || u) ≡ true
    later true u e = refl
    later false u e = e

arrival_same : (kept : List Bool) (e : Estimates) (h k : Schedule) (a s p : ℕ) → (is_kept kept p ≡ true → Agree h k p) → arrival kept e h a s p ≡ arrival kept e k a s p
arrival_same kept e h k a s p agree = by (is_kept kept p) agree
  where
    by : (t : Bool) → (t ≡ true → Agree h k p) → cond {A = ℕ} t (finish h p + cond {A = ℕ} (runs_at h s p) 0 (e.move p a)) 0 ≡ cond {A = ℕ} t (finish k p + cond {A = ℕ} (runs_at k s p) 0 (e.move p a)) 0
    by true f = let same = f refl in ap (λ (n : ℕ). n + cond {A = ℕ} (runs_at h s p) 0 (e.move p a)) same.ends ∙ ap (λ (t : Bool). finish k p + cond {A = ℕ} t 0 (e.move p a)) (runs_same h k s p same)
    by false f = refl

latest_same : (kept : List Bool) (e : Estimates) (h k : Schedule) (a s : ℕ) (ps : List JobId) → ((p : ℕ) → has_node p (numbers ps) ≡ true → is_kept kept p ≡ true → Agree h k p) → latest kept e h a s ps ≡ latest kept e k a s ps
latest_same kept e h k a s [] agree = refl
latest_same kept e h k a s (p ∷ ps) agree =
    let here = arrival_same kept e h k a s p.0 (agree p.0 (ap (λ (t : Bool). t || has_node p.0 (numbers ps)) (eq-eqb p.0 p.0 refl))) in
    let rest = latest_same kept e h k a s ps (λ q there. agree q (later (nat_eq p.0 q) (has_node q (numbers ps)) there)) in
    omega (arith, here, rest)
  where
    later : (t u : Bool) → u ≡ true → (t || u) ≡ true
    later true u e = refl
    later false u e = e

-- what a job's place hangs on is the same
pub record Alike (g : Links) (kept : List Bool) (h k : Schedule) (placed : List ℕ) (a : ℕ) : Type 0 where
  pub before : (b : ℕ) → has_node b placed ≡ true → Agree h k b
  pub parents : (p : ℕ) → has_node p (numbers (jobs_at g.parents a)) ≡ true → is_kept kept p ≡ true → Agree h k p

pub start_same : (g : Links) (kept : List Bool) (e : Estimates) (h k : Schedule) (placed : List ℕ) (a s : ℕ) → Alike g kept h k placed a → earliest_start g kept e h placed a s ≡ earliest_start g kept e k placed a s
start_same g kept e h k placed a s alike =
    let one = free_same h k s 0 placed alike.before in
    let two = latest_same kept e h k a s (jobs_at g.parents a) alike.parents in
    omega (arith, one, two)

pub placed_same : (g : Links) (kept : List Bool) (e : Estimates) (h k : Schedule) (placed : List ℕ) (a : ℕ) → Alike g kept h k placed a → Agree h k a → IsPlaced g kept e h placed a → IsPlaced g kept e k placed a
placed_same g kept e h k placed a alike own is = record {
  choice = is.choice;
  among = is.among;
  at = sym own.at ∙ is.at;
  begins = sym own.begins ∙ is.begins ∙ start_same g kept e h k placed a (candidate e a is.choice) alike;
  ends = (let end = is.ends in let more = start_same g kept e h k placed a (candidate e a is.choice) alike in let same = own.ends in omega (arith, end, more, same));
  least = λ i l. let old = is.least i l in let more = start_same g kept e h k placed a (candidate e a i) alike in let same = own.ends in omega (arith, old, more, same);
  first = λ i l. let old = is.first i l in let more = start_same g kept e h k placed a (candidate e a i) alike in let same = own.ends in omega (arith, old, more, same);
}

-- ---- arrivals from elsewhere

-- jobs at the site itself hold nothing up once the site is free
pub elsewhere_is : (kept : List Bool) (e : Estimates) (h : Schedule) (a s free : ℕ) (ps : List JobId) → ((p : ℕ) → has_node p (numbers ps) ≡ true → is_kept kept p ≡ true → runs_at h s p ≡ true → finish h p ≤ free)
    → max free (elsewhere kept h.sites h.finishes s ps (moves_to e a ps)) ≡ max free (latest kept e h a s ps)
elsewhere_is kept e h a s free [] past = refl
elsewhere_is kept e h a s free (p ∷ ps) past =
    let rest = elsewhere_is kept e h a s free ps (λ q there. past q (later (nat_eq p.0 q) (has_node q (numbers ps)) there)) in
    let here = by (is_kept kept p.0) (runs_at h s p.0) (past p.0 (ap (λ (t : Bool). t || has_node p.0 (numbers ps)) (eq-eqb p.0 p.0 refl))) in
    omega (arith, rest, here)
  where
    later : (t u : Bool) → u ≡ true → (t || u) ≡ true
    later true u e = refl
    later false u e = e

    by : (t u : Bool) → (t ≡ true → u ≡ true → finish h p.0 ≤ free) → max free (cond {A = ℕ} (t && not u) (finish h p.0 + e.move p.0 a) 0) ≡ max free (cond {A = ℕ} t (finish h p.0 + cond {A = ℕ} u 0 (e.move p.0 a)) 0)
    by true true f = let few = f refl refl in omega (arith, few)
    by true false f = refl
    by false true f = refl
    by false false f = refl

-- ---- the board

zeros : (n a : ℕ) → finish_of (replicate n 0) a ≡ 0
zeros zero a = refl
zeros (suc n) zero = refl
zeros (suc n) (suc a) = zeros n a

pub none_placed : (g : Links) (kept : List Bool) (e : Estimates) (b : Board) (js : List JobId) (jobs sites : ℕ) → IsEmpty b jobs sites → ArePlaced g kept e b js 0
none_placed g kept e b js jobs sites is = record {
  placed = λ k l. absurd (omega arith);
  free = λ s. ap (λ (xs : List ℕ). get_or xs s 0) is.free ∙ zeros sites s;
  past = λ a s there. absurd cc;
}

-- a board with one job more agrees with it on the others
put_agrees : (old new : Board) (js : List JobId) (j : ℕ) (slot : Slot) → IsPut old new j slot → j < length old.sites.items → j < length old.starts.items → j < length old.finishes.items → (a : ℕ) → nat_eq j a ≡ false → Agree (schedule_at old js) (schedule_at new js) a
put_agrees old new js j slot put one two three a off = record {
  at = sym (ap (λ (xs : List (Option SiteId)). get_or xs a None) put.sites ∙ set_at None old.sites.items j (Some (site_id slot.site)) a one ∙ ap (λ (t : Bool). cond t (Some (site_id slot.site)) (get_or old.sites.items a None)) off);
  begins = sym (ap (λ (xs : List ℕ). get_or xs a 0) put.starts ∙ set_at 0 old.starts.items j slot.start a two ∙ ap (λ (t : Bool). cond t slot.start (get_or old.starts.items a 0)) off);
  ends = sym (ap (λ (xs : List ℕ). get_or xs a 0) put.finishes ∙ set_at 0 old.finishes.items j slot.finish a three ∙ ap (λ (t : Bool). cond t slot.finish (get_or old.finishes.items a 0)) off);
}

pub free_push : (h : Schedule) (s first a : ℕ) (xs : List ℕ) → free_after h s first (xs ++ a ∷ []) ≡ cond (runs_at h s a) (finish h a) (free_after h s first xs)
free_push h s first a [] = refl
free_push h s first a (b ∷ more) = free_push h s (cond (runs_at h s b) (finish h b) first) a more

-- what a job is put by
pub record IsChosen (g : Links) (kept : List Bool) (e : Estimates) (b : Board) (j : ℕ) (slot : Slot) (candidates times moves : List (List ℕ)) (x : Latest) : Type 0 where
  pub arrivals : (s : ℕ) → latest_at x s ≡ elsewhere kept b.sites.items b.finishes.items s (jobs_at g.parents j) (neighbours moves j)
  pub earliest : IsEarliest (neighbours candidates j) (neighbours times j) b.free.items x slot (length (neighbours candidates j))

pub placed_more : (w : Workflow) (g : Links) (kept : List Bool) (e : Estimates) (ranks : List ℕ) (candidates times moves : List (List ℕ)) (old new : Board) (js : List JobId) (i j : ℕ) (slot : Slot) (x : Latest)
    → IsGraphOf w g → AreCosts g kept e times moves → AreCandidates kept e candidates → AreRanks g kept e ranks → IsRankOrder kept ranks (numbers js)
    → i < length (numbers js) → j ≡ get_or (numbers js) i 0 → length old.sites.items ≡ length kept → length old.starts.items ≡ length kept → length old.finishes.items ≡ length kept → slot.site < length old.free.items
    → ArePlaced g kept e old js i → IsChosen g kept e old j slot candidates times moves x → IsPut old new j slot → ArePlaced g kept e new js (i + 1)
placed_more w g kept e ranks candidates times moves old new js i j slot x graph costs offers are sorted low is sites_long starts_long finishes_long free_low before chosen put =
    record { placed = placed; free = free; past = past }
  where
    ns : List ℕ
    ns = numbers js

    h : Schedule
    h = schedule_at old js

    k : Schedule
    k = schedule_at new js

    there : has_node j ns ≡ true
    there = ap (λ (n : ℕ). has_node n ns) is ∙ has_at ns i low

    kept_j : is_kept kept j ≡ true
    kept_j = sym (sorted.kept_ones j) ∙ there

    j_low : j < length kept
    j_low = sorted.below j there

    j_sites : j < length old.sites.items
    j_sites = omega (arith, j_low, sites_long)

    j_starts : j < length old.starts.items
    j_starts = omega (arith, j_low, starts_long)

    j_finishes : j < length old.finishes.items
    j_finishes = omega (arith, j_low, finishes_long)

    fresh : has_node j (take i ns) ≡ false
    fresh = ap (λ (n : ℕ). has_node n (take i ns)) is ∙ fresh_at ns i sorted.once low

    -- a job that is placed is another one
    other : (a : ℕ) → has_node a (take i ns) ≡ true → nat_eq j a ≡ false
    other a inside = by_bool (nat_eq j a) (λ t. absurd (let again : has_node j (take i ns) ≡ true = ap (λ (n : ℕ). has_node n (take i ns)) (eqb-true j a t) ∙ inside in let clash = sym again ∙ fresh in cc)) (λ f. f)

    agree : (a : ℕ) → has_node a (take i ns) ≡ true → Agree h k a
    agree a inside = put_agrees old new js j slot put j_sites j_starts j_finishes a (other a inside)

    inner : (n a : ℕ) → n ≤ i → has_node a (take n ns) ≡ true → has_node a (take i ns) ≡ true
    inner n a few inside = wider n i ns few inside
      where
        wider : (n i : ℕ) (xs : List ℕ) → n ≤ i → has_node a (take n xs) ≡ true → has_node a (take i xs) ≡ true
        wider zero i xs few h = absurd cc
        wider (suc n) zero xs few h = absurd (omega (arith, few))
        wider (suc n) (suc i) [] few h = absurd cc
        wider (suc n) (suc i) (x ∷ xs) few h = by (nat_eq x a) h (wider n i xs (omega (arith, few)))
          where
            by : (t : Bool) → (t || has_node a (take n xs)) ≡ true → (has_node a (take n xs) ≡ true → has_node a (take i xs) ≡ true) → (t || has_node a (take i xs)) ≡ true
            by true h f = refl
            by false h f = f h

    parents : (m : ℕ) → m < length ns → m ≤ i → (p : ℕ) → has_node p (numbers (jobs_at g.parents (get_or ns m 0))) ≡ true → is_kept kept p ≡ true → has_node p (take i ns) ≡ true
    parents m inside few p parent kept_p = inner m p few (parents_first w g kept e ranks ns graph are offers.costly sorted m inside p parent kept_p)

    -- the new job
    at_j : site k j ≡ Some (site_id slot.site)
    at_j = ap (λ (xs : List (Option SiteId)). get_or xs j None) put.sites ∙ set_at None old.sites.items j (Some (site_id slot.site)) j j_sites ∙ ap (λ (t : Bool). cond t (Some (site_id slot.site)) (get_or old.sites.items j None)) (eq-eqb j j refl)

    start_j : start k j ≡ slot.start
    start_j = ap (λ (xs : List ℕ). get_or xs j 0) put.starts ∙ set_at 0 old.starts.items j slot.start j j_starts ∙ ap (λ (t : Bool). cond t slot.start (get_or old.starts.items j 0)) (eq-eqb j j refl)

    finish_j : finish k j ≡ slot.finish
    finish_j = ap (λ (xs : List ℕ). get_or xs j 0) put.finishes ∙ set_at 0 old.finishes.items j slot.finish j j_finishes ∙ ap (λ (t : Bool). cond t slot.finish (get_or old.finishes.items j 0)) (eq-eqb j j refl)

    parents_j : (p : ℕ) → has_node p (numbers (jobs_at g.parents j)) ≡ true → is_kept kept p ≡ true → has_node p (take i ns) ≡ true
    parents_j p parent kept_p = parents i low (omega arith) p (ap (λ (n : ℕ). has_node p (numbers (jobs_at g.parents n))) (sym is) ∙ parent) kept_p

    alike_j : Alike g kept h k (take i ns) j
    alike_j = record { before = agree; parents = λ p parent kept_p. agree p (parents_j p parent kept_p) }

    starts_j : (s : ℕ) → start_at old.free.items x s ≡ earliest_start g kept e k (take i ns) j s
    starts_j s =
        let one = before.free s in
        let two = chosen.arrivals s in
        let moves_j : elsewhere kept old.sites.items old.finishes.items s (jobs_at g.parents j) (neighbours moves j) ≡ elsewhere kept old.sites.items old.finishes.items s (jobs_at g.parents j) (moves_to e j (jobs_at g.parents j))
        = ap (λ (ms : List ℕ). elsewhere kept old.sites.items old.finishes.items s (jobs_at g.parents j) ms) (costs.from_parents j kept_j) in
        let three = elsewhere_is kept e h j s (finish_of old.free.items s) (jobs_at g.parents j) (λ p parent kept_p at. before.past p s (parents_j p parent kept_p) at) in
        let four = start_same g kept e h k (take i ns) j s alike_j in
        omega (arith, one, two, moves_j, three, four)

    cands : neighbours candidates j ≡ e.candidates j
    cands = offers.same j kept_j

    finishes_j : (n : ℕ) → n < length (e.candidates j) → finish_at (neighbours candidates j) (neighbours times j) old.free.items x n ≡ earliest_finish g kept e k (take i ns) j (candidate e j n)
    finishes_j n few =
        let site_n : get_or (neighbours candidates j) n 0 ≡ candidate e j n = ap (λ (xs : List ℕ). get_or xs n 0) cands in
        let one : start_at old.free.items x (get_or (neighbours candidates j) n 0) ≡ earliest_start g kept e k (take i ns) j (candidate e j n) = ap (start_at old.free.items x) site_n ∙ starts_j (candidate e j n) in
        let two : get_or (neighbours times j) n 0 ≡ e.time j (candidate e j n) = ap (λ (xs : List ℕ). get_or xs n 0) (costs.at_sites j kept_j) ∙ get_or-map (e.time j) (e.candidates j) n 0 0 few in
        omega (arith, one, two)

    long : length (neighbours candidates j) ≡ length (e.candidates j)
    long = ap (λ (xs : List ℕ). length xs) cands

    best : IsEarliest (neighbours candidates j) (neighbours times j) old.free.items x slot (length (neighbours candidates j))
    best = chosen.earliest

    choice_low : best.choice < length (e.candidates j)
    choice_low = let l = best.among in omega (arith, l, long)

    own : IsPlaced g kept e k (take i ns) j
    own = record {
      choice = best.choice;
      among = choice_low;
      at = at_j ∙ ap (λ (n : ℕ). Some (site_id n)) (best.site ∙ ap (λ (xs : List ℕ). get_or xs best.choice 0) cands);
      begins = start_j ∙ best.start ∙ ap (start_at old.free.items x) (ap (λ (xs : List ℕ). get_or xs best.choice 0) cands) ∙ starts_j (candidate e j best.choice);
      ends = finish_j ∙ best.finish ∙ finishes_j best.choice choice_low;
      least = λ n few. let one = best.least n (omega (arith, few, long)) in let two = finishes_j n few in omega (arith, one, two, finish_j);
      first = λ n less. let one = best.first n less in let two = finishes_j n (omega (arith, less, choice_low)) in omega (arith, one, two, finish_j);
    }

    placed : (m : ℕ) → m < i + 1 → IsPlaced g kept e k (take m ns) (get_or ns m 0)
    placed m few = by (cases_order m i)
      where
        by : ((m ≡ i) ⊎ ((m < i) ⊎ (i < m))) → IsPlaced g kept e k (take m ns) (get_or ns m 0)
        by (inl same) = subst (λ (n : ℕ). IsPlaced g kept e k (take n ns) (get_or ns n 0)) (sym same) (subst (IsPlaced g kept e k (take i ns)) is own)
        by (inr (inl less)) = placed_same g kept e h k (take m ns) (get_or ns m 0)
            (record { before = λ b inside. agree b (inner m b (omega (arith, less)) inside); parents = λ p parent kept_p. agree p (parents m (omega (arith, less, low)) (omega (arith, less)) p parent kept_p) })
            (agree (get_or ns m 0) (stands_before ns m i (get_or ns m 0) less (omega (arith, less, low)) refl))
            (before.placed m less)
        by (inr (inr more)) = absurd (omega (arith, few, more))

    runs_j : (s : ℕ) → runs_at k s j ≡ nat_eq slot.site s
    runs_j s = ap (is_site s) at_j

    free_new : (s : ℕ) → finish_of new.free.items s ≡ cond {A = ℕ} (nat_eq slot.site s) slot.finish (finish_of old.free.items s)
    free_new s = ap (λ (xs : List ℕ). get_or xs s 0) put.free ∙ set_at 0 old.free.items slot.site slot.finish s free_low

    take_j : take (i + 1) ns ≡ take i ns ++ j ∷ []
    take_j = take_more ns i 0 low ∙ ap (λ (n : ℕ). take i ns ++ n ∷ []) (sym is)

    free : (s : ℕ) → finish_of new.free.items s ≡ free_after k s 0 (take (i + 1) ns)
    free s = free_new s
        ∙ ap (λ (n : ℕ). cond {A = ℕ} (nat_eq slot.site s) slot.finish n) (before.free s ∙ free_same h k s 0 (take i ns) agree)
        ∙ ap (λ (n : ℕ). cond {A = ℕ} (nat_eq slot.site s) n (free_after k s 0 (take i ns))) (sym finish_j)
        ∙ ap (λ (t : Bool). cond {A = ℕ} t (finish k j) (free_after k s 0 (take i ns))) (sym (runs_j s))
        ∙ sym (free_push k s 0 j (take i ns)) ∙ ap (free_after k s 0) (sym take_j)

    -- the site was free before
    later : finish_of old.free.items slot.site ≤ slot.finish
    later = let f = best.finish in let s : slot.site ≡ get_or (neighbours candidates j) best.choice 0 = best.site in let e : finish_of old.free.items slot.site ≡ finish_of old.free.items (get_or (neighbours candidates j) best.choice 0) = ap (finish_of old.free.items) s in omega (arith, f, e)

    rises : (s n : ℕ) → n ≤ finish_of old.free.items s → n ≤ finish_of new.free.items s
    rises s n few = let new_s = free_new s in by (nat_eq slot.site s) refl new_s
      where
        by : (t : Bool) → nat_eq slot.site s ≡ t → finish_of new.free.items s ≡ cond {A = ℕ} t slot.finish (finish_of old.free.items s) → n ≤ finish_of new.free.items s
        by true e q = let same : finish_of old.free.items slot.site ≡ finish_of old.free.items s = ap (finish_of old.free.items) (eqb-true slot.site s e) in omega (arith, q, few, later, same)
        by false e q = omega (arith, q, few)

    past : (a s : ℕ) → has_node a (take (i + 1) ns) ≡ true → runs_at k s a ≡ true → finish k a ≤ finish_of new.free.items s
    past a s inside at = by_bool (has_node a (take i ns))
        (λ t. let same = agree a t in let old_at : runs_at h s a ≡ true = runs_same h k s a same ∙ at in let few = before.past a s t old_at in let e = same.ends in rises s (finish k a) (omega (arith, few, e)))
        (λ f. let is_j : j ≡ a = eqb-true j a (let more = has_more ns i a low in ap (λ (n : ℕ). nat_eq n a) is ∙ sym (ap (λ (b : Bool). b || nat_eq (get_or ns i 0) a) f) ∙ sym more ∙ inside) in
        let here : nat_eq slot.site s ≡ true = sym (runs_j s) ∙ ap (runs_at k s) is_j ∙ at in
        let new_s : finish_of new.free.items s ≡ slot.finish = free_new s ∙ ap (λ (t : Bool). cond {A = ℕ} t slot.finish (finish_of old.free.items s)) here in
        let e : finish k a ≡ slot.finish = ap (finish k) (sym is_j) ∙ finish_j in
        omega (arith, new_s, e))
