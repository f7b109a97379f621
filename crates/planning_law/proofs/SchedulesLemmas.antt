-- The list schedule of a request is one.
use Rattle.std.proofs.Common.{◌≡◌, ℕ, zero, suc, ◌+◌, ◌*◌, ◌/◌, ◌%◌, ◌<◌, ◌≤◌, ◌||◌, Bool, true, List, [], ◌∷◌, length, map, take, get_or, refl, sym, ap, subst, ◌∙◌, nat_eq, arith}
use Rattle.std.specs.Prelude.{Some, None, sum}
use Rattle.std.specs.List.{AllByRecursion}
use Rattle.std.proofs.Math.Nat.{div-add-mod}
use Rattle.std.proofs.lemmas.Bool.{eqb-true}
use Rattle.std.proofs.lemmas.List.{ext_get_or, length-map, take_all}
use Rattle.std.proofs.lemmas.List.Sums.{sum_by-cons}
use Rattle.values.specs.declared.numbers.JobId.{JobId}
use Rattle.workflow_core.specs.declared.workflow.Workflow.{Workflow}
use Rattle.transformation_catalog.specs.declared.catalog.TransformationCatalog.{TransformationCatalog}
use Rattle.plan_request.specs.declared.request.PlanRequest.{PlanRequest}
use Rattle.plan_request.specs.code.Limits.{IsRuntimeInRange}
use Rattle.digraph.specs.Adjacency.{has_node}
use Rattle.dependency_graph.specs.Graph.{IsGraphOf, Links, numbers}
use Rattle.dependency_graph.specs.Levels.{is_kept}
use Rattle.dependency_graph.proofs.TestLemmas.{has_more}
use Rattle.storage_simulation.proofs.DeterminedLemmas.{not_below}
use Rattle.list_schedule.specs.Estimates.{Estimates, cost}
use Rattle.list_schedule.specs.Ranks.{AreRanks, IsRankOrder, rank}
use Rattle.values.specs.Numbers.{site_id}
use Rattle.list_schedule.specs.Schedule.{IsHeft, IsPlaced, Schedule, candidate, earliest_finish, earliest_start, finish, site}
use Rattle.list_schedule.proofs.GraphLemmas.{by_bool, stands}
use Rattle.list_schedule.proofs.PlacingLemmas.{Agree, Alike, parents_first, start_same}
use Rattle.heft_selector.specs.Costs.{name_at, time}
use Rattle.heft_selector.specs.Candidates.{candidates_at}
use Rattle.heft_selector.specs.Selecting.{estimates, offering_of}
use Rattle.heft_selector.specs.code.Stated.{site_name_at}
use Rattle.heft_selector.proofs.TimeLemmas.{seconds_are}
use Rattle.planning_law.proofs.RanksLemmas.{one_rank, one_rank_order}

-- ---- one job

finish_same : (g : Links) (kept : List Bool) (e : Estimates) (h k : Schedule) (placed : List ℕ) (a s : ℕ) → Alike g kept h k placed a → earliest_finish g kept e h placed a s ≡ earliest_finish g kept e k placed a s
finish_same g kept e h k placed a s alike = ap (λ (n : ℕ). n + e.time a s) (start_same g kept e h k placed a s alike)

-- two finishes, each of which is least among the two
never_less : (f g one two three four : ℕ) → g < one → f ≤ two → f ≡ three → g ≡ four → three ≡ one → two ≡ four → ⊥
never_less f g one two three four a b c d x y = omega (arith, a, b, c, d, x, y)

-- a job whose place hangs on the same things is placed alike
placed_alike : (g : Links) (kept : List Bool) (e : Estimates) (h k : Schedule) (placed : List ℕ) (a : ℕ) → Alike g kept h k placed a → IsPlaced g kept e h placed a → IsPlaced g kept e k placed a → Agree h k a
placed_alike g kept e h k placed a alike one two = record {
  at = one.at ∙ ap (λ (i : ℕ). Some (site_id (candidate e a i))) same ∙ sym two.at;
  begins = one.begins ∙ ap (λ (i : ℕ). earliest_start g kept e h placed a (candidate e a i)) same ∙ start_same g kept e h k placed a (candidate e a two.choice) alike ∙ sym two.begins;
  ends = one.ends ∙ ap (λ (i : ℕ). earliest_finish g kept e h placed a (candidate e a i)) same ∙ finish_same g kept e h k placed a (candidate e a two.choice) alike ∙ sym two.ends;
}
  where
    at_one : earliest_finish g kept e h placed a (candidate e a one.choice) ≡ earliest_finish g kept e k placed a (candidate e a one.choice)
    at_one = finish_same g kept e h k placed a (candidate e a one.choice) alike

    at_two : earliest_finish g kept e h placed a (candidate e a two.choice) ≡ earliest_finish g kept e k placed a (candidate e a two.choice)
    at_two = finish_same g kept e h k placed a (candidate e a two.choice) alike

    same : one.choice ≡ two.choice
    same = not_below one.choice two.choice
        (λ l. never_less (finish h a) (finish k a) _ _ _ _ (two.first one.choice l) (one.least two.choice two.among) one.ends two.ends at_one at_two)
        (λ l. never_less (finish k a) (finish h a) _ _ _ _ (one.first two.choice l) (two.least one.choice one.among) two.ends one.ends (sym at_two) (sym at_one))

-- ---- all jobs of one order

-- each job of an order is placed after those before it
abbrev ArePlacedAlong : Links → List Bool → Estimates → Schedule → List ℕ → Type 0
ArePlacedAlong g kept e h order = (i : ℕ) → i < length order → IsPlaced g kept e h (take i order) (get_or order i 0)

-- an order by ranks, with costs of at least 1
record IsAlong (w : Workflow) (g : Links) (kept : List Bool) (e : Estimates) (ranks order : List ℕ) : Type 0 where
  graph : IsGraphOf w g
  are : AreRanks g kept e ranks
  costly : (a : ℕ) → is_kept kept a ≡ true → 1 ≤ cost e a
  sorted : IsRankOrder kept ranks order

agree_more : (w : Workflow) (g : Links) (kept : List Bool) (e : Estimates) (ranks order : List ℕ) (h k : Schedule) → IsAlong w g kept e ranks order → ArePlacedAlong g kept e h order → ArePlacedAlong g kept e k order
    → (i : ℕ) → i < length order → ((b : ℕ) → has_node b (take i order) ≡ true → Agree h k b) → (a : ℕ) → has_node a (take (i + 1) order) ≡ true → Agree h k a
agree_more w g kept e ranks order h k along one two i low earlier a there = by_bool (has_node a (take i order))
    (λ t. earlier a t)
    (λ f. let is : nat_eq (get_or order i 0) a ≡ true = sym (ap (λ (t : Bool). t || nat_eq (get_or order i 0) a) f) ∙ sym (has_more order i a low) ∙ there in
    subst (λ (n : ℕ). Agree h k n) (eqb-true (get_or order i 0) a is) here)
  where
    here : Agree h k (get_or order i 0)
    here = placed_alike g kept e h k (take i order) (get_or order i 0) (record {
      before = earlier;
      parents = λ p parent kept_p. earlier p (parents_first w g kept e ranks order along.graph along.are along.costly along.sorted i low p parent kept_p);
    }) (one i low) (two i low)

agree_along : (w : Workflow) (g : Links) (kept : List Bool) (e : Estimates) (ranks order : List ℕ) (h k : Schedule) → IsAlong w g kept e ranks order → ArePlacedAlong g kept e h order → ArePlacedAlong g kept e k order
    → (i : ℕ) → i ≤ length order → (a : ℕ) → has_node a (take i order) ≡ true → Agree h k a
agree_along w g kept e ranks order h k along one two zero low a there = absurd cc
agree_along w g kept e ranks order h k along one two (suc i) low a there =
    let next : suc i ≡ i + 1 = omega arith in
    agree_more w g kept e ranks order h k along one two i (omega (arith, low)) (agree_along w g kept e ranks order h k along one two i (omega (arith, low))) a (subst (λ (n : ℕ). has_node a (take n order) ≡ true) next there)

-- ---- two schedules

placed_along : (g : Links) (kept : List Bool) (e : Estimates) (h : Schedule) → IsHeft g kept e h → ArePlacedAlong g kept e h (numbers h.order)
placed_along g kept e h heft i low = heft.placed i (let long = length-map h.order (λ (j : JobId). j.0) in omega (arith, low, long))

-- where a kept job stands in the order
stands_kept : (g : Links) (kept : List Bool) (e : Estimates) (h : Schedule) → IsHeft g kept e h → (a : ℕ) → is_kept kept a ≡ true → (q : ℕ) × (q < length (numbers h.order)) × (get_or (numbers h.order) q 0 ≡ a)
stands_kept g kept e h heft a on = stands a (numbers h.order) (heft.order.kept_ones a ∙ on)

sites_agree : (w : Workflow) (g : Links) (kept : List Bool) (e : Estimates) (h k : Schedule) → IsGraphOf w g → length kept ≡ length w.jobs → ((a : ℕ) → is_kept kept a ≡ true → 1 ≤ cost e a)
    → IsHeft g kept e h → IsHeft g kept e k → (a : ℕ) → is_kept kept a ≡ true → site h a ≡ site k a
sites_agree w g kept e h k graph long costly one two a on = (agree_along w g kept e one.ranks (numbers h.order) h k along (placed_along g kept e h one) other (length (numbers h.order)) (omega arith) a there).at
  where
    ranks_same : (b : ℕ) → is_kept kept b ≡ true → rank one.ranks b ≡ rank two.ranks b
    ranks_same b = one_rank w g kept e one.ranks two.ranks graph long one.are_ranks two.are_ranks b

    order_same : numbers h.order ≡ numbers k.order
    order_same = one_rank_order kept one.ranks two.ranks ranks_same (numbers h.order) (numbers k.order) one.order two.order

    along : IsAlong w g kept e one.ranks (numbers h.order)
    along = record { graph = graph; are = one.are_ranks; costly = costly; sorted = one.order }

    other : ArePlacedAlong g kept e k (numbers h.order)
    other = subst (λ (ns : List ℕ). ArePlacedAlong g kept e k ns) (sym order_same) (placed_along g kept e k two)

    there : has_node a (take (length (numbers h.order)) (numbers h.order)) ≡ true
    there = ap (has_node a) (take_all (length (numbers h.order)) (numbers h.order) (omega arith)) ∙ one.order.kept_ones a ∙ on

one_sites : (w : Workflow) (g : Links) (kept : List Bool) (e : Estimates) (h k : Schedule) → IsGraphOf w g → length kept ≡ length w.jobs → ((a : ℕ) → is_kept kept a ≡ true → 1 ≤ cost e a)
    → IsHeft g kept e h → IsHeft g kept e k → h.sites ≡ k.sites
one_sites w g kept e h k graph long costly one two = ext_get_or None h.sites k.sites (one.sites ∙ sym two.sites) each
  where
    each : (a : ℕ) → a < length h.sites → site h a ≡ site k a
    each a low = by_bool (is_kept kept a) (sites_agree w g kept e h k graph long costly one two a) (λ off. one.no_site a off ∙ sym (two.no_site a off))

-- ---- costs

sum_big : (f : ℕ → ℕ) (xs : List ℕ) → ((x : ℕ) → 1 ≤ f x) → length xs ≤ sum (map f xs)
sum_big f [] big = omega arith
sum_big f (x ∷ xs) big =
    let rest = sum_big f xs big in
    let here = big x in
    let more : sum (f x ∷ map f xs) ≡ f x + sum (map f xs) = sum_by-cons (λ (y : ℕ). y) (f x) (map f xs) in
    omega (arith, rest, here, more)

mean_big : (n m : ℕ) → 0 < m → m ≤ n → 1 ≤ n / m
mean_big n m some big = by (n / m) refl
  where
    by : (q : ℕ) → n / m ≡ q → 1 ≤ n / m
    by zero e =
        let whole = div-add-mod n m in
        let none : m * (n / m) ≡ 0 = ap (λ (k : ℕ). m * k) e ∙ (let z : m * 0 ≡ 0 = omega arith in z) in
        let rest : n % m < m = omega (arith, some) in
        absurd (omega (arith, whole, none, rest, big))
    by (suc q) e = omega (arith, e)

some_among : (i n : ℕ) → i < n → 0 < n
some_among i n low = omega (arith, low)

time_big : (w : Workflow) (r : PlanRequest) → AllByRecursion IsRuntimeInRange r.runtimes → (a s : ℕ) → 1 ≤ time w r a s
time_big w r positive a s = let is = seconds_are r.runtimes (name_at w a) (site_name_at r.execute s) positive in omega (arith, is)

-- a kept job that has a candidate costs something
cost_big : (w : Workflow) (g : Links) (kept : List Bool) (r : PlanRequest) (t : TransformationCatalog) (h : Schedule) → AllByRecursion IsRuntimeInRange r.runtimes → IsHeft g kept (estimates w kept r t) h
    → (a : ℕ) → is_kept kept a ≡ true → 1 ≤ cost (estimates w kept r t) a
cost_big w g kept r t h positive heft a on =
    let at = stands_kept g kept (estimates w kept r t) h heft a on in
    let placed : IsPlaced g kept (estimates w kept r t) h (take at.0 (numbers h.order)) a = subst (IsPlaced g kept (estimates w kept r t) h (take at.0 (numbers h.order))) at.2 (placed_along g kept (estimates w kept r t) h heft at.0 at.1) in
    mean_big (sum (map (time w r a) (candidates_at (offering_of w kept r t) a))) (length (candidates_at (offering_of w kept r t) a))
    (some_among placed.choice (length (candidates_at (offering_of w kept r t) a)) placed.among)
    (sum_big (time w r a) (candidates_at (offering_of w kept r t) a) (time_big w r positive a))

-- the sites of two schedules of a request
pub one_schedule : (w : Workflow) (g : Links) (kept : List Bool) (r : PlanRequest) (t : TransformationCatalog) (h k : Schedule) → IsGraphOf w g → length kept ≡ length w.jobs → AllByRecursion IsRuntimeInRange r.runtimes
    → IsHeft g kept (estimates w kept r t) h → IsHeft g kept (estimates w kept r t) k → h.sites ≡ k.sites
one_schedule w g kept r t h k graph long positive one two = one_sites w g kept (estimates w kept r t) h k graph long (cost_big w g kept r t h positive one) one two
