-- Topological orders, and who returns.
use Rattle.std.proofs.Common.{◌≡◌, ◌≢◌, ℕ, zero, suc, ◌+◌, ◌<◌, ◌≤◌, Bool, true, false, cond, ◌||◌, List, [], ◌∷◌, length, take, get_or, refl, sym, ap, subst, ◌∙◌, nat_eq, nat_lt, arith}
use Rattle.std.proofs.lemmas.List.{get_or-take, take-take, length-take-le}
use Rattle.std.proofs.lemmas.Bool.{eqb-false, eqb-true, ne_eqb}
use Rattle.digraph.proofs.AdjacencyLemmas.{same_edges, neighbours_past}
use Rattle.digraph.proofs.KahnLemmas.{ordered_in, all_placed, one_stuck}
use Rattle.digraph.proofs.TimesLemmas.{has_front, new_at, present}
use Rattle.digraph.specs.code.Adjacency.{AreLinked, comes, leads}
use Rattle.digraph.specs.Adjacency.{has_node, times, neighbours}
use Rattle.digraph.specs.code.Kahn.{IsPlacement, waits_for}
use Rattle.digraph.specs.Cycle.{Returns}
use Rattle.digraph.specs.Distances.{Walk}
use Rattle.digraph.specs.Order.{IsInOrder, IsTopologicalOrder}

-- how many below n are new to a list
pub fresh : ℕ → List ℕ → ℕ
fresh zero vs = 0
fresh (suc n) vs = cond {A = ℕ} (has_node n vs) 0 1 + fresh n vs

fresh_same : (n a : ℕ) (vs : List ℕ) → n ≤ a → fresh n (a ∷ vs) ≡ fresh n vs
unfolding fresh
fresh_same zero a vs h = refl
fresh_same (suc n) a vs h =
    let step : cond {A = ℕ} (has_node n (a ∷ vs)) 0 1 ≡ cond {A = ℕ} (has_node n vs) 0 1 = ap (λ (b : Bool). cond {A = ℕ} (b || has_node n vs) 0 1) (ne_eqb a n (λ e. omega arith)) in
    let rest : fresh n (a ∷ vs) ≡ fresh n vs = fresh_same n a vs (omega arith) in
    omega (arith, step, rest)

pub fresh_less : (n a : ℕ) (vs : List ℕ) → a < n → has_node a vs ≡ false → fresh n (a ∷ vs) + 1 ≡ fresh n vs
unfolding fresh
fresh_less zero a vs h new = absurd (omega arith)
fresh_less (suc n) a vs h new = by (nat_eq a n) refl (λ l. fresh_less n a vs l new)
  where
    by : (t : Bool) → nat_eq a n ≡ t → (a < n → fresh n (a ∷ vs) + 1 ≡ fresh n vs) → (cond {A = ℕ} (has_node n (a ∷ vs)) 0 1 + fresh n (a ∷ vs)) + 1 ≡ cond {A = ℕ} (has_node n vs) 0 1 + fresh n vs
    by true e rest =
        let now : cond {A = ℕ} (has_node n (a ∷ vs)) 0 1 ≡ 0 = ap (λ (b : Bool). cond {A = ℕ} (b || has_node n vs) 0 1) e in
        let was : cond {A = ℕ} (has_node n vs) 0 1 ≡ 1 = ap (λ (b : Bool). cond {A = ℕ} b 0 1) (ap (λ (m : ℕ). has_node m vs) (sym (eqb-true a n e)) ∙ new) in
        let same : fresh n (a ∷ vs) ≡ fresh n vs = fresh_same n a vs (let s : a ≡ n = eqb-true a n e in omega arith) in
        omega (arith, now, was, same)
    by false e rest =
        let now : cond {A = ℕ} (has_node n (a ∷ vs)) 0 1 ≡ cond {A = ℕ} (has_node n vs) 0 1 = ap (λ (b : Bool). cond {A = ℕ} (b || has_node n vs) 0 1) e in
        let differ : a ≢ n = eqb-false a n e in
        let less : fresh n (a ∷ vs) + 1 ≡ fresh n vs = rest (omega arith) in
        omega (arith, now, less)

-- going back along edges among finitely many, one comes to where one was
walk : (e : ℕ → ℕ → Bool) (n : ℕ) (R : ℕ → Type 0) → ((b : ℕ) → R b → (a : ℕ) × (e a b ≡ true) × (a < n) × R a) → (k : ℕ) (vs : List ℕ) (b : ℕ) → R b → fresh n vs ≤ k
    → ((v : ℕ) → has_node v vs ≡ true → (m : ℕ) × Walk e m b v) → (s : ℕ) × Returns e s
walk e n R back zero vs b r small ways = stop (back b r)
  where
    stop : (a : ℕ) × (e a b ≡ true) × (a < n) × R a → (s : ℕ) × Returns e s
    stop found = by (has_node found.0 vs) refl
      where
        by : (t : Bool) → has_node found.0 vs ≡ t → (s : ℕ) × Returns e s
        by true h = let walk = ways found.0 h in (found.0, (walk.0, (b, found.1, walk.1)))
        by false h = absurd (let l : fresh n (found.0 ∷ vs) + 1 ≡ fresh n vs = fresh_less n found.0 vs found.2 h in omega (arith, l, small))
walk e n R back (suc k) vs b r small ways = on (back b r) (λ a ra less more. walk e n R back k (a ∷ vs) a ra less more)
  where
    on : (a : ℕ) × (e a b ≡ true) × (a < n) × R a → ((a : ℕ) → R a → fresh n (a ∷ vs) ≤ k → ((v : ℕ) → has_node v (a ∷ vs) ≡ true → (m : ℕ) × Walk e m a v) → (s : ℕ) × Returns e s) → (s : ℕ) × Returns e s
    on found rest = by (has_node found.0 vs) refl
      where
        more : (v : ℕ) → (t : Bool) → nat_eq found.0 v ≡ t → (t || has_node v vs) ≡ true → (m : ℕ) × Walk e m found.0 v
        more v true same h = (0, eqb-true found.0 v same)
        more v false same h = let walk = ways v h in (suc walk.0, (b, found.1, walk.1))

        by : (t : Bool) → has_node found.0 vs ≡ t → (s : ℕ) × Returns e s
        by true h = let walk = ways found.0 h in (found.0, (walk.0, (b, found.1, walk.1)))
        by false h = rest found.0 found.3 (let l : fresh n (found.0 ∷ vs) + 1 ≡ fresh n vs = fresh_less n found.0 vs found.2 h in omega (arith, l, small)) (λ v h. more v (nat_eq found.0 v) refl h)

pub some_returns : (e : ℕ → ℕ → Bool) (n : ℕ) (R : ℕ → Type 0) → ((b : ℕ) → R b → (a : ℕ) × (e a b ≡ true) × (a < n) × R a) → (b : ℕ) → R b → (s : ℕ) × Returns e s
some_returns e n R back b r = walk e n R back (fresh n []) [] b r (omega arith) (λ v h. absurd (let f : false ≡ true = h in cc))

-- where a number stands
place_of : (xs : List ℕ) (a : ℕ) → has_node a xs ≡ true → (i : ℕ) × (j : ℕ) × (i < length xs) × (get_or xs i j ≡ j) × (j ≡ a)
place_of [] a h = absurd cc
place_of (x ∷ xs) a h = by (nat_eq x a) refl h (λ k. place_of xs a k)
  where
    by : (t : Bool) → nat_eq x a ≡ t → (t || has_node a xs) ≡ true → (has_node a xs ≡ true → (i : ℕ) × (j : ℕ) × (i < length xs) × (get_or xs i j ≡ j) × (j ≡ a)) → (i : ℕ) × (j : ℕ) × (i < length (x ∷ xs)) × (get_or (x ∷ xs) i j ≡ j) × (j ≡ a)
    by true e k rest = (0, x, omega arith, refl, eqb-true x a e)
    by false e k rest = let found = rest k in (suc found.0, found.1, (let l : found.0 < length xs = found.2 in omega arith), found.3, found.4)

-- who leads to a node of an order comes before it
comes_before : (e : ℕ → ℕ → Bool) (xs : List ℕ) → IsInOrder e xs → (m a b : ℕ) → Walk e (suc m) a b → (i : ℕ) (j : ℕ) → i < length xs → get_or xs i j ≡ j → j ≡ b → has_node a (take i xs) ≡ true
comes_before e xs order zero a b walk i j h is same = order i j h is a (ap (λ (n : ℕ). e a n) (same ∙ sym walk.2) ∙ walk.1)
comes_before e xs order (suc m) a b walk i j h is same = next (place_of (take i xs) walk.0 (comes_before e xs order m walk.0 b walk.2 i j h is same))
  where
    next : (k : ℕ) × (y : ℕ) × (k < length (take i xs)) × (get_or (take i xs) k y ≡ y) × (y ≡ walk.0) → has_node a (take i xs) ≡ true
    next found =
        let k = found.0 in
        let y = found.1 in
        let low : found.0 < i = omega (arith, found.2, length-take-le i xs (omega arith)) in
        let at : get_or xs found.0 found.1 ≡ found.1 = sym (get_or-take i xs found.0 found.1 low) ∙ found.3 in
        let there : has_node a (take found.0 xs) ≡ true = order found.0 found.1 (omega (arith, low, h)) at a (ap (λ (n : ℕ). e a n) found.4 ∙ walk.1) in
        has_front a found.0 (take i xs) (ap (has_node a) (take-take found.0 i xs (omega (arith, low))) ∙ there)

-- who stands in an order doesn't return
pub never_returns : (e : ℕ → ℕ → Bool) (xs : List ℕ) → IsInOrder e xs → (a : ℕ) → has_node a xs ≡ true → times a xs ≤ 1 → Returns e a → ⊥
never_returns e xs order a there once back = stop (place_of xs a there)
  where
    stop : (i : ℕ) × (j : ℕ) × (i < length xs) × (get_or xs i j ≡ j) × (j ≡ a) → ⊥
    stop found =
        let before : has_node a (take found.0 xs) ≡ true = comes_before e xs order back.0 a a back.1 found.0 found.1 found.2 found.3 found.4 in
        let new : has_node found.1 (take found.0 xs) ≡ false = new_at xs found.0 found.1 found.2 found.3 (subst (λ (n : ℕ). times n xs ≤ 1) (sym found.4) once) in
        let now : has_node a (take found.0 xs) ≡ false = subst (λ (n : ℕ). has_node n (take found.0 xs) ≡ false) found.4 new in
        cc

pub fresh_small : (n : ℕ) (vs : List ℕ) → fresh n vs ≤ n
unfolding fresh
fresh_small zero vs = omega arith
fresh_small (suc n) vs = by (has_node n vs) (fresh_small n vs)
  where
    by : (t : Bool) → fresh n vs ≤ n → cond {A = ℕ} t 0 1 + fresh n vs ≤ suc n
    by true h = omega (arith, h)
    by false h = omega (arith, h)

pub placed_order : (predecessors successors : List (List ℕ)) (ordered : List ℕ) (counts : List ℕ) → AreLinked predecessors successors → IsPlacement predecessors ordered counts → length ordered ≡ length predecessors → IsTopologicalOrder (leads successors) (length predecessors) ordered
placed_order predecessors successors ordered counts linked placement all = record {
  in_range = ordered_in predecessors ordered counts placement;
  each_once = all_placed predecessors ordered counts placement all;
  in_order = subst (λ (e : ℕ → ℕ → Bool). IsInOrder e ordered) (same_edges predecessors successors linked) placement.in_order;
}

pub none_placed : (predecessors successors : List (List ℕ)) (ordered : List ℕ) (counts : List ℕ) → AreLinked predecessors successors → IsPlacement predecessors ordered counts → length ordered ≢ length predecessors → (a : ℕ) × Returns (leads successors) a
none_placed predecessors successors ordered counts linked placement fewer =
    let stuck = one_stuck predecessors ordered counts placement fewer in
    let back = some_returns (comes predecessors) (length predecessors) (λ x. (x < length predecessors) × (waits_for counts x ≢ 0)) (λ x r. let next = placement.stuck x r.0 r.1 in (next.0, next.1, next.2, (next.2, next.3))) stuck.0 (stuck.1, stuck.2) in
    (back.0, subst (λ (e : ℕ → ℕ → Bool). Returns e back.0) (same_edges predecessors successors linked) back.1)

pub order_excludes : (e : ℕ → ℕ → Bool) (count : ℕ) (ns : List ℕ) → IsTopologicalOrder e count ns → (a : ℕ) → a < count → Returns e a → ⊥
order_excludes e count ns order a low back =
    let once : times a ns ≡ 1 = order.each_once a low in
    never_returns e ns order.in_order a (by (has_node a ns) refl) (omega (arith, once)) back
  where
    by : (t : Bool) → has_node a ns ≡ t → has_node a ns ≡ true
    by true h = h
    by false h = absurd (let none : times a ns ≡ 0 = present a ns h in omega (arith, none, order.each_once a low))

-- a node that returns is one
pub returns_in : (successors : List (List ℕ)) (a : ℕ) → Returns (leads successors) a → a < length successors
returns_in successors a back = by (nat_lt a (length successors)) refl
  where
    by : (t : Bool) → nat_lt a (length successors) ≡ t → a < length successors
    by true h = grind arith
    by false h = absurd (let past : length successors ≤ a = grind arith in let none : has_node back.1.0 (neighbours successors a) ≡ false = ap (has_node back.1.0) (neighbours_past successors a past) in let edge : has_node back.1.0 (neighbours successors a) ≡ true = back.1.1 in cc)

pub none_returns : (predecessors successors : List (List ℕ)) (ns : List ℕ) → AreLinked predecessors successors → IsTopologicalOrder (leads successors) (length predecessors) ns → (a : ℕ) → Returns (leads successors) a → ⊥
none_returns predecessors successors ns linked order a back =
    order_excludes (leads successors) (length predecessors) ns order a (let low : a < length successors = returns_in successors a back in omega (arith, low, linked.long)) back
