-- The cycle from a node that returns.
use Rattle.std.proofs.Common.{◌≡◌, ◌≢◌, ℕ, zero, suc, ◌-◌, ◌<◌, ◌≤◌, Bool, true, false, cond, List, [], ◌∷◌, ◌++◌, refl, sym, ap, subst, ◌∙◌, nat_eq, nat_lt, arith}
use Rattle.std.specs.Prelude.{Option, Some, None, MatchOption}
use Rattle.std.proofs.lemmas.List.{append-nil, append_assoc}
use Rattle.digraph.proofs.AdjacencyLemmas.{same_edges, swapped}
use Rattle.digraph.proofs.DistancesLemmas.{distance_is_at, is_distance, walk_distance}
use Rattle.digraph.proofs.TimesLemmas.{present}
use Rattle.digraph.proofs.OrderLemmas.{never_returns}
use Rattle.digraph.specs.code.Adjacency.{AreLinked, comes, leads}
use Rattle.digraph.specs.Adjacency.{has_node, neighbours, times}
use Rattle.digraph.specs.code.Cycle.{Descends, IsCycleFrom, IsNamedCycle, IsNext}
use Rattle.digraph.specs.Cycle.{Returns}
use Rattle.digraph.specs.Distances.{Walk}
use Rattle.digraph.specs.code.Distances.{distance_at}
use Rattle.digraph.specs.code.Kahn.{IsPlacement, free, waits_for}
use Rattle.digraph.specs.code.Nearest.{IsLeastAt, IsNearest}
use Rattle.digraph.specs.code.Search.{IsDistanceTable}

pub next_is : (successors : List (List ℕ)) (s node d : ℕ) (table : List (Option ℕ)) (c : ℕ) → IsDistanceTable (leads successors) s table → IsLeastAt table (neighbours successors node) d (Some c) → IsNext (leads successors) s node d c
next_is successors s node d table c right found = record {
  successor = found.0;
  distance = is_distance (leads successors) s table right c d found.1;
  least = λ b edge distance. found.2 b edge (distance_is_at (leads successors) s table right b d distance);
}

-- a node that isn't s has a next one
pub some_next : (successors : List (List ℕ)) (s node left : ℕ) (table : List (Option ℕ)) → IsDistanceTable (leads successors) s table → distance_at table node ≡ Some left → 0 < left → IsLeastAt table (neighbours successors node) (left - 1) None → ⊥
some_next successors s node left table right at some none =
    let one_less : left ≡ suc (left - 1) = omega arith in
    let next = right.down node (left - 1) (at ∙ ap Some one_less) in
    none next.0 next.1 next.2

-- only s is at 0
pub not_there : (successors : List (List ℕ)) (s node left : ℕ) (table : List (Option ℕ)) → IsDistanceTable (leads successors) s table → distance_at table node ≡ Some left → node ≢ s → 0 < left
not_there successors s node zero table right at differ = absurd (differ (right.only node at))
not_there successors s node (suc left) table right at differ = omega arith

-- s is at 0
pub there : (successors : List (List ℕ)) (s node left : ℕ) (table : List (Option ℕ)) → IsDistanceTable (leads successors) s table → distance_at table node ≡ Some left → node ≡ s → left ≡ 0
there successors s node left table right at same =
    let both : Some left ≡ Some 0 = sym at ∙ ap (distance_at table) same ∙ right.start in cc

-- what the nodes so far and the rest are together
abbrev pub Continues : (ℕ → ℕ → Bool) → ℕ → ℕ → ℕ → ℕ → ℕ → List ℕ → Type 0
Continues e s distance first left node nodes = (rest : List ℕ) → Descends e s left node rest → Descends e s distance first (nodes ++ rest)

pub descend_more : (e : ℕ → ℕ → Bool) (s distance first left : ℕ) (node successor : ℕ) (nodes : List ℕ) → 0 < left → Continues e s distance first left node nodes → IsNext e s node (left - 1) successor → Continues e s distance first (left - 1) successor (nodes ++ node ∷ [])
descend_more e s distance first left node successor nodes some goes next rest down =
    let one_less : suc (left - 1) ≡ left = omega arith in
    let here : Descends e s (suc (left - 1)) node (node ∷ rest) = (refl, (successor, next, down)) in
    let joined : (nodes ++ node ∷ []) ++ rest ≡ nodes ++ node ∷ rest = append_assoc nodes (node ∷ []) rest in
    subst (λ (ns : List ℕ). Descends e s distance first ns) (sym joined) (goes (node ∷ rest) (subst (λ (n : ℕ). Descends e s n node (node ∷ rest)) one_less here))

-- at s
pub descend_all : (e : ℕ → ℕ → Bool) (s distance first left node : ℕ) (nodes : List ℕ) → left ≡ 0 → Continues e s distance first left node nodes → Descends e s distance first nodes
descend_all e s distance first left node nodes none goes =
    subst (λ (ns : List ℕ). Descends e s distance first ns) (append-nil nodes) (goes [] (subst (λ (n : ℕ). Descends e s n node []) (sym none) refl))

-- a node of whose successors none has a walk back
pub no_cycle : (successors : List (List ℕ)) (s : ℕ) (table : List (Option ℕ)) → IsDistanceTable (leads successors) s table → IsNearest table (neighbours successors s) None → Returns (leads successors) s → ⊥
no_cycle successors s table right none back =
    let walk = back.1 in
    let found = walk_distance (leads successors) s table right back.0 walk.0 walk.2 in
    let nothing : distance_at table walk.0 ≡ None = none walk.0 walk.1 in
    let both : None ≡ Some found.0 = sym nothing ∙ found.1 in
    cc

pub some_cycle : (successors : List (List ℕ)) (s : ℕ) (table : List (Option ℕ)) (d : ℕ) (c : ℕ) (rest js : List ℕ) → IsDistanceTable (leads successors) s table → IsNearest table (neighbours successors s) (Some d) → IsLeastAt table (neighbours successors s) d (Some c) → Descends (leads successors) s d c rest
    → js ≡ s ∷ rest → IsCycleFrom (leads successors) s js
some_cycle successors s table d c rest js right near least down is = record {
  second = c;
  distance = d;
  rest = rest;
  is = is;
  next = next_is successors s s d table c right least;
  nearest = λ b e edge distance. near.1 b e edge (distance_is_at (leads successors) s table right b e distance);
  descent = down;
}

pub no_least : (successors : List (List ℕ)) (s : ℕ) (table : List (Option ℕ)) (d : ℕ) → IsNearest table (neighbours successors s) (Some d) → IsLeastAt table (neighbours successors s) d None → ⊥
no_least successors s table d near none = none near.0.0 near.0.1 near.0.2

-- a cycle's first node returns
pub cycle_returns : (e : ℕ → ℕ → Bool) (s : ℕ) (js : List ℕ) → IsCycleFrom e s js → Returns e s
cycle_returns e s js cycle = (cycle.distance, (cycle.second, cycle.next.successor, cycle.next.distance.walk))

-- the first cycle that is found is the named one
pub named : (e : ℕ → ℕ → Bool) (s : ℕ) (js : List ℕ) → ((a : ℕ) → a < s → Returns e a → ⊥) → IsCycleFrom e s js → IsNamedCycle e js
named e s js none cycle = record {
  start = s;
  returns = cycle_returns e s js cycle;
  least = λ a back. by a back (nat_lt a s) refl;
  cycle = cycle;
}
  where
    by : (a : ℕ) → Returns e a → (t : Bool) → nat_lt a s ≡ t → s ≤ a
    by a back true h = absurd (none a (let l : a < s = grind arith in l) back)
    by a back false h = grind arith

-- what was said of a table and a list that are these
pub looked : {t u : List (Option ℕ)} {r q : List ℕ} (P : List (Option ℕ) → List ℕ → Type 0) → t ≡ u → r ≡ q → P t r → P u q
looked {t} {u} {r} {q} P e f h = subst (λ (x : List ℕ). P u x) f (subst (λ (x : List (Option ℕ)). P x r) e h)

-- what holds where there is no answer
pub no_answer : {A : Type 0} (o : Option A) (P : Type 0) (Q : A → Type 0) → ((x : A) → o ≡ Some x → ⊥) → MatchOption o P Q → P
no_answer None P Q none h = h
no_answer (Some x) P Q none h = absurd (none x refl)

-- the named cycle is one
same_next : (e : ℕ → ℕ → Bool) (s a d c b : ℕ) → IsNext e s a d c → IsNext e s a d b → c ≡ b
same_next e s a d c b one two = omega (arith, one.least b two.successor two.distance, two.least c one.successor one.distance)

same_descent : (e : ℕ → ℕ → Bool) (s d a : ℕ) (xs ys : List ℕ) → Descends e s d a xs → Descends e s d a ys → xs ≡ ys
same_descent e s zero a xs ys one two = one ∙ sym two
same_descent e s (suc d) a [] ys one two = absurd one
same_descent e s (suc d) a (x ∷ xs) [] one two = absurd two
same_descent e s (suc d) a (x ∷ xs) (y ∷ ys) one two =
    let next : one.1.0 ≡ two.1.0 = same_next e s a d one.1.0 two.1.0 one.1.1 two.1.1 in
    let rest : xs ≡ ys = same_descent e s d two.1.0 xs ys (subst (λ (c : ℕ). Descends e s d c xs) next one.1.2) two.1.2 in
    ap (λ (n : ℕ). n ∷ xs) (one.0 ∙ sym two.0) ∙ ap (λ (ns : List ℕ). y ∷ ns) rest

same_from : (e : ℕ → ℕ → Bool) (s : ℕ) (xs ys : List ℕ) → IsCycleFrom e s xs → IsCycleFrom e s ys → xs ≡ ys
same_from e s xs ys one two =
    let far : one.distance ≡ two.distance = omega (arith, one.nearest two.second two.distance two.next.successor two.next.distance, two.nearest one.second one.distance one.next.successor one.next.distance) in
    let next : one.second ≡ two.second = same_next e s s two.distance one.second two.second (subst (λ (d : ℕ). IsNext e s s d one.second) far one.next) two.next in
    let down : Descends e s two.distance two.second one.rest = subst (λ (c : ℕ). Descends e s two.distance c one.rest) next (subst (λ (d : ℕ). Descends e s d one.second one.rest) far one.descent) in
    one.is ∙ ap (λ (ns : List ℕ). s ∷ ns) (same_descent e s two.distance two.second one.rest two.rest down two.descent) ∙ sym two.is

pub same_cycle : (e : ℕ → ℕ → Bool) (xs ys : List ℕ) → IsNamedCycle e xs → IsNamedCycle e ys → xs ≡ ys
same_cycle e xs ys one two =
    let start : one.start ≡ two.start = omega (arith, one.least two.start two.returns, two.least one.start one.returns) in
    same_from e two.start xs ys (subst (λ (s : ℕ). IsCycleFrom e s xs) start one.cycle) two.cycle
