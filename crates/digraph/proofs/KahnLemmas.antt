-- Kahn's algorithm, one step further.
use Rattle.std.proofs.Common.{◌≡◌, ◌≢◌, ℕ, zero, suc, ◌+◌, ◌-◌, ◌<◌, ◌≤◌, Bool, true, false, cond, ◌||◌, List, [], ◌∷◌, ◌++◌, length, take, get_or, refl, sym, ap, ◌∙◌, nat_eq, nat_lt, arith, map, subst}
use Rattle.std.specs.Prelude.{slice_set, Vec}
use Rattle.std.specs.List.{All}
use Rattle.std.proofs.lemmas.Grind.{common_steps}
use Rattle.std.proofs.lemmas.List.{append-nil, length-append, append_assoc, take_more, get_or_default, take_all, take-append-le, length-map, get_or_append_left, get_or_past}
use Rattle.std.proofs.lemmas.List.Elements.{All-nil, All-push, All-weaker}
use Rattle.std.specs.declared.alloc.Global.{Global}
use Rattle.std.proofs.lemmas.List.Folds.{list_any-append}
use Rattle.std.proofs.lemmas.Bool.{eq-eqb, eqb-false, eqb-true, ne_eqb}
use Rattle.digraph.proofs.AdjacencyLemmas.{neighbours_past, times_rising}
use Rattle.digraph.specs.code.Adjacency.{AreLinked, comes, lists_of}
use Rattle.digraph.specs.Adjacency.{has_node, neighbours, times}
use Rattle.digraph.specs.code.Kahn.{IsPlacement, IsReleased, free, missing, waiting, waits_for}
use Rattle.digraph.specs.Order.{IsInOrder}
use Rattle.digraph.proofs.TimesLemmas.{times_push, times_front, present, missing_all, missing_push, missing_none, missing_some, new_at, has_front, stands_once, all_has}

-- counts
waits_for_set : (counts : List ℕ) (i b x : ℕ) → i < length counts → waits_for (slice_set counts i x) b ≡ cond {A = ℕ} (nat_eq i b) x (waits_for counts b)
waits_for_set counts i b x h = grind (arith, common_steps)

waiting_set : (counts : List ℕ) (i x : ℕ) → i < length counts → waiting (slice_set counts i x) + cond {A = ℕ} (nat_eq (waits_for counts i) 0) 0 1 ≡ waiting counts + cond {A = ℕ} (nat_eq x 0) 0 1
waiting_set [] i x h = absurd (omega arith)
waiting_set (y ∷ counts) zero x h = omega arith
waiting_set (y ∷ counts) (suc i) x h = let rest : waiting (slice_set counts i x) + cond {A = ℕ} (nat_eq (waits_for counts i) 0) 0 1 ≡ waiting counts + cond {A = ℕ} (nat_eq x 0) 0 1 = waiting_set counts i x (omega arith) in omega (arith, rest)

pub waiting_push : (xs : List ℕ) (x : ℕ) → waiting (xs ++ x ∷ []) ≡ waiting xs + cond {A = ℕ} (nat_eq x 0) 0 1
waiting_push [] x = omega arith
waiting_push (y ∷ xs) x = let rest : waiting (xs ++ x ∷ []) ≡ waiting xs + cond {A = ℕ} (nat_eq x 0) 0 1 = waiting_push xs x in omega (arith, rest)

pub nothing_released : (counts : List ℕ) (ordered : List ℕ) → IsReleased counts counts ordered ordered []
nothing_released counts ordered = record {
  fewer = λ b. omega arith;
  placed = λ b. refl;
  kept = refl;
  more = [];
  is = sym (append-nil ordered);
  done = All-nil (λ (j : ℕ). waits_for counts j ≡ 0);
}

-- one successor more
pub release_more : (first cur : List ℕ) (ordered longer before : List ℕ) (c : ℕ) → IsReleased first cur ordered longer before → c < length cur → 0 < waits_for cur c
    → (new : List ℕ) → new ≡ slice_set cur c (waits_for cur c - 1) → (b : Bool) → nat_eq (waits_for cur c - 1) 0 ≡ b → IsReleased first new ordered (cond b (longer ++ c ∷ []) longer) (before ++ c ∷ [])
release_more first cur ordered longer before c released h some new is b e = record {
  fewer = λ k. let step : waits_for new k + cond {A = ℕ} (nat_eq c k) 1 0 ≡ waits_for cur k = fewer_by k (nat_eq c k) refl in omega (arith, released.fewer k, times_push k before c, step);
  placed = λ k. placed_by k (nat_eq c k) refl b e;
  kept = kept_by b e;
  more = cond b (released.more ++ c ∷ []) released.more;
  is = is_by b;
  done = done_by b e;
}
  where
    at : (k : ℕ) → waits_for new k ≡ cond {A = ℕ} (nat_eq c k) (waits_for cur c - 1) (waits_for cur k)
    at k = ap (λ (x : List ℕ). waits_for x k) is ∙ waits_for_set cur c k (waits_for cur c - 1) h

    fewer_by : (k : ℕ) (t : Bool) → nat_eq c k ≡ t → waits_for new k + cond {A = ℕ} (nat_eq c k) 1 0 ≡ waits_for cur k
    fewer_by k true f =
        let same : waits_for cur c ≡ waits_for cur k = ap (waits_for cur) (eqb-true c k f) in
        let now : waits_for new k ≡ waits_for cur c - 1 = at k ∙ ap (λ (t : Bool). cond t (waits_for cur c - 1) (waits_for cur k)) f in
        let one : cond {A = ℕ} (nat_eq c k) 1 0 ≡ 1 = ap (λ (t : Bool). cond t 1 0) f in
        omega (arith, same, now, one, some)
    fewer_by k false f =
        let now : waits_for new k ≡ waits_for cur k = at k ∙ ap (λ (t : Bool). cond t (waits_for cur c - 1) (waits_for cur k)) f in
        let none : cond {A = ℕ} (nat_eq c k) 1 0 ≡ 0 = ap (λ (t : Bool). cond t 1 0) f in
        omega (arith, now, none)

    not_yet : nat_eq (waits_for cur c) 0 ≡ false
    not_yet = ne_eqb (waits_for cur c) 0 (λ z. omega (arith, z, some))

    placed_by : (k : ℕ) (t : Bool) → nat_eq c k ≡ t → (u : Bool) → nat_eq (waits_for cur c - 1) 0 ≡ u → times k (cond u (longer ++ c ∷ []) longer) + free first k ≡ times k ordered + free new k
    placed_by k true f true g =
        let now : free new k ≡ 1 = ap (λ (x : ℕ). cond {A = ℕ} (nat_eq x 0) 1 0) (at k ∙ ap (λ (t : Bool). cond t (waits_for cur c - 1) (waits_for cur k)) f) ∙ ap (λ (t : Bool). cond t 1 0) g in
        let was : free cur k ≡ 0 = ap (λ (n : ℕ). free cur n) (sym (eqb-true c k f)) ∙ ap (λ (t : Bool). cond t 1 0) not_yet in
        let one : cond {A = ℕ} (nat_eq c k) 1 0 ≡ 1 = ap (λ (t : Bool). cond t 1 0) f in
        omega (arith, released.placed k, times_push k longer c, now, was, one)
    placed_by k true f false g =
        let now : free new k ≡ 0 = ap (λ (x : ℕ). cond {A = ℕ} (nat_eq x 0) 1 0) (at k ∙ ap (λ (t : Bool). cond t (waits_for cur c - 1) (waits_for cur k)) f) ∙ ap (λ (t : Bool). cond t 1 0) g in
        let was : free cur k ≡ 0 = ap (λ (n : ℕ). free cur n) (sym (eqb-true c k f)) ∙ ap (λ (t : Bool). cond t 1 0) not_yet in
        omega (arith, released.placed k, now, was)
    placed_by k false f true g =
        let now : free new k ≡ free cur k = ap (λ (x : ℕ). cond {A = ℕ} (nat_eq x 0) 1 0) (at k ∙ ap (λ (t : Bool). cond t (waits_for cur c - 1) (waits_for cur k)) f) in
        let none : cond {A = ℕ} (nat_eq c k) 1 0 ≡ 0 = ap (λ (t : Bool). cond t 1 0) f in
        omega (arith, released.placed k, times_push k longer c, now, none)
    placed_by k false f false g =
        let now : free new k ≡ free cur k = ap (λ (x : ℕ). cond {A = ℕ} (nat_eq x 0) 1 0) (at k ∙ ap (λ (t : Bool). cond t (waits_for cur c - 1) (waits_for cur k)) f) in
        omega (arith, released.placed k, now)

    counted : waiting new + 1 ≡ waiting cur + cond {A = ℕ} (nat_eq (waits_for cur c - 1) 0) 0 1
    counted =
        let step : waiting new + cond {A = ℕ} (nat_eq (waits_for cur c) 0) 0 1 ≡ waiting cur + cond {A = ℕ} (nat_eq (waits_for cur c - 1) 0) 0 1 = ap (λ (x : List ℕ). waiting x + cond {A = ℕ} (nat_eq (waits_for cur c) 0) 0 1) is ∙ waiting_set cur c (waits_for cur c - 1) h in
        let one : cond {A = ℕ} (nat_eq (waits_for cur c) 0) 0 1 ≡ 1 = ap (λ (t : Bool). cond t 0 1) not_yet in
        omega (arith, step, one)

    kept_by : (u : Bool) → nat_eq (waits_for cur c - 1) 0 ≡ u → waiting new + length (cond u (longer ++ c ∷ []) longer) ≡ waiting first + length ordered
    kept_by true g = let z : cond {A = ℕ} (nat_eq (waits_for cur c - 1) 0) 0 1 ≡ 0 = ap (λ (t : Bool). cond t 0 1) g in omega (arith, released.kept, counted, z, length-append longer (c ∷ []))
    kept_by false g = let z : cond {A = ℕ} (nat_eq (waits_for cur c - 1) 0) 0 1 ≡ 1 = ap (λ (t : Bool). cond t 0 1) g in omega (arith, released.kept, counted, z)

    is_by : (u : Bool) → cond u (longer ++ c ∷ []) longer ≡ ordered ++ cond u (released.more ++ c ∷ []) released.more
    is_by true = ap (λ (x : List ℕ). x ++ c ∷ []) released.is ∙ append_assoc ordered released.more (c ∷ [])
    is_by false = released.is

    stays : (j : ℕ) → waits_for cur j ≡ 0 → waits_for new j ≡ 0
    stays j z = at j ∙ ap (λ (t : Bool). cond t (waits_for cur c - 1) (waits_for cur j)) (ne_eqb c j (λ s. let k : waits_for cur c ≡ waits_for cur j = ap (waits_for cur) s in omega (arith, k, z, some))) ∙ z

    still : All (λ (j : ℕ). waits_for new j ≡ 0) released.more
    still = All-weaker (λ (j : ℕ). waits_for cur j ≡ 0) (λ (j : ℕ). waits_for new j ≡ 0) stays released.more released.done

    done_by : (u : Bool) → nat_eq (waits_for cur c - 1) 0 ≡ u → All (λ (j : ℕ). waits_for new j ≡ 0) (cond u (released.more ++ c ∷ []) released.more)
    done_by true g = All-push (λ (j : ℕ). waits_for new j ≡ 0) released.more c still (at c ∙ ap (λ (t : Bool). cond t (waits_for cur c - 1) (waits_for cur c)) (eq-eqb c c refl) ∙ eqb-true (waits_for cur c - 1) 0 g)
    done_by false g = still

-- the nodes that wait for none at first
pub record Rooted (counts : List ℕ) (i : ℕ) (nodes : List ℕ) : Type 0 where
  pub placed : (b : ℕ) → times b nodes ≡ cond {A = ℕ} (nat_lt b i) (free counts b) 0
  pub kept : waiting (take i counts) + length nodes ≡ i
  pub done : All (λ (j : ℕ). waits_for counts j ≡ 0) nodes

pub rooted_none : (counts : List ℕ) → Rooted counts 0 []
rooted_none counts = record { placed = λ b. sym (ap (λ (t : Bool). cond t (free counts b) 0) (no_less b)); kept = refl; done = All-nil (λ (j : ℕ). waits_for counts j ≡ 0) }
  where
    no_less : (b : ℕ) → nat_lt b 0 ≡ false
    no_less b = grind arith

pub rooted_more : (counts : List ℕ) (i : ℕ) (nodes : List ℕ) (j : ℕ) → j ≡ i → i < length counts → Rooted counts i nodes → (b : Bool) → nat_eq (waits_for counts i) 0 ≡ b → Rooted counts (i + 1) (cond b (nodes ++ j ∷ []) nodes)
rooted_more counts i nodes j is h rooted b e = record {
  placed = λ k. by k b e (nat_eq i k) refl;
  kept = kept_by b e;
  done = done_by b e;
}
  where
    below_more : (k : ℕ) → nat_eq i k ≡ false → nat_lt k i ≡ nat_lt k (i + 1)
    below_more k f = grind arith

    here : (k : ℕ) → nat_eq i k ≡ true → nat_lt k (i + 1) ≡ true
    here k f = grind arith

    before : (k : ℕ) → nat_eq i k ≡ true → nat_lt k i ≡ false
    before k f = grind arith

    at_i : (k : ℕ) → nat_eq i k ≡ true → cond {A = ℕ} (nat_lt k (i + 1)) (free counts k) 0 ≡ cond {A = ℕ} (nat_eq (waits_for counts i) 0) 1 0
    at_i k f = ap (λ (t : Bool). cond t (free counts k) 0) (here k f) ∙ ap (free counts) (sym (eqb-true i k f))

    was_i : (k : ℕ) → nat_eq i k ≡ true → times k nodes ≡ 0
    was_i k f = rooted.placed k ∙ ap (λ (t : Bool). cond t (free counts k) 0) (before k f)

    node_is : (k : ℕ) → nat_eq j k ≡ nat_eq i k
    node_is k = ap (λ (n : ℕ). nat_eq n k) is

    by : (k : ℕ) (u : Bool) → nat_eq (waits_for counts i) 0 ≡ u → (t : Bool) → nat_eq i k ≡ t → times k (cond u (nodes ++ j ∷ []) nodes) ≡ cond {A = ℕ} (nat_lt k (i + 1)) (free counts k) 0
    by k true g true f =
        let one : cond {A = ℕ} (nat_eq j k) 1 0 ≡ 1 = ap (λ (t : Bool). cond t 1 0) (node_is k ∙ f) in
        let want : cond {A = ℕ} (nat_lt k (i + 1)) (free counts k) 0 ≡ 1 = at_i k f ∙ ap (λ (t : Bool). cond t 1 0) g in
        omega (arith, times_push k nodes j, one, want, was_i k f)
    by k false g true f = was_i k f ∙ sym (at_i k f ∙ ap (λ (t : Bool). cond t 1 0) g)
    by k true g false f =
        let none : cond {A = ℕ} (nat_eq j k) 1 0 ≡ 0 = ap (λ (t : Bool). cond t 1 0) (node_is k ∙ f) in
        let same : cond {A = ℕ} (nat_lt k i) (free counts k) 0 ≡ cond {A = ℕ} (nat_lt k (i + 1)) (free counts k) 0 = ap (λ (t : Bool). cond t (free counts k) 0) (below_more k f) in
        omega (arith, times_push k nodes j, none, same, rooted.placed k)
    by k false g false f = rooted.placed k ∙ ap (λ (t : Bool). cond t (free counts k) 0) (below_more k f)

    taken : waiting (take (i + 1) counts) ≡ waiting (take i counts) + cond {A = ℕ} (nat_eq (waits_for counts i) 0) 0 1
    taken = ap waiting (take_more counts i 1 h) ∙ waiting_push (take i counts) (waits_for counts i)

    kept_by : (u : Bool) → nat_eq (waits_for counts i) 0 ≡ u → waiting (take (i + 1) counts) + length (cond u (nodes ++ j ∷ []) nodes) ≡ i + 1
    kept_by true g = let z : cond {A = ℕ} (nat_eq (waits_for counts i) 0) 0 1 ≡ 0 = ap (λ (t : Bool). cond t 0 1) g in omega (arith, taken, z, rooted.kept, length-append nodes (j ∷ []))
    kept_by false g = let z : cond {A = ℕ} (nat_eq (waits_for counts i) 0) 0 1 ≡ 1 = ap (λ (t : Bool). cond t 0 1) g in omega (arith, taken, z, rooted.kept)

    done_by : (u : Bool) → nat_eq (waits_for counts i) 0 ≡ u → All (λ (j : ℕ). waits_for counts j ≡ 0) (cond u (nodes ++ j ∷ []) nodes)
    done_by true g = All-push (λ (j : ℕ). waits_for counts j ≡ 0) nodes j rooted.done (ap (waits_for counts) is ∙ eqb-true (waits_for counts i) 0 g)
    done_by false g = rooted.done

pub waits_for_at : (counts : List ℕ) (i d : ℕ) → i < length counts → waits_for counts i ≡ get_or counts i d
waits_for_at counts i d h = get_or_default counts i 1 d h

-- a node that is looked at next has predecessors to wait for
pub waits_still : (first cur : List ℕ) (ordered longer successors : List ℕ) (i : ℕ) (c : ℕ) → IsReleased first cur ordered longer (take i successors) → ((b : ℕ) → times b successors ≤ waits_for first b) → i < length successors → get_or successors i c ≡ c → 0 < waits_for cur c
waits_still first cur ordered longer successors i c released enough h is =
    let front : times c (take (i + 1) successors) ≡ times c (take i successors) + 1 =
    ap (times c) (take_more successors i c h ∙ ap (λ (k : ℕ). take i successors ++ k ∷ []) is) ∙ times_push c (take i successors) c ∙ ap (λ (t : Bool). times c (take i successors) + cond {A = ℕ} t 1 0) (eq-eqb c c refl) in
    omega (arith, front, times_front c (i + 1) successors, enough c, released.fewer c)

pub record Placed (predecessors : List (List ℕ)) (head : ℕ) (ordered : List ℕ) (counts : List ℕ) : Type 0 where
  pub long : length counts ≡ length predecessors
  pub within : head ≤ length ordered
  pub open_is : (b : ℕ) → b < length predecessors → waits_for counts b ≡ missing (take head ordered) (neighbours predecessors b)
  pub once : (b : ℕ) → times b ordered ≡ free counts b
  pub in_order : IsInOrder (comes predecessors) ordered
  pub kept : waiting counts + length ordered ≡ length predecessors

pub free_small : (counts : List ℕ) (b : ℕ) → free counts b ≤ 1
free_small counts b = by (nat_eq (waits_for counts b) 0)
  where
    by : (t : Bool) → cond {A = ℕ} t 1 0 ≤ 1
    by true = omega arith
    by false = omega arith

take_past : (n : ℕ) (xs ys : List ℕ) → length xs ≤ n → take n (xs ++ ys) ≡ xs ++ take (n - length xs) ys
take_past zero [] ys h = refl
take_past (suc n) [] ys h = let e : suc n - 0 ≡ suc n = omega arith in sym (ap (λ (m : ℕ). take m ys) e)
take_past zero (x ∷ xs) ys h = absurd (omega arith)
take_past (suc n) (x ∷ xs) ys h =
    let e : suc n - length (x ∷ xs) ≡ n - length xs = omega arith in
    ap (λ (zs : List ℕ). x ∷ zs) (take_past n xs ys (omega arith)) ∙ sym (ap (λ (m : ℕ). x ∷ xs ++ take m ys) e)

pub order_more : (e : ℕ → ℕ → Bool) (xs ys : List ℕ) → IsInOrder e xs → ((i : ℕ) (j : ℕ) → i < length ys → get_or ys i j ≡ j → (a : ℕ) → e a j ≡ true → has_node a xs ≡ true) → IsInOrder e (xs ++ ys)
order_more e xs ys order later i j h is a edge = by (nat_lt i (length xs)) refl
  where
    by : (t : Bool) → nat_lt i (length xs) ≡ t → has_node a (take i (xs ++ ys)) ≡ true
    by true l =
        let low : i < length xs = grind arith in
        ap (has_node a) (take-append-le i xs ys (omega arith)) ∙ order i j low (sym (get_or_append_left xs ys j i low) ∙ is) a edge
    by false l =
        let high : length xs ≤ i = grind arith in
        let at : get_or ys (i - length xs) j ≡ j = grind (arith, common_steps) in
        let there : has_node a xs ≡ true = later (i - length xs) j (omega (arith, high, h, length-append xs ys)) at a edge in
        ap (has_node a) (take_past i xs ys high) ∙ list_any-append (λ (k : ℕ). nat_eq k a) xs (take (i - length xs) ys) ∙ ap (λ (b : Bool). b || has_node a (take (i - length xs) ys)) there

past_open : (counts : List ℕ) (b : ℕ) → length counts ≤ b → waits_for counts b ≡ 1
past_open counts b h = get_or_past counts b 1 h

-- a node that waits for none is one
pub is_one : (counts : List ℕ) (b : ℕ) → waits_for counts b ≡ 0 → b < length counts
is_one counts b none = by (nat_lt b (length counts)) refl
  where
    by : (t : Bool) → nat_lt b (length counts) ≡ t → b < length counts
    by true h = grind arith
    by false h = absurd (let k : length counts ≤ b = grind arith in let one : waits_for counts b ≡ 1 = past_open counts b k in omega (arith, one, none))

-- its predecessors are placed
cleared : (predecessors : List (List ℕ)) (placed : List ℕ) (counts : List ℕ) → length counts ≡ length predecessors → ((b : ℕ) → b < length predecessors → waits_for counts b ≡ missing placed (neighbours predecessors b))
    → (b : ℕ) → waits_for counts b ≡ 0 → (a : ℕ) → comes predecessors a b ≡ true → has_node a placed ≡ true
cleared predecessors placed counts long is b none a edge =
    missing_none placed (neighbours predecessors b) a (sym (is b (let h : b < length counts = is_one counts b none in omega arith)) ∙ none) edge

pub linked_times : (predecessors successors : List (List ℕ)) → AreLinked predecessors successors → (a b : ℕ) → times b (neighbours successors a) ≡ times a (neighbours predecessors b)
linked_times predecessors successors linked a b = times_rising (neighbours successors a) b (linked.successors_rising a) ∙ ap (λ (t : Bool). cond {A = ℕ} t 1 0) (sym (linked.same a b)) ∙ sym (times_rising (neighbours predecessors b) a (linked.predecessors_rising b))

pub free_none : (counts : List ℕ) (b : ℕ) → 1 ≤ free counts b → waits_for counts b ≡ 0
free_none counts b h = by (nat_eq (waits_for counts b) 0) refl
  where
    by : (t : Bool) → nat_eq (waits_for counts b) 0 ≡ t → waits_for counts b ≡ 0
    by true e = eqb-true (waits_for counts b) 0 e
    by false e = absurd (let z : free counts b ≡ 0 = ap (λ (t : Bool). cond {A = ℕ} t 1 0) e in omega (arith, z, h))

-- a placed node is one
pub placed_in : (predecessors : List (List ℕ)) (head : ℕ) (ordered : List ℕ) (counts : List ℕ) → Placed predecessors head ordered counts → (i : ℕ) (j : ℕ) → i < length ordered → get_or ordered i j ≡ j → j < length predecessors
placed_in predecessors head ordered counts placed i j h is =
    let low : j < length counts = is_one counts j (free_none counts j (let k : 1 ≤ times j ordered = stands_once ordered i j h is in omega (arith, k, placed.once j))) in
    omega (arith, low, placed.long)

lengths : (vs : List (Vec ℕ Global)) (b : ℕ) → b < length vs → waits_for (map (λ (v : Vec ℕ Global). length v.items) vs) b ≡ length (neighbours (lists_of vs) b)
lengths [] b h = absurd (omega arith)
lengths (v ∷ vs) zero h = refl
lengths (v ∷ vs) (suc b) h = lengths vs b (omega arith)

-- at the beginning
pub placed_first : (vs : List (Vec ℕ Global)) (ordered : List ℕ) (counts : List ℕ) → counts ≡ map (λ (v : Vec ℕ Global). length v.items) vs → ((b : ℕ) → times b ordered ≡ free counts b) → waiting counts + length ordered ≡ length counts
    → All (λ (j : ℕ). waits_for counts j ≡ 0) ordered → Placed (lists_of vs) 0 ordered counts
placed_first vs ordered counts is once kept done = record {
  long = long;
  within = omega arith;
  open_is = waits;
  once = once;
  in_order = order_more (comes (lists_of vs)) [] ordered (λ i j h. absurd (omega arith)) (λ i j h at a edge. cleared (lists_of vs) [] counts long waits j (subst (λ (k : ℕ). waits_for counts k ≡ 0) at (done i j h)) a edge);
  kept = omega (arith, kept, long);
}
  where
    long : length counts ≡ length (lists_of vs)
    long = ap length is ∙ length-map vs (λ (v : Vec ℕ Global). length v.items) ∙ sym (length-map vs (λ (v : Vec ℕ Global). v.items))

    waits : (b : ℕ) → b < length (lists_of vs) → waits_for counts b ≡ missing [] (neighbours (lists_of vs) b)
    waits b h = ap (λ (x : List ℕ). waits_for x b) is ∙ lengths vs b (let l : length (lists_of vs) ≡ length vs = length-map vs (λ (v : Vec ℕ Global). v.items) in omega (arith, l, h)) ∙ sym (missing_all (neighbours (lists_of vs) b))

-- what the release of a node's successors asks
pub enough : (predecessors successors : List (List ℕ)) (head : ℕ) (ordered : List ℕ) (counts : List ℕ) → AreLinked predecessors successors → Placed predecessors head ordered counts → (j : ℕ) → head < length ordered → get_or ordered head j ≡ j → (b : ℕ) → times b (neighbours successors j) ≤ waits_for counts b
enough predecessors successors head ordered counts linked placed j h is b = by (nat_lt b (length predecessors)) refl
  where
    not_yet : has_node j (take head ordered) ≡ false
    not_yet = new_at ordered head j h is (let k : free counts j ≤ 1 = free_small counts j in omega (arith, k, placed.once j))

    by : (t : Bool) → nat_lt b (length predecessors) ≡ t → times b (neighbours successors j) ≤ waits_for counts b
    by true l =
        let low : b < length predecessors = grind arith in
        omega (arith, linked_times predecessors successors linked j b, placed.open_is b low, missing_push (take head ordered) j (neighbours predecessors b) not_yet)
    by false l =
        let high : length predecessors ≤ b = grind arith in
        let none : times j (neighbours predecessors b) ≡ 0 = ap (times j) (neighbours_past predecessors b high) in
        omega (arith, linked_times predecessors successors linked j b, none)

-- one node more
pub placed_more : (predecessors successors : List (List ℕ)) (head : ℕ) (ordered longer : List ℕ) (counts new : List ℕ) → AreLinked predecessors successors → Placed predecessors head ordered counts → (j : ℕ) → head < length ordered → get_or ordered head j ≡ j
    → length new ≡ length counts → IsReleased counts new ordered longer (neighbours successors j) → Placed predecessors (head + 1) longer new
placed_more predecessors successors head ordered longer counts new linked placed j h is same released = record {
  long = same ∙ placed.long;
  within = let k : length longer ≡ length ordered + length released.more = ap length released.is ∙ length-append ordered released.more in omega (arith, k, h);
  open_is = waits;
  once = λ b. omega (arith, released.placed b, placed.once b);
  in_order = subst (λ (x : List ℕ). IsInOrder (comes predecessors) x) (sym released.is) (order_more (comes predecessors) ordered released.more placed.in_order (λ i y l at a edge.
      has_front a (head + 1) ordered (subst (λ (x : List ℕ). has_node a x ≡ true) front (cleared predecessors (take (head + 1) longer) new (same ∙ placed.long) waits y (subst (λ (k : ℕ). waits_for new k ≡ 0) at (released.done i y l)) a edge))));
  kept = omega (arith, released.kept, placed.kept);
}
  where
    not_yet : has_node j (take head ordered) ≡ false
    not_yet = new_at ordered head j h is (let k : free counts j ≤ 1 = free_small counts j in omega (arith, k, placed.once j))

    front : take (head + 1) longer ≡ take (head + 1) ordered
    front = ap (take (head + 1)) released.is ∙ take-append-le (head + 1) ordered released.more (omega (arith, h))

    pushed : take (head + 1) longer ≡ take head ordered ++ j ∷ []
    pushed = front ∙ take_more ordered head j h ∙ ap (λ (k : ℕ). take head ordered ++ k ∷ []) is

    waits : (b : ℕ) → b < length predecessors → waits_for new b ≡ missing (take (head + 1) longer) (neighbours predecessors b)
    waits b l =
        let step : waits_for new b ≡ missing (take head ordered ++ j ∷ []) (neighbours predecessors b) = omega (arith, released.fewer b, placed.open_is b l, linked_times predecessors successors linked j b, missing_push (take head ordered) j (neighbours predecessors b) not_yet) in
        step ∙ ap (λ (x : List ℕ). missing x (neighbours predecessors b)) (sym pushed)

-- when all have released their successors
pub placed_all : (predecessors successors : List (List ℕ)) (head : ℕ) (ordered : List ℕ) (counts : List ℕ) → AreLinked predecessors successors → Placed predecessors head ordered counts → length ordered ≤ head → IsPlacement predecessors ordered counts
placed_all predecessors successors head ordered counts linked placed past = record {
  long = placed.long;
  placed = placed.once;
  in_order = placed.in_order;
  kept = placed.kept;
  stuck = λ b l waits. wait b (missing_some ordered (neighbours predecessors b) (λ none. waits (placed.open_is b l ∙ ap (λ (x : List ℕ). missing x (neighbours predecessors b)) (take_all head ordered past) ∙ none)));
}
  where
    wait : (b : ℕ) → (a : ℕ) × (has_node a (neighbours predecessors b) ≡ true) × (has_node a ordered ≡ false) → (a : ℕ) × (comes predecessors a b ≡ true) × (a < length predecessors) × (waits_for counts a ≢ 0)
    wait b found =
        let a = found.0 in (
          a,
          found.1,
          all_has (length predecessors) (neighbours predecessors b) a (linked.predecessors_in b) found.1,
          λ none.
              let one : free counts a ≡ 1 = ap (λ (x : ℕ). cond {A = ℕ} (nat_eq x 0) 1 0) none in
              let zero_times : times a ordered ≡ 0 = present a ordered found.2 in
              omega (arith, one, zero_times, placed.once a),
        )

-- where none waits, each is free
all_free : (counts : List ℕ) (b : ℕ) → waiting counts ≡ 0 → b < length counts → waits_for counts b ≡ 0
all_free [] b none h = absurd (omega arith)
all_free (x ∷ counts) b none h = by (nat_eq x 0) refl none b h (λ c z l. all_free counts c z l)
  where
    by : (t : Bool) → nat_eq x 0 ≡ t → cond {A = ℕ} t 0 1 + waiting counts ≡ 0 → (b : ℕ) → b < length (x ∷ counts) → ((c : ℕ) → waiting counts ≡ 0 → c < length counts → waits_for counts c ≡ 0) → waits_for (x ∷ counts) b ≡ 0
    by true e none zero h rest = eqb-true x 0 e
    by true e none (suc b) h rest = let later : waiting counts ≡ 0 = omega (arith, none) in rest b later (omega arith)
    by false e none b h rest = absurd (omega (arith, none))

-- where some wait, here is one
one_waits : (counts : List ℕ) → 0 < waiting counts → (b : ℕ) × (b < length counts) × (waits_for counts b ≢ 0)
one_waits [] some = absurd (omega arith)
one_waits (x ∷ counts) some = by (nat_eq x 0) refl some (λ h. one_waits counts h)
  where
    by : (t : Bool) → nat_eq x 0 ≡ t → 0 < cond {A = ℕ} t 0 1 + waiting counts → (0 < waiting counts → (b : ℕ) × (b < length counts) × (waits_for counts b ≢ 0)) → (b : ℕ) × (b < length (x ∷ counts)) × (waits_for (x ∷ counts) b ≢ 0)
    by true e some rest = let found = rest (omega (arith, some)) in (suc found.0, (let l : found.0 < length counts = found.1 in omega arith), found.2)
    by false e some rest = (0, omega arith, eqb-false x 0 e)

pub all_placed : (predecessors : List (List ℕ)) (ordered : List ℕ) (counts : List ℕ) → IsPlacement predecessors ordered counts → length ordered ≡ length predecessors → (b : ℕ) → b < length predecessors → times b ordered ≡ 1
all_placed predecessors ordered counts placement all b h =
    let none : waits_for counts b ≡ 0 = all_free counts b (omega (arith, placement.kept, all)) (omega (arith, h, placement.long)) in
    placement.placed b ∙ ap (λ (x : ℕ). cond {A = ℕ} (nat_eq x 0) 1 0) none

pub one_stuck : (predecessors : List (List ℕ)) (ordered : List ℕ) (counts : List ℕ) → IsPlacement predecessors ordered counts → length ordered ≢ length predecessors → (b : ℕ) × (b < length predecessors) × (waits_for counts b ≢ 0)
one_stuck predecessors ordered counts placement fewer =
    let found = one_waits counts (omega (arith, placement.kept, fewer)) in (found.0, (let l : found.0 < length counts = found.1 in omega (arith, l, placement.long)), found.2)

-- a placed node is below the count
pub ordered_in : (predecessors : List (List ℕ)) (ordered : List ℕ) (counts : List ℕ) → IsPlacement predecessors ordered counts → All (λ n. n < length predecessors) ordered
ordered_in predecessors ordered counts placement i d h =
    let at : get_or ordered i (get_or ordered i d) ≡ get_or ordered i d = get_or_default ordered i (get_or ordered i d) d h in
    let once : 1 ≤ times (get_or ordered i d) ordered = stands_once ordered i (get_or ordered i d) h at in
    let low : get_or ordered i d < length counts = is_one counts (get_or ordered i d) (free_none counts (get_or ordered i d) (omega (arith, once, placement.placed (get_or ordered i d)))) in
    omega (arith, low, placement.long)
