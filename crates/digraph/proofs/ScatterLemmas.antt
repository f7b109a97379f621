-- A node more at the end of some lists, and the lists turned round by it.
use Rattle.std.proofs.Common.{◌≡◌, ℕ, suc, ◌+◌, ◌-◌, ◌<◌, ◌≤◌, Bool, true, false, cond, ◌||◌, ◌&&◌, List, [], ◌∷◌, ◌++◌, length, get_or, refl, sym, ap, subst, ◌∙◌, nat_eq, nat_lt, arith}
use Rattle.std.specs.List.{All}
use Rattle.std.proofs.lemmas.List.Elements.{All-head, All-tail, All-nil, All-push, All-weaker}
use Rattle.std.proofs.Math.Bool.{or-false, or-true}
use Rattle.std.proofs.lemmas.Bool.{eq-eqb, eqb-true, ne_eqb}
use Rattle.digraph.specs.Adjacency.{IsRising, has_node, neighbours}
use Rattle.digraph.specs.code.Adjacency.{IsTransposed}
use Rattle.digraph.specs.code.Scatter.{IsScattered, ends_with}
use Rattle.digraph.proofs.AdjacencyLemmas.{has_push, neighbours_past}

pub ends_last : (js : List ℕ) (a : ℕ) (d : ℕ) → 0 < length js → nat_eq (get_or js (length js - 1) d) a ≡ ends_with a js
ends_last [] a d h = absurd (omega arith)
ends_last (j ∷ []) a d h = refl
ends_last (j ∷ k ∷ js) a d h =
    let e : length (j ∷ k ∷ js) - 1 ≡ suc (length (k ∷ js) - 1) = omega arith in
    ap (λ (n : ℕ). nat_eq (get_or (j ∷ k ∷ js) n d) a) e ∙ ends_last (k ∷ js) a d (omega arith)

pub ends_pushed : (js : List ℕ) (j : ℕ) → ends_with j (js ++ j ∷ []) ≡ true
ends_pushed [] j = eq-eqb j j refl
ends_pushed (i ∷ []) j = eq-eqb j j refl
ends_pushed (i ∷ k ∷ js) j = ends_pushed (k ∷ js) j

pub ends_lower : (js : List ℕ) (a : ℕ) → All (λ (j : ℕ). j < a) js → ends_with a js ≡ false
ends_lower [] a low = refl
ends_lower (j ∷ []) a low = let h : j < a = All-head (λ (j : ℕ). j < a) j [] low in ne_eqb j a (λ e. omega arith)
ends_lower (j ∷ k ∷ js) a low = ends_lower (k ∷ js) a (All-tail (λ (j : ℕ). j < a) j (k ∷ js) low)

-- a place whose list ends with the node has been there
was_there : (old cur : List (List ℕ)) (node : ℕ) (places : List ℕ) (p : ℕ) → ((k : ℕ) → All (λ (j : ℕ). j < node) (neighbours old k)) → IsScattered old cur node places → (b : Bool) → has_node p places ≡ b → ends_with node (neighbours cur p) ≡ b
was_there old cur node places p lower is true h = ap (ends_with node) (is p ∙ ap (λ (b : Bool). cond b (neighbours old p ++ node ∷ []) (neighbours old p)) h) ∙ ends_pushed (neighbours old p) node
was_there old cur node places p lower is false h = ap (ends_with node) (is p ∙ ap (λ (b : Bool). cond b (neighbours old p ++ node ∷ []) (neighbours old p)) h) ∙ ends_lower (neighbours old p) node (lower p)

pub scatter_skip : (old cur : List (List ℕ)) (node p : ℕ) (places : List ℕ) → ((k : ℕ) → All (λ (j : ℕ). j < node) (neighbours old k)) → IsScattered old cur node places → ends_with node (neighbours cur p) ≡ true → IsScattered old cur node (places ++ p ∷ [])
scatter_skip old cur node p places lower is ends k = by (nat_eq p k) refl
  where
    there : has_node p places ≡ true
    there = sym (was_there old cur node places p lower is (has_node p places) refl) ∙ ends

    by : (b : Bool) → nat_eq p k ≡ b → neighbours cur k ≡ cond (has_node k (places ++ p ∷ [])) (neighbours old k ++ node ∷ []) (neighbours old k)
    by true e =
        let here : has_node k places ≡ true = subst (λ (n : ℕ). has_node n places ≡ true) (eqb-true p k e) there in
        is k ∙ ap (λ (b : Bool). cond b (neighbours old k ++ node ∷ []) (neighbours old k)) (here ∙ sym (has_push places p k ∙ ap (λ (b : Bool). b || nat_eq p k) here))
    by false e = is k ∙ ap (λ (b : Bool). cond b (neighbours old k ++ node ∷ []) (neighbours old k)) (sym (has_push places p k ∙ ap (λ (b : Bool). has_node k places || b) e ∙ or-false (has_node k places)))

pub scatter_add : (old cur new : List (List ℕ)) (node p : ℕ) (places : List ℕ) → ((k : ℕ) → All (λ (j : ℕ). j < node) (neighbours old k)) → IsScattered old cur node places → ends_with node (neighbours cur p) ≡ false
    → ((k : ℕ) → neighbours new k ≡ cond (nat_eq p k) (neighbours cur k ++ node ∷ []) (neighbours cur k)) → IsScattered old new node (places ++ p ∷ [])
scatter_add old cur new node p places lower is ends added k = by (nat_eq p k) refl
  where
    absent : has_node p places ≡ false
    absent = sym (was_there old cur node places p lower is (has_node p places) refl) ∙ ends

    by : (b : Bool) → nat_eq p k ≡ b → neighbours new k ≡ cond (has_node k (places ++ p ∷ [])) (neighbours old k ++ node ∷ []) (neighbours old k)
    by true e =
        let here : has_node k places ≡ false = subst (λ (n : ℕ). has_node n places ≡ false) (eqb-true p k e) absent in
        added k ∙ ap (λ (b : Bool). cond b (neighbours cur k ++ node ∷ []) (neighbours cur k)) e
        ∙ ap (λ (x : List ℕ). x ++ node ∷ []) (is k ∙ ap (λ (b : Bool). cond b (neighbours old k ++ node ∷ []) (neighbours old k)) here)
        ∙ sym (ap (λ (b : Bool). cond b (neighbours old k ++ node ∷ []) (neighbours old k)) (has_push places p k ∙ ap (λ (b : Bool). has_node k places || b) e ∙ or-true (has_node k places)))
    by false e =
        added k ∙ ap (λ (b : Bool). cond b (neighbours cur k ++ node ∷ []) (neighbours cur k)) e
        ∙ is k ∙ ap (λ (b : Bool). cond b (neighbours old k ++ node ∷ []) (neighbours old k)) (sym (has_push places p k ∙ ap (λ (b : Bool). has_node k places || b) e ∙ or-false (has_node k places)))

pub rising_push : (js : List ℕ) (j : ℕ) → IsRising js → All (λ (i : ℕ). i < j) js → IsRising (js ++ j ∷ [])
rising_push [] j up low = (All-nil (λ (k : ℕ). j < k), tt)
rising_push (i ∷ js) j up low = (
  All-push (λ (k : ℕ). i < k) js j up.0 (All-head (λ (k : ℕ). k < j) i js low),
  rising_push js j up.1 (All-tail (λ (k : ℕ). k < j) i js low),
)

-- the lists after the nodes before the i-th were looked through
pub record Turned (old new : List (List ℕ)) (i : ℕ) : Type 0 where
  pub rising : (k : ℕ) → IsRising (neighbours new k)
  pub lower : (k : ℕ) → All (λ (j : ℕ). j < i) (neighbours new k)
  pub same : (a b : ℕ) → has_node a (neighbours new b) ≡ (nat_lt a i && has_node b (neighbours old a))

pub turned_none : (old new : List (List ℕ)) → ((k : ℕ) → neighbours new k ≡ []) → Turned old new 0
turned_none old new none = record {
  rising = λ k. subst IsRising (sym (none k)) tt;
  lower = λ k. subst (λ (x : List ℕ). All (λ (j : ℕ). j < 0) x) (sym (none k)) (All-nil (λ (j : ℕ). j < 0));
  same = λ a b. ap (has_node a) (none b) ∙ sym (ap (λ (t : Bool). t && has_node b (neighbours old a)) (no_less a));
}
  where
    no_less : (a : ℕ) → nat_lt a 0 ≡ false
    no_less a = grind arith

pub turned_more : (old cur new : List (List ℕ)) (i : ℕ) (node : ℕ) → node ≡ i → Turned old cur i → IsScattered cur new node (neighbours old i) → Turned old new (i + 1)
turned_more old cur new i node is turned scattered = record {
  rising = λ k. subst IsRising (sym (scattered k)) (rises k (has_node k (neighbours old i)));
  lower = λ k. subst (λ (x : List ℕ). All (λ (j : ℕ). j < i + 1) x) (sym (scattered k)) (stays k (has_node k (neighbours old i)));
  same = λ a b. ap (has_node a) (scattered b) ∙ both a b (has_node b (neighbours old i)) refl (nat_eq i a) refl;
}
  where
    rises : (k : ℕ) (b : Bool) → IsRising (cond b (neighbours cur k ++ node ∷ []) (neighbours cur k))
    rises k true = rising_push (neighbours cur k) node (turned.rising k) (All-weaker (λ (j : ℕ). j < i) (λ (j : ℕ). j < node) (λ j h. omega (arith, is, h)) (neighbours cur k) (turned.lower k))
    rises k false = turned.rising k

    wider : (k : ℕ) → All (λ (j : ℕ). j < i + 1) (neighbours cur k)
    wider k = All-weaker (λ (j : ℕ). j < i) (λ (j : ℕ). j < i + 1) (λ j h. omega (arith, h)) (neighbours cur k) (turned.lower k)

    stays : (k : ℕ) (b : Bool) → All (λ (j : ℕ). j < i + 1) (cond b (neighbours cur k ++ node ∷ []) (neighbours cur k))
    stays k true = All-push (λ (j : ℕ). j < i + 1) (neighbours cur k) node (wider k) (omega (arith, is))
    stays k false = wider k

    less_more : (a : ℕ) → nat_eq i a ≡ false → nat_lt a i ≡ nat_lt a (i + 1)
    less_more a e = grind arith

    less_here : (a : ℕ) → nat_eq i a ≡ true → nat_lt a (i + 1) ≡ true
    less_here a e = grind arith

    not_less : (a : ℕ) → nat_eq i a ≡ true → nat_lt a i ≡ false
    not_less a e = grind arith

    node_is : (a : ℕ) → nat_eq node a ≡ nat_eq i a
    node_is a = ap (λ (n : ℕ). nat_eq n a) is

    both : (a b : ℕ) (t : Bool) → has_node b (neighbours old i) ≡ t → (u : Bool) → nat_eq i a ≡ u → has_node a (cond t (neighbours cur b ++ node ∷ []) (neighbours cur b)) ≡ (nat_lt a (i + 1) && has_node b (neighbours old a))
    both a b true h true e =
        has_push (neighbours cur b) node a ∙ ap (λ (x : Bool). has_node a (neighbours cur b) || x) (node_is a ∙ e) ∙ or-true (has_node a (neighbours cur b))
        ∙ sym (ap (λ (x : Bool). x && has_node b (neighbours old a)) (less_here a e) ∙ subst (λ (n : ℕ). has_node b (neighbours old n) ≡ true) (eqb-true i a e) h)
    both a b false h true e =
        turned.same a b ∙ ap (λ (x : Bool). x && has_node b (neighbours old a)) (not_less a e)
        ∙ sym (ap (λ (x : Bool). x && has_node b (neighbours old a)) (less_here a e) ∙ subst (λ (n : ℕ). has_node b (neighbours old n) ≡ false) (eqb-true i a e) h)
    both a b true h false e =
        has_push (neighbours cur b) node a ∙ ap (λ (x : Bool). has_node a (neighbours cur b) || x) (node_is a ∙ e) ∙ or-false (has_node a (neighbours cur b))
        ∙ turned.same a b ∙ ap (λ (x : Bool). x && has_node b (neighbours old a)) (less_more a e)
    both a b false h false e = turned.same a b ∙ ap (λ (x : Bool). x && has_node b (neighbours old a)) (less_more a e)

-- after all of them
pub turned_all : (old new : List (List ℕ)) (i : ℕ) → length old ≤ i → i ≤ length old → length new ≡ length old → Turned old new i → IsTransposed old new
turned_all old new i past within long turned = record {
  long = long;
  rising = turned.rising;
  in_range = λ k. All-weaker (λ (j : ℕ). j < i) (λ (j : ℕ). j < length old) (λ j h. omega (arith, h)) (neighbours new k) (turned.lower k);
  same = λ a b. turned.same a b ∙ by a b (nat_lt a i) refl;
}
  where
    beyond : (a : ℕ) → nat_lt a i ≡ false → length old ≤ a
    beyond a h = let k : i ≤ a = grind arith in omega arith

    by : (a b : ℕ) (t : Bool) → nat_lt a i ≡ t → (nat_lt a i && has_node b (neighbours old a)) ≡ has_node b (neighbours old a)
    by a b true h = ap (λ (x : Bool). x && has_node b (neighbours old a)) h
    by a b false h = ap (λ (x : Bool). x && has_node b (neighbours old a)) h ∙ sym (ap (has_node b) (neighbours_past old a (beyond a h)))
