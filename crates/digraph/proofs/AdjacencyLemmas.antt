-- Adjacency lists, one step further.
use Rattle.std.proofs.Common.{◌≡◌, ℕ, ◌+◌, ◌<◌, ◌≤◌, Bool, true, false, cond, ◌||◌, ◌&&◌, List, [], ◌∷◌, ◌++◌, length, get_or, refl, sym, ap, subst, ◌∙◌, nat_eq, arith}
use Rattle.std.specs.Prelude.{slice_set, Vec}
use Rattle.std.specs.List.{All, list_any}
use Rattle.std.specs.declared.alloc.Global.{Global}
use Rattle.std.proofs.lemmas.Grind.{common_steps}
use Rattle.std.proofs.lemmas.List.{length-map, map-set}
use Rattle.std.proofs.lemmas.List.Folds.{list_any-append}
use Rattle.std.proofs.lemmas.List.Elements.{All-head, All-tail, All-push}
use Rattle.std.proofs.Math.Bool.{or-false, and-true, and-false}
use Rattle.std.proofs.lemmas.Bool.{eqb-true, ne_eqb}
use Rattle.std.proofs.Math.Path.{fun_ext}
use Rattle.digraph.specs.code.Adjacency.{AreLinked, IsTransposed, comes, leads, lists_of}
use Rattle.digraph.specs.Adjacency.{IsRising, has_node, neighbours, times}

set_read : (xs : List (List ℕ)) (i k : ℕ) (y : List ℕ) → i < length xs → neighbours (slice_set xs i y) k ≡ cond (nat_eq i k) y (neighbours xs k)
set_read xs i k y h = grind (arith, common_steps)

-- one list is another one
pub neighbours_set : (vs : List (Vec ℕ Global)) (i k : ℕ) (v : Vec ℕ Global) → i < length vs → neighbours (lists_of (slice_set vs i v)) k ≡ cond (nat_eq i k) v.items (neighbours (lists_of vs) k)
neighbours_set vs i k v h =
    ap (λ (x : List (List ℕ)). neighbours x k) (map-set (λ (v : Vec ℕ Global). v.items) vs i v)
    ∙ set_read (lists_of vs) i k v.items (omega (arith, length-map vs (λ (v : Vec ℕ Global). v.items)))

pub neighbours_at : (vs : List (Vec ℕ Global)) (i : ℕ) (v : Vec ℕ Global) → i < length vs → v ≡ get_or vs i v → neighbours (lists_of vs) i ≡ v.items
neighbours_at vs i v h is = grind (arith, common_steps)

-- a place of a list whose numbers are in range
pub within : (ps : List ℕ) (i : ℕ) (d : ℕ) (n m : ℕ) → m ≡ n → i < length ps → All (λ (p : ℕ). p < n) ps → (get_or ps i d) < m
within ps i d n m e h all = let k : (get_or ps i d) < n = all i d h in omega arith

pub length_lists_of : (vs : List (Vec ℕ Global)) → length (lists_of vs) ≡ length vs
length_lists_of vs = length-map vs (λ (v : Vec ℕ Global). v.items)

pub neighbours_past : (ls : List (List ℕ)) (k : ℕ) → length ls ≤ k → neighbours ls k ≡ []
neighbours_past ls k h = grind (arith, common_steps)

pub has_push : (js : List ℕ) (j : ℕ) (k : ℕ) → has_node k (js ++ j ∷ []) ≡ (has_node k js || nat_eq j k)
has_push js j k = list_any-append (λ (i : ℕ). nat_eq i k) js (j ∷ []) ∙ ap (λ (b : Bool). has_node k js || b) (or-false (nat_eq j k))

-- a rising list has each number at most once
pub times_none : (js : List ℕ) (a : ℕ) → All (λ (k : ℕ). a < k) js → (times a js ≡ 0) × (has_node a js ≡ false)
times_none [] a up = (refl, refl)
times_none (j ∷ js) a up =
    let h : a < j = All-head (λ (k : ℕ). a < k) j js up in
    let e : nat_eq j a ≡ false = ne_eqb j a (λ s. omega arith) in
    let rest = times_none js a (All-tail (λ (k : ℕ). a < k) j js up) in
    let step : 0 + times a js ≡ 0 = omega (arith, rest.0) in (
      ap (λ (b : Bool). cond b 1 0 + times a js) e ∙ step,
      ap (λ (b : Bool). b || has_node a js) e ∙ rest.1,
    )

pub times_rising : (js : List ℕ) (a : ℕ) → IsRising js → times a js ≡ cond (has_node a js) 1 0
times_rising [] a up = refl
times_rising (j ∷ js) a up = by (nat_eq j a) refl (times_rising js a up.1)
  where
    by : (b : Bool) → nat_eq j a ≡ b → times a js ≡ cond (has_node a js) 1 0 → times a (j ∷ js) ≡ cond (has_node a (j ∷ js)) 1 0
    by true e later =
        let none = times_none js a (subst (λ (n : ℕ). All (λ (k : ℕ). n < k) js) (eqb-true j a e) up.0) in
        let step : 1 + times a js ≡ 1 = omega (arith, none.0) in
        ap (λ (b : Bool). cond b 1 0 + times a js) e ∙ step ∙ sym (ap (λ (b : Bool). cond (b || has_node a js) 1 0) e)
    by false e later =
        let step : 0 + times a js ≡ times a js = omega arith in
        ap (λ (b : Bool). cond b 1 0 + times a js) e ∙ step ∙ later ∙ sym (ap (λ (b : Bool). cond (b || has_node a js) 1 0) e)

-- a node was pushed to one list
pub pushed_at : (vs : List (Vec ℕ Global)) (i k : ℕ) (v w : Vec ℕ Global) (node : ℕ) → i < length vs → v ≡ get_or vs i v → w.items ≡ v.items ++ node ∷ [] → neighbours (lists_of (slice_set vs i w)) k ≡ cond (nat_eq i k) (neighbours (lists_of vs) k ++ node ∷ []) (neighbours (lists_of vs) k)
pushed_at vs i k v w node h is e = neighbours_set vs i k w h ∙ by (nat_eq i k) refl
  where
    by : (b : Bool) → nat_eq i k ≡ b → cond b w.items (neighbours (lists_of vs) k) ≡ cond b (neighbours (lists_of vs) k ++ node ∷ []) (neighbours (lists_of vs) k)
    by true t = e ∙ ap (λ (x : List ℕ). x ++ node ∷ []) (sym (neighbours_at vs i v h is) ∙ ap (neighbours (lists_of vs)) (eqb-true i k t))
    by false t = refl

-- the lists with the first node of each of some pairs added
pub record Paired (old new : List (List ℕ)) (n : ℕ) (pairs : List (ℕ × ℕ)) : Type 0 where
  pub below : (k : ℕ) → All (λ (j : ℕ). j < n) (neighbours new k)
  pub same : (a b : ℕ) → has_node a (neighbours new b) ≡ (has_node a (neighbours old b) || list_any (λ (p : ℕ × ℕ). nat_eq p.0 a && nat_eq p.1 b) pairs)

pub paired_none : (old : List (List ℕ)) (n : ℕ) → ((k : ℕ) → All (λ (j : ℕ). j < n) (neighbours old k)) → Paired old old n []
paired_none old n low = record { below = low; same = λ a b. sym (or-false (has_node a (neighbours old b))) }

pub paired_more : (old cur new : List (List ℕ)) (n : ℕ) (pairs : List (ℕ × ℕ)) (p : ℕ × ℕ) → p.0 < n → Paired old cur n pairs
    → ((k : ℕ) → neighbours new k ≡ cond (nat_eq p.1 k) (neighbours cur k ++ p.0 ∷ []) (neighbours cur k)) → Paired old new n (pairs ++ p ∷ [])
paired_more old cur new n pairs p h paired added = record {
  below = λ k. subst (λ (x : List ℕ). All (λ (j : ℕ). j < n) x) (sym (added k)) (low k (nat_eq p.1 k));
  same = λ a b.
      ap (has_node a) (added b) ∙ here a b (nat_eq p.1 b) ∙ ap (λ (x : Bool). x || (nat_eq p.0 a && nat_eq p.1 b)) (paired.same a b)
      ∙ regroup (has_node a (neighbours old b)) (list_any (test a b) pairs) (nat_eq p.0 a && nat_eq p.1 b)
      ∙ sym (ap (λ (x : Bool). has_node a (neighbours old b) || x) (list_any-append (test a b) pairs (p ∷ [])));
}
  where
    test : ℕ → ℕ → ℕ × ℕ → Bool
    test a b q = nat_eq q.0 a && nat_eq q.1 b

    low : (k : ℕ) (t : Bool) → All (λ (j : ℕ). j < n) (cond t (neighbours cur k ++ p.0 ∷ []) (neighbours cur k))
    low k true = All-push (λ (j : ℕ). j < n) (neighbours cur k) p.0 (paired.below k) h
    low k false = paired.below k

    here : (a b : ℕ) (t : Bool) → has_node a (cond t (neighbours cur b ++ p.0 ∷ []) (neighbours cur b)) ≡ (has_node a (neighbours cur b) || (nat_eq p.0 a && t))
    here a b true = has_push (neighbours cur b) p.0 a ∙ ap (λ (x : Bool). has_node a (neighbours cur b) || x) (sym (and-true (nat_eq p.0 a)))
    here a b false = sym (or-false (has_node a (neighbours cur b))) ∙ ap (λ (x : Bool). has_node a (neighbours cur b) || x) (sym (and-false (nat_eq p.0 a)))

    regroup : (x y z : Bool) → ((x || y) || z) ≡ (x || (y || (z || false)))
    regroup true y z = refl
    regroup false true z = refl
    regroup false false true = refl
    regroup false false false = refl

-- the edges are the same both ways
pub same_edges : (predecessors successors : List (List ℕ)) → AreLinked predecessors successors → comes predecessors ≡ leads successors
same_edges predecessors successors linked = fun_ext (λ a. fun_ext (λ b. linked.same a b))

-- the same edges, looked at from the successors
pub swapped : (predecessors successors : List (List ℕ)) → AreLinked predecessors successors → AreLinked successors predecessors
swapped predecessors successors linked = record {
  long = sym linked.long;
  predecessors_rising = linked.successors_rising;
  successors_rising = linked.predecessors_rising;
  predecessors_in = λ k. subst (λ (n : ℕ). All (λ (j : ℕ). j < n) (neighbours successors k)) (sym linked.long) (linked.successors_in k);
  successors_in = λ k. subst (λ (n : ℕ). All (λ (j : ℕ). j < n) (neighbours predecessors k)) (sym linked.long) (linked.predecessors_in k);
  same = λ a b. sym (linked.same b a);
}

-- the lists both ways
pub linked : (given successors predecessors : List (List ℕ)) → IsTransposed given successors → IsTransposed successors predecessors → AreLinked predecessors successors
linked given successors predecessors first second = record {
  long = sym second.long;
  predecessors_rising = second.rising;
  successors_rising = first.rising;
  predecessors_in = λ k. subst (λ (n : ℕ). All (λ (j : ℕ). j < n) (neighbours predecessors k)) (sym second.long) (second.in_range k);
  successors_in = λ k. subst (λ (n : ℕ). All (λ (j : ℕ). j < n) (neighbours successors k)) (sym (second.long ∙ first.long)) (first.in_range k);
  same = second.same;
}
