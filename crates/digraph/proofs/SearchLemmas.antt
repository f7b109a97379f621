-- A breadth-first search, one edge further.
use Rattle.std.proofs.Common.{◌≡◌, ℕ, zero, suc, ◌+◌, ◌<◌, ◌≤◌, Bool, true, false, cond, not, ◌||◌, ◌&&◌, List, [], ◌∷◌, ◌++◌, length, get_or, refl, sym, ap, ◌∙◌, nat_eq, nat_lt, arith}
use Rattle.std.specs.Prelude.{slice_set, Option, Some, None, is_some, replicate}
use Rattle.std.specs.List.{All}
use Rattle.std.proofs.lemmas.Grind.{common_steps}
use Rattle.std.proofs.lemmas.List.{length-append, get_or_past}
use Rattle.std.proofs.lemmas.List.Folds.{list_any-append, list_any_at}
use Rattle.std.proofs.Math.Bool.{or-false, or-true, and-false}
use Rattle.std.proofs.lemmas.Bool.{eq-eqb, eqb-true, ne_eqb}
use Rattle.digraph.proofs.AdjacencyLemmas.{has_push}
use Rattle.digraph.specs.code.Adjacency.{comes}
use Rattle.digraph.specs.Adjacency.{has_node, neighbours}
use Rattle.digraph.specs.code.Distances.{distance_at}
use Rattle.digraph.specs.code.Search.{IsDistanceTable, IsMarked, IsSpread, later, reached, unknown}

distance_set : (table : List (Option ℕ)) (c p d : ℕ) → c < length table → distance_at (slice_set table c (Some d)) p ≡ cond (nat_eq c p) (Some d) (distance_at table p)
distance_set table c p d h = grind (arith, common_steps)

unknown_set : (table : List (Option ℕ)) (c d : ℕ) → c < length table → distance_at table c ≡ None → unknown (slice_set table c (Some d)) + 1 ≡ unknown table
unknown_set [] c d h none = absurd (omega arith)
unknown_set (o ∷ os) zero d h none = let e : cond {A = ℕ} (is_some o) 0 1 ≡ 1 = ap (λ (x : Option ℕ). cond {A = ℕ} (is_some x) 0 1) none in omega (arith, e)
unknown_set (o ∷ os) (suc c) d h none = let rest : unknown (slice_set os c (Some d)) + 1 ≡ unknown os = unknown_set os c d (omega arith) none in omega (arith, rest)

pub unknown_all : (n : ℕ) → unknown (replicate n None) ≡ n
unknown_all zero = refl
unknown_all (suc n) = let rest : unknown (replicate n None) ≡ n = unknown_all n in omega (arith, rest)

pub distance_none : (n p : ℕ) → distance_at (replicate n None) p ≡ None
distance_none zero p = refl
distance_none (suc n) zero = refl
distance_none (suc n) (suc p) = distance_none n p

later_false : (o : Option ℕ) (d : ℕ) → later o false d ≡ o
later_false None d = refl
later_false (Some x) d = refl

pub marked_none : (table : List (Option ℕ)) (next : List ℕ) (d : ℕ) → IsMarked table table next next [] d
marked_none table next d = record {
  says = λ p. sym (later_false (distance_at table p) d);
  found = λ p. sym (ap (λ (b : Bool). has_node p next || b) (and-false (not (is_some (distance_at table p)))) ∙ or-false (has_node p next));
  kept = refl;
}

-- a node of which nothing was said, and still isn't
unsaid : (o : Option ℕ) (h : Bool) (d : ℕ) → later o h d ≡ None → (o ≡ None) × (h ≡ false)
unsaid None true d e = absurd cc
unsaid None false d e = (refl, refl)
unsaid (Some x) h d e = absurd cc

-- a node of which something was said, or that was found
said_now : (o : Option ℕ) (h : Bool) (d x : ℕ) → later o h d ≡ Some x → (later o true d ≡ later o h d) × ((not (is_some o) && true) ≡ (not (is_some o) && h))
said_now None true d x e = (refl, refl)
said_now None false d x e = absurd cc
said_now (Some y) h d x e = (refl, refl)

-- one node more, of which something is said
pub mark_skip : (old cur : List (Option ℕ)) (next longer before : List ℕ) (d x : ℕ) (c : ℕ) → IsMarked old cur next longer before d → distance_at cur c ≡ Some x → IsMarked old cur next longer (before ++ c ∷ []) d
mark_skip old cur next longer before d x c marked known = record {
  says = λ p. marked.says p ∙ (by p (nat_eq c p) refl).0 ∙ ap (λ (b : Bool). later (distance_at old p) b d) (sym (has_push before c p));
  found = λ p. marked.found p ∙ ap (λ (b : Bool). has_node p next || b) ((by p (nat_eq c p) refl).1 ∙ ap (λ (b : Bool). not (is_some (distance_at old p)) && b) (sym (has_push before c p)));
  kept = marked.kept;
}
  where
    by : (p : ℕ) (t : Bool) → nat_eq c p ≡ t → (later (distance_at old p) (has_node p before) d ≡ later (distance_at old p) (has_node p before || nat_eq c p) d) × ((not (is_some (distance_at old p)) && has_node p before) ≡ (not (is_some (distance_at old p)) && (has_node p before || nat_eq c p)))
    by p true e =
        let here = said_now (distance_at old p) (has_node p before) d x (sym (marked.says p) ∙ ap (distance_at cur) (sym (eqb-true c p e)) ∙ known) in
        let yes : true ≡ (has_node p before || nat_eq c p) = sym (ap (λ (b : Bool). has_node p before || b) e ∙ or-true (has_node p before)) in
        (sym here.0 ∙ ap (λ (b : Bool). later (distance_at old p) b d) yes, sym here.1 ∙ ap (λ (b : Bool). not (is_some (distance_at old p)) && b) yes)
    by p false e =
        let same : has_node p before ≡ (has_node p before || nat_eq c p) = sym (ap (λ (b : Bool). has_node p before || b) e ∙ or-false (has_node p before)) in
        (ap (λ (b : Bool). later (distance_at old p) b d) same, ap (λ (b : Bool). not (is_some (distance_at old p)) && b) same)

-- one node more, of which nothing was said
pub mark_more : (old cur : List (Option ℕ)) (next longer before : List ℕ) (d : ℕ) (c : ℕ) → IsMarked old cur next longer before d → c < length cur → distance_at cur c ≡ None → IsMarked old (slice_set cur c (Some d)) next (longer ++ c ∷ []) (before ++ c ∷ []) d
mark_more old cur next longer before d c marked h none = record {
  says = λ p. distance_set cur c p d h ∙ (by p (nat_eq c p) refl).0 ∙ ap (λ (b : Bool). later (distance_at old p) b d) (sym (has_push before c p));
  found = λ p. has_push longer c p ∙ ap (λ (b : Bool). b || nat_eq c p) (marked.found p) ∙ (by p (nat_eq c p) refl).1 ∙ ap (λ (b : Bool). has_node p next || (not (is_some (distance_at old p)) && b)) (sym (has_push before c p));
  kept = omega (arith, marked.kept, unknown_set cur c d h none, length-append longer (c ∷ []));
}
  where
    by : (p : ℕ) (t : Bool) → nat_eq c p ≡ t → (cond (nat_eq c p) (Some d) (distance_at cur p) ≡ later (distance_at old p) (has_node p before || nat_eq c p) d)
        × (((has_node p next || (not (is_some (distance_at old p)) && has_node p before)) || nat_eq c p) ≡ (has_node p next || (not (is_some (distance_at old p)) && (has_node p before || nat_eq c p))))
    by p true e =
        let here = unsaid (distance_at old p) (has_node p before) d (sym (marked.says p) ∙ ap (distance_at cur) (sym (eqb-true c p e)) ∙ none) in
        let yes : (has_node p before || nat_eq c p) ≡ true = ap (λ (b : Bool). has_node p before || b) e ∙ or-true (has_node p before) in (
          ap (λ (b : Bool). cond b (Some d) (distance_at cur p)) e ∙ sym (ap (λ (b : Bool). later (distance_at old p) b d) yes ∙ ap (λ (o : Option ℕ). later o true d) here.0),
          ap (λ (b : Bool). (has_node p next || (not (is_some (distance_at old p)) && has_node p before)) || b) e ∙ or-true (has_node p next || (not (is_some (distance_at old p)) && has_node p before))
              ∙ sym (ap (λ (b : Bool). has_node p next || (not (is_some (distance_at old p)) && b)) yes ∙ ap (λ (o : Option ℕ). has_node p next || (not (is_some o) && true)) here.0 ∙ or-true (has_node p next)),
        )
    by p false e =
        let same : (has_node p before || nat_eq c p) ≡ has_node p before = ap (λ (b : Bool). has_node p before || b) e ∙ or-false (has_node p before) in (
          ap (λ (b : Bool). cond b (Some d) (distance_at cur p)) e ∙ marked.says p ∙ sym (ap (λ (b : Bool). later (distance_at old p) b d) same),
          ap (λ (b : Bool). (has_node p next || (not (is_some (distance_at old p)) && has_node p before)) || b) e ∙ or-false (has_node p next || (not (is_some (distance_at old p)) && has_node p before))
              ∙ sym (ap (λ (b : Bool). has_node p next || (not (is_some (distance_at old p)) && b)) same),
        )

pub spread_none : (predecessors : List (List ℕ)) (table : List (Option ℕ)) (d : ℕ) → IsSpread predecessors table table [] [] d
spread_none predecessors table d = record {
  says = λ p. sym (later_false (distance_at table p) d);
  found = λ p. sym (and-false (not (is_some (distance_at table p))));
  kept = omega arith;
}

reached_push : (predecessors : List (List ℕ)) (js : List ℕ) (j : ℕ) (p : ℕ) → reached predecessors (js ++ j ∷ []) p ≡ (reached predecessors js p || has_node p (neighbours predecessors j))
reached_push predecessors js j p = list_any-append (λ (k : ℕ). has_node p (neighbours predecessors k)) js (j ∷ []) ∙ ap (λ (b : Bool). reached predecessors js p || b) (or-false (has_node p (neighbours predecessors j)))

later_twice : (o : Option ℕ) (r h : Bool) (d : ℕ) → later (later o r d) h d ≡ later o (r || h) d
later_twice None true h d = refl
later_twice None false h d = refl
later_twice (Some x) r h d = refl

found_twice : (o : Option ℕ) (r h : Bool) (d : ℕ) → ((not (is_some o) && r) || (not (is_some (later o r d)) && h)) ≡ (not (is_some o) && (r || h))
found_twice None true h d = refl
found_twice None false h d = refl
found_twice (Some x) r h d = refl

-- the predecessors of one node more
pub spread_more : (predecessors : List (List ℕ)) (old cur new : List (Option ℕ)) (before next longer : List ℕ) (j : ℕ) (d : ℕ) → IsSpread predecessors old cur before next d → IsMarked cur new next longer (neighbours predecessors j) d → IsSpread predecessors old new (before ++ j ∷ []) longer d
spread_more predecessors old cur new before next longer j d spread marked = record {
  says = λ p. marked.says p ∙ ap (λ (o : Option ℕ). later o (has_node p (neighbours predecessors j)) d) (spread.says p) ∙ later_twice (distance_at old p) (reached predecessors before p) (has_node p (neighbours predecessors j)) d ∙ ap (λ (b : Bool). later (distance_at old p) b d) (sym (reached_push predecessors before j p));
  found = λ p. marked.found p ∙ ap (λ (b : Bool). b || (not (is_some (distance_at cur p)) && has_node p (neighbours predecessors j))) (spread.found p) ∙ ap (λ (o : Option ℕ). (not (is_some (distance_at old p)) && reached predecessors before p) || (not (is_some o) && has_node p (neighbours predecessors j))) (spread.says p)
      ∙ found_twice (distance_at old p) (reached predecessors before p) (has_node p (neighbours predecessors j)) d ∙ ap (λ (b : Bool). not (is_some (distance_at old p)) && b) (sym (reached_push predecessors before j p));
  kept = omega (arith, marked.kept, spread.kept);
}

-- a distance is this one
pub is_at : ℕ → Option ℕ → Bool
is_at k None = false
is_at k (Some d) = nat_eq d k

-- up to k edges are looked at
pub record Searched (predecessors : List (List ℕ)) (s k : ℕ) (frontier : List ℕ) (table : List (Option ℕ)) : Type 0 where
  pub long : length table ≡ length predecessors
  pub start : distance_at table s ≡ Some 0
  pub only : (c : ℕ) → distance_at table c ≡ Some 0 → c ≡ s
  pub down : (c d : ℕ) → distance_at table c ≡ Some (suc d) → (b : ℕ) × (comes predecessors c b ≡ true) × (distance_at table b ≡ Some d)
  pub near : (c b d : ℕ) → comes predecessors c b ≡ true → distance_at table b ≡ Some d → d < k → (x : ℕ) × (distance_at table c ≡ Some x) × (x ≤ suc d)
  pub most : (c d : ℕ) → distance_at table c ≡ Some d → d ≤ k
  pub last : (c : ℕ) → has_node c frontier ≡ is_at k (distance_at table c)
  pub small : k + unknown table + length frontier ≤ length predecessors

pub searched_first : (predecessors : List (List ℕ)) (s : ℕ) (old table : List (Option ℕ)) (frontier : List ℕ) → old ≡ replicate (length predecessors) None → s < length predecessors → length table ≡ length old → IsMarked old table [] frontier (s ∷ []) 0 → Searched predecessors s 0 frontier table
unfolding is_at
searched_first predecessors s old table frontier is h long marked = record {
  long = long ∙ ap length is ∙ grind (arith, common_steps);
  start = here s ∙ ap (λ (b : Bool). cond {A = Option ℕ} b (Some 0) None) (or-false (nat_eq s s) ∙ eq-eqb s s refl);
  only = λ c e. only_by c (nat_eq s c) refl (sym (here c) ∙ e);
  down = λ c d e. absurd (down_by c d (has_node c (s ∷ [])) (sym (here c) ∙ e));
  near = λ c b d e f l. absurd (omega arith);
  most = λ c d e. most_by c d (has_node c (s ∷ [])) (sym (here c) ∙ e);
  last = λ c. marked.found c ∙ ap (λ (o : Option ℕ). not (is_some o) && has_node c (s ∷ [])) (was c) ∙ last_by (has_node c (s ∷ [])) ∙ sym (ap (is_at 0) (here c));
  small = let u : unknown old ≡ length predecessors = ap unknown is ∙ unknown_all (length predecessors) in omega (arith, marked.kept, u);
}
  where
    was : (c : ℕ) → distance_at old c ≡ None
    was c = ap (λ (x : List (Option ℕ)). distance_at x c) is ∙ distance_none (length predecessors) c

    here : (c : ℕ) → distance_at table c ≡ cond {A = Option ℕ} (has_node c (s ∷ [])) (Some 0) None
    here c = marked.says c ∙ ap (λ (o : Option ℕ). later o (has_node c (s ∷ [])) 0) (was c)

    only_by : (c : ℕ) (t : Bool) → nat_eq s c ≡ t → cond {A = Option ℕ} (t || false) (Some 0) None ≡ Some 0 → c ≡ s
    only_by c true f e = sym (eqb-true s c f)
    only_by c false f e = absurd cc

    down_by : (c d : ℕ) (t : Bool) → cond {A = Option ℕ} t (Some 0) None ≡ Some (suc d) → ⊥
    down_by c d true e = let f : 0 ≡ suc d = cc in omega (arith, f)
    down_by c d false e = cc

    most_by : (c d : ℕ) (t : Bool) → cond {A = Option ℕ} t (Some 0) None ≡ Some d → d ≤ 0
    most_by c d true e = let f : 0 ≡ d = cc in omega (arith, f)
    most_by c d false e = absurd cc

    last_by : (t : Bool) → t ≡ is_at 0 (cond {A = Option ℕ} t (Some 0) None)
    last_by true = refl
    last_by false = refl

pub kept_distance : (old new : List (Option ℕ)) (r : ℕ → Bool) (d : ℕ) → ((p : ℕ) → distance_at new p ≡ later (distance_at old p) (r p) d) → (c x : ℕ) → distance_at old c ≡ Some x → distance_at new c ≡ Some x
kept_distance old new r d says c x e = says c ∙ ap (λ (o : Option ℕ). later o (r c) d) e

is_at_some : (k : ℕ) (o : Option ℕ) → is_at k o ≡ true → o ≡ Some k
unfolding is_at
is_at_some k None e = absurd cc
is_at_some k (Some d) e = ap Some (eqb-true d k e)

reached_from : (predecessors : List (List ℕ)) (js : List ℕ) (p : ℕ) → reached predecessors js p ≡ true → (j : ℕ) × (has_node j js ≡ true) × (has_node p (neighbours predecessors j) ≡ true)
reached_from predecessors [] p h = absurd cc
reached_from predecessors (j ∷ js) p h = by (has_node p (neighbours predecessors j)) refl h (λ e. reached_from predecessors js p e)
  where
    by : (t : Bool) → has_node p (neighbours predecessors j) ≡ t → (t || reached predecessors js p) ≡ true → (reached predecessors js p ≡ true → (j : ℕ) × (has_node j js ≡ true) × (has_node p (neighbours predecessors j) ≡ true)) → (i : ℕ) × (has_node i (j ∷ js) ≡ true) × (has_node p (neighbours predecessors i) ≡ true)
    by true e f rest = (j, ap (λ (b : Bool). b || has_node j js) (eq-eqb j j refl), e)
    by false e f rest = let found = rest f in (found.0, ap (λ (b : Bool). nat_eq j found.0 || b) found.1 ∙ or-true (nat_eq j found.0), found.2)

pub reached_at : (predecessors : List (List ℕ)) (js : List ℕ) (p j : ℕ) → has_node j js ≡ true → has_node p (neighbours predecessors j) ≡ true → reached predecessors js p ≡ true
reached_at predecessors [] p j h e = absurd cc
reached_at predecessors (i ∷ js) p j h e = by (nat_eq i j) refl h (λ f. reached_at predecessors js p j f e)
  where
    by : (t : Bool) → nat_eq i j ≡ t → (t || has_node j js) ≡ true → (has_node j js ≡ true → reached predecessors js p ≡ true) → reached predecessors (i ∷ js) p ≡ true
    by true f g rest = ap (λ (b : Bool). b || reached predecessors js p) (ap (λ (n : ℕ). has_node p (neighbours predecessors n)) (eqb-true i j f) ∙ e)
    by false f g rest = ap (λ (b : Bool). has_node p (neighbours predecessors i) || b) (rest g) ∙ or-true (has_node p (neighbours predecessors i))

-- one edge further
pub searched_more : (predecessors : List (List ℕ)) (s k : ℕ) (frontier next : List ℕ) (table new : List (Option ℕ)) → Searched predecessors s k frontier table → length new ≡ length table → 0 < length frontier → IsSpread predecessors table new frontier next (k + 1) → Searched predecessors s (k + 1) next new
unfolding is_at
searched_more predecessors s k frontier next table new searched long some spread = record {
  long = long ∙ searched.long;
  start = kept s 0 searched.start;
  only = λ c e. only_by c (distance_at table c) refl (reached predecessors frontier c) (sym (spread.says c) ∙ e);
  down = λ c d e. down_by c d (distance_at table c) refl (reached predecessors frontier c) refl (sym (spread.says c) ∙ e);
  near = λ c b d edge e l. near_by c b d edge (distance_at table b) refl (reached predecessors frontier b) (sym (spread.says b) ∙ e) l;
  most = λ c d e. most_by c d (distance_at table c) refl (reached predecessors frontier c) (sym (spread.says c) ∙ e);
  last = λ c. spread.found c ∙ last_by c (distance_at table c) refl (reached predecessors frontier c) ∙ sym (ap (is_at (k + 1)) (spread.says c));
  small = omega (arith, searched.small, spread.kept, some);
}
  where
    kept : (c x : ℕ) → distance_at table c ≡ Some x → distance_at new c ≡ Some x
    kept = kept_distance table new (reached predecessors frontier) (k + 1) spread.says

    only_by : (c : ℕ) (o : Option ℕ) → distance_at table c ≡ o → (r : Bool) → later o r (k + 1) ≡ Some 0 → c ≡ s
    only_by c (Some x) h r e = searched.only c (h ∙ e)
    only_by c None h true e = absurd (let f : k + 1 ≡ 0 = cc in omega (arith, f))
    only_by c None h false e = absurd cc

    down_by : (c d : ℕ) (o : Option ℕ) → distance_at table c ≡ o → (r : Bool) → reached predecessors frontier c ≡ r → later o r (k + 1) ≡ Some (suc d) → (b : ℕ) × (comes predecessors c b ≡ true) × (distance_at new b ≡ Some d)
    down_by c d (Some x) h r g e = let found = searched.down c d (h ∙ e) in (found.0, found.1, kept found.0 d found.2)
    down_by c d None h true g e =
        let same : k + 1 ≡ suc d = cc in
        let found = reached_from predecessors frontier c g in
        let at : distance_at table found.0 ≡ Some k = is_at_some k (distance_at table found.0) (sym (searched.last found.0) ∙ found.1) in
        (found.0, found.2, kept found.0 d (at ∙ ap Some (omega (arith, same))))
    down_by c d None h false g e = absurd cc

    further : (c d : ℕ) → reached predecessors frontier c ≡ true → d ≡ k → (o : Option ℕ) → distance_at table c ≡ o → (x : ℕ) × (distance_at new c ≡ Some x) × (x ≤ suc d)
    further c d r same (Some y) h = (y, kept c y h, omega (arith, searched.most c y h, same))
    further c d r same None h = (k + 1, spread.says c ∙ ap (λ (o : Option ℕ). later o (reached predecessors frontier c) (k + 1)) h ∙ ap (λ (b : Bool). later None b (k + 1)) r, omega (arith, same))

    near_by : (c b d : ℕ) → comes predecessors c b ≡ true → (o : Option ℕ) → distance_at table b ≡ o → (r : Bool) → later o r (k + 1) ≡ Some d → d < k + 1 → (x : ℕ) × (distance_at new c ≡ Some x) × (x ≤ suc d)
    near_by c b d edge (Some x) h r e l = split (nat_lt d k) refl
      where
        at : distance_at table b ≡ Some d
        at = h ∙ e

        split : (t : Bool) → nat_lt d k ≡ t → (x : ℕ) × (distance_at new c ≡ Some x) × (x ≤ suc d)
        split true f = let low : d < k = grind arith in let found = searched.near c b d edge at low in (found.0, kept c found.0 found.1, found.2)
        split false f =
            let high : k ≤ d = grind arith in
            let same : d ≡ k = omega (arith, high, l) in
            let there : has_node b frontier ≡ true = searched.last b ∙ ap (is_at k) at ∙ ap (λ (n : ℕ). nat_eq n k) same ∙ eq-eqb k k refl in
            further c d (reached_at predecessors frontier c b there edge) same (distance_at table c) refl
    near_by c b d edge None h true e l = absurd (let f : k + 1 ≡ d = cc in omega (arith, f, l))
    near_by c b d edge None h false e l = absurd cc

    most_by : (c d : ℕ) (o : Option ℕ) → distance_at table c ≡ o → (r : Bool) → later o r (k + 1) ≡ Some d → d ≤ k + 1
    most_by c d (Some x) h r e = let low : d ≤ k = searched.most c d (h ∙ e) in omega (arith, low)
    most_by c d None h true e = let f : k + 1 ≡ d = cc in omega (arith, f)
    most_by c d None h false e = absurd cc

    last_by : (c : ℕ) (o : Option ℕ) → distance_at table c ≡ o → (r : Bool) → (not (is_some o) && r) ≡ is_at (k + 1) (later o r (k + 1))
    last_by c (Some x) h r = sym (ne_eqb x (k + 1) (λ e. let low : x ≤ k = searched.most c x h in omega (arith, low, e)))
    last_by c None h true = sym (eq-eqb (k + 1) (k + 1) refl)
    last_by c None h false = refl

-- when no node was found last
pub searched_all : (predecessors : List (List ℕ)) (s k : ℕ) (frontier : List ℕ) (table : List (Option ℕ)) → Searched predecessors s k frontier table → frontier ≡ [] → IsDistanceTable (comes predecessors) s table
unfolding is_at
searched_all predecessors s k frontier table searched none = record {
  start = searched.start;
  only = searched.only;
  down = searched.down;
  near = λ c b d edge e. by c b d edge e (nat_lt d k) refl;
}
  where
    by : (c b d : ℕ) → comes predecessors c b ≡ true → distance_at table b ≡ Some d → (t : Bool) → nat_lt d k ≡ t → (x : ℕ) × (distance_at table c ≡ Some x) × (x ≤ suc d)
    by c b d edge e true f = searched.near c b d edge e (grind arith)
    by c b d edge e false f =
        let high : k ≤ d = grind arith in
        let same : d ≡ k = omega (arith, high, searched.most b d e) in
        let there : has_node b frontier ≡ true = searched.last b ∙ ap (is_at k) e ∙ ap (λ (n : ℕ). nat_eq n k) same ∙ eq-eqb k k refl in
        absurd (let no : has_node b frontier ≡ false = ap (has_node b) none in cc)

pub distance_in : (table : List (Option ℕ)) (c x : ℕ) → distance_at table c ≡ Some x → c < length table
distance_in table c x e = by (nat_lt c (length table)) refl
  where
    by : (t : Bool) → nat_lt c (length table) ≡ t → c < length table
    by true h = grind arith
    by false h = absurd (let past : length table ≤ c = grind arith in let none : distance_at table c ≡ None = get_or_past table c None past in cc)

pub stands_at : (js : List ℕ) (i : ℕ) (d : ℕ) → i < length js → has_node (get_or js i d) js ≡ true
stands_at js i d h = list_any_at (λ (j : ℕ). nat_eq j (get_or js i d)) js i d h (eq-eqb (get_or js i d) (get_or js i d) refl)

pub frontier_in : (predecessors : List (List ℕ)) (s k : ℕ) (frontier : List ℕ) (table : List (Option ℕ)) → Searched predecessors s k frontier table → All (λ (j : ℕ). j < length predecessors) frontier
frontier_in predecessors s k frontier table searched i d h =
    let at : distance_at table (get_or frontier i d) ≡ Some k = is_at_some k (distance_at table (get_or frontier i d)) (sym (searched.last (get_or frontier i d)) ∙ stands_at frontier i d h) in
    let low : (get_or frontier i d) < length table = distance_in table (get_or frontier i d) k at in
    omega (arith, low, searched.long)
