-- The nearest of some nodes, one node further.
use Rattle.std.proofs.Common.{◌≡◌, ℕ, zero, suc, ◌<◌, ◌≤◌, Bool, true, false, ◌||◌, List, [], ◌∷◌, ◌++◌, length, take, get_or, refl, sym, ap, ◌∙◌, nat_eq, nat_lt, arith, ◌⊎◌, inl, inr}
use Rattle.std.specs.Prelude.{Option, Some, None, is_some, min}
use Rattle.std.specs.List.{All}
use Rattle.std.specs.Option.{option_eq}
use Rattle.std.proofs.lemmas.List.Elements.{All-head, All-tail}
use Rattle.std.proofs.Math.Bool.{or-true}
use Rattle.std.proofs.lemmas.Bool.{eq-eqb, eqb-true}
use Rattle.digraph.proofs.AdjacencyLemmas.{has_push}
use Rattle.digraph.specs.Adjacency.{IsRising, has_node}
use Rattle.digraph.specs.code.Distances.{distance_at}
use Rattle.digraph.specs.code.Nearest.{IsNearest, lesser}

-- who is in a list with one more
pushed_in : (js : List ℕ) (j : ℕ) (b : ℕ) → has_node b (js ++ j ∷ []) ≡ true → (has_node b js ≡ true) ⊎ (j ≡ b)
pushed_in js j b h = by (has_node b js) refl
  where
    by : (t : Bool) → has_node b js ≡ t → (has_node b js ≡ true) ⊎ (j ≡ b)
    by true e = inl e
    by false e = inr (eqb-true j b (sym (has_push js j b ∙ ap (λ (t : Bool). t || nat_eq j b) e) ∙ h))

still_in : (js : List ℕ) (j : ℕ) (b : ℕ) → has_node b js ≡ true → has_node b (js ++ j ∷ []) ≡ true
still_in js j b h = has_push js j b ∙ ap (λ (t : Bool). t || nat_eq j b) h

last_in : (js : List ℕ) (j : ℕ) → has_node j (js ++ j ∷ []) ≡ true
last_in js j = has_push js j j ∙ ap (λ (t : Bool). has_node j js || t) (eq-eqb j j refl) ∙ or-true (has_node j js)

pub nearest_more : (table : List (Option ℕ)) (js : List ℕ) (j : ℕ) (best o : Option ℕ) → IsNearest table js best → distance_at table j ≡ o → IsNearest table (js ++ j ∷ []) (lesser best o)
nearest_more table js j None None near at = λ b h. elim (pushed_in js j b h) [ inl e ↦ near b e | inr e ↦ ap (distance_at table) (sym e) ∙ at ]
nearest_more table js j None (Some y) near at = (
  (j, last_in js j, at),
  λ b x h e. elim (pushed_in js j b h) [
    | inl f ↦ absurd (let none : distance_at table b ≡ None = near b f in cc)
    | inr f ↦ (let same : Some y ≡ Some x = sym at ∙ ap (distance_at table) f ∙ e in let equal : y ≡ x = cc in omega (arith, equal))
  ],
)
nearest_more table js j (Some d) None near at = (
  (near.0.0, still_in js j near.0.0 near.0.1, near.0.2),
  λ b x h e. elim (pushed_in js j b h) [
    | inl f ↦ near.1 b x f e
    | inr f ↦ absurd (let none : distance_at table b ≡ None = ap (distance_at table) (sym f) ∙ at in cc)
  ],
)
nearest_more table js j (Some d) (Some y) near at = (
  by (nat_lt y d) refl,
  λ b x h e. elim (pushed_in js j b h) [
    | inl f ↦ (let low : d ≤ x = near.1 b x f e in omega (arith, low))
    | inr f ↦ (let same : Some y ≡ Some x = sym at ∙ ap (distance_at table) f ∙ e in let equal : y ≡ x = cc in omega (arith, equal))
  ],
)
  where
    by : (t : Bool) → nat_lt y d ≡ t → (c : ℕ) × (has_node c (js ++ j ∷ []) ≡ true) × (distance_at table c ≡ Some (min d y))
    by true l = let less : y < d = grind arith in (j, last_in js j, at ∙ ap Some (omega (arith, less)))
    by false l = let more : d ≤ y = grind arith in (near.0.0, still_in js j near.0.0 near.0.1, near.0.2 ∙ ap Some (omega (arith, more)))

-- in a rising list the first is the least
pub first_least : (js : List ℕ) (i b : ℕ) (d : ℕ) → IsRising js → i < length js → has_node b js ≡ true → (has_node b (take i js) ≡ true) ⊎ ((get_or js i d) ≤ b)
first_least [] i b d up h there = absurd (omega arith)
first_least (j ∷ js) zero b d up h there = inr (by (nat_eq j b) refl there)
  where
    all_more : (ks : List ℕ) → All (λ (k : ℕ). j < k) ks → has_node b ks ≡ true → j ≤ b
    all_more [] all e = absurd cc
    all_more (k ∷ ks) all e = go (nat_eq k b) refl e (λ f. all_more ks (All-tail (λ (k : ℕ). j < k) k ks all) f)
      where
        go : (t : Bool) → nat_eq k b ≡ t → (t || has_node b ks) ≡ true → (has_node b ks ≡ true → j ≤ b) → j ≤ b
        go true f g rest = let low : j < k = All-head (λ (k : ℕ). j < k) k ks all in let same : k ≡ b = eqb-true k b f in omega (arith, low, same)
        go false f g rest = rest g

    by : (t : Bool) → nat_eq j b ≡ t → (t || has_node b js) ≡ true → j ≤ b
    by true e f = let same : j ≡ b = eqb-true j b e in omega (arith, same)
    by false e f = all_more js up.0 f
first_least (j ∷ js) (suc i) b d up h there = by (nat_eq j b) refl there (λ e. first_least js i b d up.1 (omega arith) e)
  where
    by : (t : Bool) → nat_eq j b ≡ t → (t || has_node b js) ≡ true → (has_node b js ≡ true → (has_node b (take i js) ≡ true) ⊎ ((get_or js i d) ≤ b)) → (has_node b (take (suc i) (j ∷ js)) ≡ true) ⊎ ((get_or (j ∷ js) (suc i) d) ≤ b)
    by true e f rest = inl (ap (λ (t : Bool). t || has_node b (take i js)) e)
    by false e f rest = elim (rest f) [ inl g ↦ inl (ap (λ (t : Bool). nat_eq j b || t) g ∙ or-true (nat_eq j b)) | inr g ↦ inr g ]

pub no_value : (o : Option ℕ) → is_some o ≡ false → o ≡ None
no_value None e = refl
no_value (Some x) e = absurd cc

pub some_value : (o : Option ℕ) → is_some o ≡ true → (x : ℕ) × (o ≡ Some x)
some_value None e = absurd cc
some_value (Some x) e = (x, refl)

pub distance_equal : (o : Option ℕ) (d : ℕ) → option_eq nat_eq o (Some d) ≡ true → o ≡ Some d
distance_equal None d e = absurd cc
distance_equal (Some x) d e = ap Some (eqb-true x d e)
