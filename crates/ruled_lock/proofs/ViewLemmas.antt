-- Stages of a pass, and the lists of numbers with their items.
use Rattle.std.proofs.Common.{◌≡◌, ℕ, zero, suc, ◌+◌, ◌<◌, ◌≤◌, ◌==◌, ◌||◌, ◌⊎◌, List, [], ◌∷◌, ◌++◌, length, set, get_or, Bool, true, false, cond, leb, refl, sym, ap, ◌∙◌, inl, inr, ⊎_elim, arith, ne_eqb}
use Rattle.std.specs.Prelude.{Option, Some, None, All}
use Rattle.std.proofs.lemmas.Bool.{eq-eqb, eqb-true}
use Rattle.std.proofs.lemmas.Bool.Decides.{nat_tests}
use mathlib.Core.Option.{some}
use mathlib.Core.Logic.{dite}
use native.Mathlib.Decide.{ℕ_discrete}
use lib.ListN.{get_elem?}
use Rattle.ruled_lock.specs.declared.view.View.{View}
use Rattle.ruled_lock.specs.declared.view.Stage.{Stage}
use Rattle.ruled_lock.specs.declared.view.Stage.TheVariants.{Idle, Waits, Turn, Compares, Spent}
use Rattle.ruled_lock.specs.Chronicle.{list_of, longer, items_of}
use Rattle.ruled_lock.specs.View.{has_turn, is_live, is_resting, is_settled, latest, names, taken_at, ticket, tickets, waiting}
use Rattle.ruled_lock.proofs.ListLemmas.{all_tail, sum_cons, sum_set}

pub names_self : {I : Type 0} (k : ℕ) (l : List I) (xs : List (ℕ × List I)) → names k ((k, l) ∷ xs) ≡ true
names_self k l xs = ap (λ b. b || names k xs) (eq-eqb k k refl)

or_right : (a b : Bool) → b ≡ true → (a || b) ≡ true
or_right true b e = refl
or_right false b e = e

or_split : (a b : Bool) → (a || b) ≡ true → (a ≡ true) ⊎ (b ≡ true)
or_split true b e = inl refl
or_split false b e = inr e

pub names_append : {I : Type 0} (k : ℕ) (xs ys : List (ℕ × List I)) → names k (xs ++ ys) ≡ true → (names k xs ≡ true) ⊎ (names k ys ≡ true)
names_append k [] ys e = inr e
names_append k (x ∷ xs) ys e =
    ⊎_elim (λ (h : (x.0 == k) ≡ true). inl (ap (λ b. b || names k xs) h))
    (λ (h : names k (xs ++ ys) ≡ true). ⊎_elim (λ (i : names k xs ≡ true). inl (or_right (x.0 == k) (names k xs) i)) (λ (i : names k ys ≡ true). inr i) (names_append k xs ys h))
    (or_split (x.0 == k) (names k (xs ++ ys)) e)

pub names_front : {I : Type 0} (k : ℕ) (xs ys : List (ℕ × List I)) → names k xs ≡ true → names k (xs ++ ys) ≡ true
names_front k [] ys e = absurd (cc e)
names_front k (x ∷ xs) ys e =
    ⊎_elim (λ (h : (x.0 == k) ≡ true). ap (λ b. b || names k (xs ++ ys)) h)
    (λ (h : names k xs ≡ true). or_right (x.0 == k) (names k (xs ++ ys)) (names_front k xs ys h))
    (or_split (x.0 == k) (names k xs) e)

pub names_back : {I : Type 0} (k : ℕ) (xs ys : List (ℕ × List I)) → names k ys ≡ true → names k (xs ++ ys) ≡ true
names_back k [] ys e = e
names_back k (x ∷ xs) ys e = or_right (x.0 == k) (names k (xs ++ ys)) (names_back k xs ys e)

names_at : {I : Type 0} (xs : List (ℕ × List I)) (k : ℕ) (d : ℕ × List I) → k < length xs → names (get_or xs k d).0 xs ≡ true
names_at [] k d h = absurd (omega arith)
names_at (x ∷ xs) zero d h = names_self x.0 x.1 xs
names_at (x ∷ xs) (suc k) d h = or_right (x.0 == (get_or xs k d).0) (names (get_or xs k d).0 xs) (names_at xs k d (omega arith))

-- a fact on each pair, where it may be used that the number is named
pub all_named : {I : Type 0} (P Q : ℕ × List I → Type 0) (xs : List (ℕ × List I)) → ((p : ℕ × List I) → names p.0 xs ≡ true → P p → Q p) → All P xs → All Q xs
all_named P Q xs f a = λ k d h. f (get_or xs k d) (names_at xs k d h) (a k d h)

pub names_one : {I : Type 0} (m k : ℕ) (l : List I) → names k ((m, l) ∷ []) ≡ true → m ≡ k
names_one m k l e = ⊎_elim (λ (h : (m == k) ≡ true). eqb-true m k h) (λ (h : false ≡ true). absurd (cc h)) (or_split (m == k) false e)

-- the longer of two lists is one of them
pub longer_of : {I : Type 0} (P : List I → Type 0) (xs ys : List I) → (length ys ≤ length xs → P xs) → (length xs ≤ length ys → P ys) → P (longer xs ys)
longer_of P xs ys left right = by_test (leb (length ys) (length xs)) refl
  where
    by_test : (b : Bool) → leb (length ys) (length xs) ≡ b → P (cond b xs ys)
    by_test true is = left (grind (arith, nat_tests))
    by_test false is = right (grind (arith, nat_tests))

-- between two calls a pass without the turn is idle, and holds nothing
pub settled_idle : {I C : Type 0} (st : Stage I) (c : List (ℕ × Option C)) → is_settled st c ≡ true → has_turn st ≡ false → (st ≡ Idle) × (c ≡ [])
settled_idle Idle [] s h = (refl, refl)
settled_idle Idle (x ∷ xs) s h = absurd (cc s)
settled_idle (Turn t xs) c s h = absurd (cc h)
settled_idle (Waits t) c s h = absurd (cc s)
settled_idle (Compares xs) c s h = absurd (cc s)
settled_idle Spent c s h = absurd (cc s)

-- and one with the turn holds the empty slot
pub settled_turn : {I C : Type 0} (st : Stage I) (c : List (ℕ × Option C)) → is_settled st c ≡ true → has_turn st ≡ true → (t : ℕ) × (xs : List I) × (st ≡ Turn t xs) × (c ≡ (0, None) ∷ [])
settled_turn Idle c s h = absurd (cc h)
settled_turn (Turn t xs) [] s h = absurd (cc s)
settled_turn (Turn t xs) ((zero, None) ∷ []) s h = (t, xs, refl, refl)
settled_turn (Turn t xs) ((zero, None) ∷ x ∷ c) s h = absurd (cc s)
settled_turn (Turn t xs) ((zero, Some y) ∷ c) s h = absurd (cc s)
settled_turn (Turn t xs) ((suc k, o) ∷ c) s h = absurd (cc s)
settled_turn (Waits t) c s h = absurd (cc h)
settled_turn (Compares xs) c s h = absurd (cc h)
settled_turn Spent c s h = absurd (cc h)

-- the items of a number are its list
pub items_are : {I : Type 0} (author : I → ℕ) (log : List I) (xs : List (ℕ × List I)) (k : ℕ) → All (λ (p : ℕ × List I). items_of author p.0 log ≡ p.1) xs → (names k xs ≡ false → items_of author k log ≡ []) → items_of author k log ≡ list_of k xs
items_are author log [] k each none = none refl
items_are {I} author log (x ∷ xs) k each none = dite (ℕ_discrete x.0 k)
    (λ is. ap (λ j. items_of author j log) (sym is) ∙ (each 0 x (omega arith) ∙ ap (λ b. cond b x.1 (list_of k xs)) (sym (eq-eqb x.0 k is))))
    (λ not. items_are author log xs k (all_tail (λ (p : ℕ × List I). items_of author p.0 log ≡ p.1) x xs each) (λ off. none (ap (λ b. b || names k xs) (ne_eqb x.0 k not) ∙ off)) ∙ ap (λ b. cond b x.1 (list_of k xs)) (sym (ne_eqb x.0 k not)))

pub latest_taken : {I : Type 0} (st : Stage I) (seen : List I) → has_turn st ≡ true → latest st seen ≡ taken_at st
latest_taken (Turn t xs) seen h = refl
latest_taken Idle seen h = absurd (cc h)
latest_taken (Waits t) seen h = absurd (cc h)
latest_taken (Compares xs) seen h = absurd (cc h)
latest_taken Spent seen h = absurd (cc h)

module _ {I : Type 0} where
  pub tickets_le : (st : Stage I) → tickets st ≤ 1
  tickets_le Idle = omega arith
  tickets_le (Waits t) = omega arith
  tickets_le (Turn t xs) = omega arith
  tickets_le (Compares xs) = omega arith
  tickets_le Spent = omega arith

  pub live_ticket : (st : Stage I) (t : ℕ) → ticket st ≡ Some t → is_live st ≡ true
  live_ticket Idle t e = refl
  live_ticket (Waits u) t e = refl
  live_ticket (Turn u xs) t e = refl
  live_ticket (Compares xs) t e = refl
  live_ticket Spent t e = absurd (cc e)

  pub rest_live : (st : Stage I) → is_resting st ≡ true → is_live st ≡ true
  rest_live Idle e = refl
  rest_live (Compares xs) e = refl
  rest_live (Waits t) e = refl
  rest_live (Turn t xs) e = refl
  rest_live Spent e = e

  pub rest_quiet : (st : Stage I) → is_resting st ≡ true → tickets st ≡ 0
  rest_quiet Idle e = refl
  rest_quiet (Compares xs) e = refl
  rest_quiet (Waits t) e = absurd (cc e)
  rest_quiet (Turn t xs) e = absurd (cc e)
  rest_quiet Spent e = refl

module _ {G I : Type 0} where
  pub waiting_le : (vs : List (View G I)) → waiting vs ≤ length vs
  waiting_le [] = omega arith
  waiting_le (v ∷ vs) =
      let one = tickets_le v.stage in
      let rest = waiting_le vs in
      let is : waiting (v ∷ vs) ≡ tickets v.stage + waiting vs = sum_cons (λ (x : View G I). tickets x.stage) v vs in
      let goal : waiting (v ∷ vs) ≤ length (v ∷ vs) = omega arith in goal

  pub waiting_set : (vs : List (View G I)) (i : ℕ) (v w : View G I) → get_elem? vs i ≡ some v → waiting (set vs i w) + tickets v.stage ≡ waiting vs + tickets w.stage
  waiting_set vs i v w e = sum_set (λ (x : View G I). tickets x.stage) vs i v w e
