-- What the steps of one call come to.
use Rattle.std.proofs.Common.{◌≡◌, ◌≢◌, ℕ, ◌+◌, ◌%◌, ◌^◌, ◌≤◌, List, [], ◌∷◌, true, Some, None, refl, sym, ap, ◌∙◌, subst}
use Rattle.std.specs.Prelude.{Option}
use mathlib.Core.Option.{some, none, some-injective}
use mathlib.Core.List.{IsPrefix}
use lib.ListN.{get_elem?}
use Rattle.atomic_table.specs.Table.{Me, Step, step, Allows, opening, rest}
use Rattle.ruled_lock.specs.declared.view.View.{View}
use Rattle.ruled_lock.specs.declared.view.Stage.TheVariants.{Waits, Turn}
use Rattle.ruled_lock.specs.Chronicle.{list_of, AddsAtMostOne, items_of}
use Rattle.ruled_lock.specs.Rule.{IsKept}
use Rattle.ruled_lock.specs.Steps.{HasTaken, after, looked, passed, staged}
use Rattle.ruled_lock.specs.View.{has_turn, is_settled, lists, newcomer, taken_at}
use Rattle.ruled_lock.proofs.OwnerLemmas.{hit}
use Rattle.ruled_lock.proofs.RuleLemmas.{Ends, begins}
use Rattle.ruled_lock.proofs.StepLemmas.{passes}
use Rattle.ruled_lock.proofs.ViewLemmas.{items_are, settled_turn}

module _ {X : Type 0} where
  abbrev first_or : X → List (ℕ × X) → X
  first_or d [] = d
  first_or d (x ∷ xs) = x.1

  pub one_left : (c : List (ℕ × X)) (y : X) → c ≡ (0, y) ∷ [] → c ≡ (0, y) ∷ rest c
  one_left c y e = e ∙ ap (λ z. (0, y) ∷ rest z) (sym e)

  pub found_is : (c : List (ℕ × X)) (y z : X) → c ≡ (0, y) ∷ [] → c ≡ (0, z) ∷ rest c → z ≡ y
  found_is c y z e f = ap (first_or z) (sym f ∙ e)

module _ {C G I : Type 0} (charter : C → G) (journal : C → List I) (author : I → ℕ) where
  abbrev M : Type 0
  M = Me (Option C) (View G I)

  -- the plays read nothing of the step
  abbrev any_step : Step (Option C)
  any_step = step 0 0 0 0 none

  abbrev pub Waiting : View G I → ℕ → M → Type 0
  Waiting v found m = (t : ℕ) × (found ≡ t % 2 ^ 64) × (m ≡ (staged v (Waits t), []))

  -- the pass with the view v, which waited, has the turn
  abbrev pub Got : View G I → M → Type 0
  Got v m = (t : ℕ) × HasTaken charter journal author (staged v (Waits t), []) t m

  pub got : (v : View G I) (found r : ℕ) (m m' : M) → Waiting v found m → looked charter journal author any_step m r m' → r ≡ found → Got v m'
  got v found r m m' i l hit =
      let l' : looked charter journal author any_step (staged v (Waits i.0), []) r m' = subst (λ (z : M). looked charter journal author any_step z r m') i.2 l in (i.0, (l' i.0 refl refl).0 (hit ∙ i.1))

  pub missed : (v : View G I) (found r : ℕ) (m m' : M) → Waiting v found m → looked charter journal author any_step m r m' → r ≢ found → Waiting v found m'
  missed v found r m m' i l miss =
      let l' : looked charter journal author any_step (staged v (Waits i.0), []) r m' = subst (λ (z : M). looked charter journal author any_step z r m') i.2 l in
      (i.0, i.1, (l' i.0 refl refl).1 (λ is. miss (is ∙ sym i.1)))

  pub gives_back : (g : G) (slots id : ℕ) (m m' : M) (x : C) → slots ≡ 1 → is_settled m.0.stage m.1 ≡ true → has_turn m.0.stage ≡ true → m' ≡ (m.0, (0, Some x) ∷ rest m.1) → m.0.charter ≡ Some (charter x)
      → AddsAtMostOne author m.0.worker (taken_at m.0.stage) (journal x) → Allows (IsKept charter journal author g) slots id m' 1 (λ n. (n + 1) % 2 ^ 64) (passed charter journal author (step slots 1 1 0 none) m')
  gives_back g slots id m m' x one settled turn is same follows =
      let s = settled_turn m.0.stage m.1 settled turn in
      let now : m' ≡ (m.0, (0, Some x) ∷ []) = is ∙ ap (λ c. (m.0, (0, Some x) ∷ rest c)) s.3 in
      subst (λ (z : M). Allows (IsKept charter journal author g) slots id z 1 (λ n. (n + 1) % 2 ^ 64) (passed charter journal author (step slots 1 1 0 none) z)) (sym now)
      (passes charter journal author g slots id (m.0, (0, Some x) ∷ []) s.0 s.1 x one s.2 refl same (subst (λ xs. AddsAtMostOne author m.0.worker xs (journal x)) (ap taken_at s.2) follows))

  pub gave : (m m' m'' : M) (r : ℕ) (x : C) → is_settled m.0.stage m.1 ≡ true → has_turn m.0.stage ≡ true → m' ≡ (m.0, (0, Some x) ∷ rest m.1) → passed charter journal author any_step m' r m''
      → m'' ≡ (after m.0 (journal x) (items_of author m.0.worker (journal x)), [])
  gave m m' m'' r x settled turn is tells =
      let s = settled_turn m.0.stage m.1 settled turn in
      let now : m' ≡ (m.0, (0, Some x) ∷ []) = is ∙ ap (λ c. (m.0, (0, Some x) ∷ rest c)) s.3 in
      let tells' : passed charter journal author any_step (m.0, (0, Some x) ∷ []) r m'' = subst (λ (z : M). passed charter journal author any_step z r m'') now tells in
      tells' x refl

  pub starts : (x y : C) (xs : List (Option C)) → y ≡ x → journal x ≡ [] → xs ≡ Some x ∷ [] → IsKept charter journal author (charter y) (opening (0 ∷ 0 ∷ []) xs (newcomer (charter y)))
  starts x y xs is none_yet items = subst (λ (z : List (Option C)). IsKept charter journal author (charter y) (opening (0 ∷ 0 ∷ []) z (newcomer (charter y)))) (sym items) (begins charter journal author (charter y) x (ap charter (sym is)) none_yet)

  -- what `close` promises of the value
  abbrev pub IsLast : View G I → C → Type 0
  IsLast v x = (v.charter ≡ Some (charter x)) × IsPrefix v.seen (journal x) × ((k : ℕ) → items_of author k (journal x) ≡ list_of k (lists v)) × ((k : ℕ) → v.count ≤ k → items_of author k (journal x) ≡ [])

  abbrev some_or : C → Option C → C
  some_or d None = d
  some_or d (Some y) = y

  pub ended : (g : G) (v : View G I) (xs : List (Option C)) (x : C) (o : Option C) → Ends charter journal author g v xs → get_elem? xs 0 ≡ some o → o ≡ Some x → IsLast v x
  ended g v xs x o e f is =
      let same : Some e.0 ≡ Some x = some-injective (Some e.0) o (sym e.1 ∙ f) ∙ is in
      subst (IsLast v) (ap (some_or x) same) (e.2, e.3, λ k. items_are author (journal e.0) (lists v) k e.4 (e.5 k), e.6)

  pub never_none : (g : G) (v : View G I) (xs : List (Option C)) (o : Option C) → Ends charter journal author g v xs → get_elem? xs 0 ≡ some o → o ≡ None → ⊥
  never_none g v xs o e f is = let same : Some e.0 ≡ None = some-injective (Some e.0) o (sym e.1 ∙ f) ∙ is in cc same

  -- what `take` promises
  abbrev pub IsTaken : View G I → M → C → Type 0
  IsTaken v m x = ((t : ℕ) × (m ≡ (staged v (Turn t (journal x)), (0, None) ∷ []))) × (v.charter ≡ Some (charter x)) × IsPrefix v.seen (journal x) × (items_of author v.worker (journal x) ≡ v.mine)

  pub took : (v : View G I) (o : Option C) (x : C) (m m' : M) → Got v m → m.1 ≡ (0, o) ∷ rest m.1 → o ≡ Some x → m' ≡ (m.0, (0, None) ∷ rest m.1) → IsTaken v m' x
  took v o x m m' g found is after_is =
      let h = g.1 in
      let was : o ≡ Some h.value = found_is m.1 (Some h.value) o (ap (λ (z : M). z.1) h.me) found in
      let same : h.value ≡ x = ap (some_or x) (sym was ∙ is) in
      subst (IsTaken v m') same ((g.0, after_is ∙ ap (λ (z : M). (z.0, (0, None) ∷ rest z.1)) h.me), h.charter_is, h.seen, h.mine)
