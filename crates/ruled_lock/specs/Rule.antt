-- The rule of the lock: what holds between any two atomic steps.
use Rattle.std.specs.Prelude.{◌≡◌, ◌≢◌, ℕ, ◌+◌, ◌%◌, ◌^◌, ◌<◌, ◌≤◌, ◌==◌, ◌⊎◌, List, [], ◌∷◌, length, Option, Some, true, false, All}
use Rattle.std.specs.List.{count_by}
use mathlib.Core.Option.{some, none}
use mathlib.Core.List.{IsPrefix}
use lib.ListN.{get_elem?}
use Rattle.atomic_table.specs.Table.{State}
use Rattle.ruled_lock.specs.declared.view.View.{View}
use Rattle.ruled_lock.specs.declared.view.Stage.TheVariants.{Turn}
use Rattle.ruled_lock.specs.Chronicle.{items_of}
use Rattle.ruled_lock.specs.View.{ticket, compares, is_live, names, lists, waiting}

module _ {C G I : Type 0} (charter : C → G) (journal : C → List I) (author : I → ℕ) where
  -- a pass that is not spent, in the place j, agrees with the journal, the two words and the owners of numbers
  pub record Agrees (g : G) (log : List I) (served drawn : ℕ) (owners : List ℕ) (j : ℕ)
      (v : View G I) : Type 0 where
    -- its number is its place
    pub worker : v.worker ≡ j
    pub same : v.charter ≡ Some g
    pub seen : IsPrefix v.seen log
    pub mine : items_of author j v.seen ≡ v.mine
    -- the items of each number that it stands for are all in its lists
    pub whole : All (λ (p : ℕ × List I). items_of author p.0 log ≡ p.1) (lists v)
    -- the pass with the count stands for the number 0
    pub count : v.count ≢ 0 → (v.count ≡ length owners) × (get_elem? owners 0 ≡ some j)
    -- its ticket is out, and was not served before
    pub ticket_in : (t : ℕ) → ticket v.stage ≡ Some t → (served ≤ t) × (t < drawn)
    pub turn : (t : ℕ) (xs : List I) → v.stage ≡ Turn t xs → (t ≡ served) × (xs ≡ log)
    -- what it has yet to compare begins the journal
    pub other : IsPrefix (compares v.stage) log
    -- no other pass with its number was joined into it, and it owns the numbers that it stands for and no others
    pub alone : names v.worker v.joined ≡ false
    pub named : (k : ℕ) → names k (lists v) ≡ true → get_elem? owners k ≡ some j
    pub owns : count_by (λ o. o == j) owners ≡ length (lists v)

  pub record IsKept (g : G) (s : State (Option C) (View G I)) : Type 0 where
    -- the journal: that of the value in the slot, or the one that the pass with the turn took
    pub log : List I
    -- the ticket that is served
    pub served : ℕ
    -- at each number the place of the pass that stands for it
    pub owners : List ℕ
    pub words : s.words ≡ ((served + waiting s.views) % 2 ^ 64) ∷ (served % 2 ^ 64) ∷ []
    pub few : length s.views ≤ 16
    pub owned : length owners ≡ length s.views
    pub home : ((x : C) × (s.homes ≡ some (Some x) ∷ []) × (charter x ≡ g) × (journal x ≡ log))
        ⊎ ((s.homes ≡ none ∷ [])
        × ((j : ℕ) × (v : View G I) × (t : ℕ) × (get_elem? s.views j ≡ some v) × (v.stage ≡ Turn t log)))
    pub fits : (j : ℕ) (v : View G I) → get_elem? s.views j ≡ some v → is_live v.stage ≡ true
        → Agrees g log served (served + waiting s.views) owners j v
    -- no ticket is out twice
    pub apart : (i j t : ℕ) (v w : View G I) → get_elem? s.views i ≡ some v → get_elem? s.views j ≡ some w
        → ticket v.stage ≡ Some t → ticket w.stage ≡ Some t → i ≡ j
    -- the owner of a number is not spent, and stands for it
    pub covers : (k j : ℕ) → get_elem? owners k ≡ some j
        → (v : View G I) × (get_elem? s.views j ≡ some v) × (is_live v.stage ≡ true)
        × (names k (lists v) ≡ true)
    -- a number that was not made has no item
    pub later : (k : ℕ) → length owners ≤ k → items_of author k log ≡ []
