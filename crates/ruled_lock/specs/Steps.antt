-- What a step does to the view of a pass, and what it tells.
use Rattle.std.specs.Prelude.{◌≡◌, ◌≢◌, ℕ, ◌+◌, ◌%◌, ◌^◌, ◌≤◌, List, [], ◌∷◌, ◌++◌, length, Option, Some, None, true}
use mathlib.Core.List.{IsPrefix}
use Rattle.atomic_table.specs.Table.{Me, Step}
use Rattle.ruled_lock.specs.declared.view.View.{View}
use Rattle.ruled_lock.specs.declared.view.Stage.{Stage}
use Rattle.ruled_lock.specs.declared.view.Stage.TheVariants.{Idle, Waits, Turn, Compares, Spent}
use Rattle.ruled_lock.specs.Chronicle.{items_of, longer, shorter}
use Rattle.ruled_lock.specs.View.{is_resting, compares, lists}

module _ {G I : Type 0} where
  abbrev pub staged : View G I → Stage I → View G I
  staged v st = record {
    worker = v.worker;
    charter = v.charter;
    seen = v.seen;
    mine = v.mine;
    count = v.count;
    joined = v.joined;
    stage = st;
  }

  -- after a turn: all was seen, and these items of it are the pass's own
  abbrev pub after : View G I → List I → List I → View G I
  after v journal own = record {
    worker = v.worker;
    charter = v.charter;
    seen = journal;
    mine = own;
    count = v.count;
    joined = v.joined;
    stage = Idle;
  }

  -- after it was split
  abbrev pub counted : View G I → View G I
  counted v = record {
    worker = v.worker;
    charter = v.charter;
    seen = v.seen;
    mine = v.mine;
    count = v.count + 1;
    joined = v.joined;
    stage = v.stage;
  }

  -- the pass that was split from it
  abbrev pub next_pass : View G I → View G I
  next_pass v = record {
    worker = v.count;
    charter = v.charter;
    seen = v.seen;
    mine = [];
    count = 0;
    joined = [];
    stage = Idle;
  }

  -- after another was joined into it
  abbrev pub both_of : View G I → View G I → View G I
  both_of v w = record {
    worker = v.worker;
    charter = v.charter;
    seen = longer v.seen w.seen;
    mine = v.mine;
    count = v.count + w.count;
    joined = v.joined ++ lists w;
    stage = Compares (shorter v.seen w.seen);
  }

  -- and what is left of the other
  abbrev pub spent : View G I
  spent = record { worker = 0; charter = None; seen = []; mine = []; count = 0; joined = []; stage = Spent }

  -- the pass has the ticket that was found, where it is the expected one, and else nothing changed
  abbrev pub drew : {S : Type 0} → Step S → Me S (View G I) → ℕ → Me S (View G I) → Type 0
  drew st m found m' =
      (found ≡ st.first → (t : ℕ) × (found ≡ t % 2 ^ 64) × (m' ≡ (staged m.0 (Waits t), m.1)))
      × (found ≢ st.first → m' ≡ m)

  -- what the rule says of a pass without a ticket; it is idle from now on
  pub record IsTold (author : I → ℕ) (v : View G I) : Type 0 where
    pub mine : items_of author v.worker v.seen ≡ v.mine
    pub count : v.count ≤ 16
    pub lists : length (lists v) ≤ 16
    pub seen : length (compares v.stage) ≤ length v.seen → IsPrefix (compares v.stage) v.seen

  abbrev pub compared : {S : Type 0} → (I → ℕ) → Step S → Me S (View G I) → ℕ → Me S (View G I) → Type 0
  compared author st m found m' = is_resting m.0.stage ≡ true
      → (m' ≡ (staged m.0 Idle, m.1)) × IsTold author m.0

module _ {C G I : Type 0} (charter : C → G) (journal : C → List I) (author : I → ℕ) where
  -- the pass that waited with the ticket t has the turn, and the slot with the value x
  pub record HasTaken (m : Me (Option C) (View G I)) (t : ℕ) (m' : Me (Option C) (View G I)) : Type 0 where
    pub value : C
    pub me : m' ≡ (staged m.0 (Turn t (journal value)), (0, Some value) ∷ [])
    pub charter_is : m.0.charter ≡ Some (charter value)
    pub seen : IsPrefix m.0.seen (journal value)
    pub mine : items_of author m.0.worker (journal value) ≡ m.0.mine
    pub own : items_of author m.0.worker m.0.seen ≡ m.0.mine

  -- a pass that waits has the turn where its ticket was found, and else nothing changed
  abbrev pub looked : Step (Option C) → Me (Option C) (View G I) → ℕ → Me (Option C) (View G I) → Type 0
  looked st m found m' =
      (t : ℕ) → m.0.stage ≡ Waits t → m.1 ≡ []
      → (found ≡ t % 2 ^ 64 → HasTaken m t m') × (found ≢ t % 2 ^ 64 → m' ≡ m)

  -- the value that the pass put into the slot is what it has seen
  abbrev pub passed : Step (Option C) → Me (Option C) (View G I) → ℕ → Me (Option C) (View G I) → Type 0
  passed st m found m' =
      (x : C) → m.1 ≡ (0, Some x) ∷ []
      → m' ≡ (after m.0 (journal x) (items_of author m.0.worker (journal x)), [])
