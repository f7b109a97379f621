-- What the rule knows of a pass.
use Rattle.std.specs.Prelude.{ℕ, zero, ◌==◌, ◌||◌, List, [], ◌∷◌, Option, Some, None, Bool, true, false}
use Rattle.std.specs.List.{sum_by}
use Rattle.ruled_lock.specs.declared.view.View.{View}
use Rattle.ruled_lock.specs.declared.view.Stage.{Stage}
use Rattle.ruled_lock.specs.declared.view.Stage.TheVariants.{Idle, Waits, Turn, Compares, Spent}

module _ {I : Type 0} where
  abbrev pub has_turn : Stage I → Bool
  has_turn (Turn t xs) = true
  has_turn _ = false

  -- the journal that was taken
  abbrev pub taken_at : Stage I → List I
  taken_at (Turn t xs) = xs
  taken_at _ = []

  -- what the pass last knew of the journal: the one that it took, or what it had seen
  abbrev pub latest : Stage I → List I → List I
  latest (Turn t xs) seen = xs
  latest _ seen = seen

  -- it has no ticket, and is not spent
  abbrev pub is_resting : Stage I → Bool
  is_resting Idle = true
  is_resting (Compares xs) = true
  is_resting _ = false

  abbrev pub is_live : Stage I → Bool
  is_live Spent = false
  is_live _ = true

  abbrev pub ticket : Stage I → Option ℕ
  ticket (Waits t) = Some t
  ticket (Turn t xs) = Some t
  ticket _ = None

  -- how many tickets it has
  abbrev pub tickets : Stage I → ℕ
  tickets (Waits t) = 1
  tickets (Turn t xs) = 1
  tickets _ = 0

  -- the list that is yet to be compared with the journal
  abbrev pub compares : Stage I → List I
  compares (Compares xs) = xs
  compares _ = []

  -- between two calls: the pass is idle and holds no slot, or it has the turn and holds the empty slot
  abbrev pub is_settled : {C : Type 0} → Stage I → List (ℕ × Option C) → Bool
  is_settled Idle [] = true
  is_settled (Turn t xs) ((zero, None) ∷ []) = true
  is_settled _ _ = false

  -- whether a list of numbers with their items has this number
  abbrev pub names : ℕ → List (ℕ × List I) → Bool
  names worker [] = false
  names worker (x ∷ xs) = (x.0 == worker) || names worker xs

module _ {G I : Type 0} where
  -- the numbers that a pass stands for, each with its items: its own, and those that were joined into it
  abbrev pub lists : View G I → List (ℕ × List I)
  lists v = (v.worker, v.mine) ∷ v.joined

  -- the tickets that are out
  abbrev pub waiting : List (View G I) → ℕ
  waiting vs = sum_by (λ v. tickets v.stage) vs

  -- the first pass
  abbrev pub newcomer : G → View G I
  newcomer g = record {
    worker = 0;
    charter = Some g;
    seen = [];
    mine = [];
    count = 1;
    joined = [];
    stage = Idle;
  }
