-- Beside `specs/Telling.antt`: what the code's own contracts say.
use Rattle.std.specs.Prelude.{◌≡◌, ℕ, ◌<◌, List, [], ◌++◌, length, get_or}
use Rattle.run_record.specs.Events.{Event}
use Rattle.ruled_lock.specs.Pass.{seen_of, worker_of}
use Rattle.site_yard.specs.declared.chronicle.Charter.{Charter}
use Rattle.worker_gate.specs.declared.hands.Hand.{Hand}
use Rattle.worker_gate.specs.Telling.{placed_by}

-- Of what was added after a record r, a worker's gate was told the worker's entries, in order, and nothing else.
pub record IsToldOf (w : ℕ) (r after : List Event) (earlier later : List (ℕ × Event)) : Type 0 where
  pub added : List Event
  pub is : after ≡ r ++ added
  pub told : later ≡ earlier ++ placed_by w (length r) added

-- Each worker's gate was told that worker's entries of a whole record, and nothing else, member by member.
pub record AreGatesTold (r : List Event) (before after : List (List (ℕ × Event))) : Type 0 where
  pub each : (k : ℕ) → k < length before
      → get_or after k [] ≡ get_or before k [] ++ placed_by k 0 r

-- each hand's gate was told what was added to the record by its worker, as its pass has seen it
module _ {C M : Type 0} {g : _} where
  abbrev pub HaveAllTold : (M → List (ℕ × Event)) → List (Hand C M Charter Event g)
      → List (Hand C M Charter Event g) → Type 0
  HaveAllTold told hs after = (k : ℕ) (d : Hand C M Charter Event g) → k < length hs
      → IsToldOf (worker_of (get_or hs k d).pass) (seen_of (get_or hs k d).pass)
      (seen_of (get_or after k d).pass) (told (get_or hs k d).member) (told (get_or after k d).member)
