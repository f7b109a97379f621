-- Entries of a record with their places in it, counted from 0.
use Rattle.std.specs.Prelude.{ℕ, suc, ◌-◌, List, [], ◌∷◌, drop, length}
use Rattle.run_record.specs.Events.{Event}

-- these entries, of which the first stands at place k
abbrev pub placed : ℕ → List Event → List (ℕ × Event)
placed k [] = []
placed k (e ∷ r) = (k, e) ∷ placed (suc k) r

-- the last entry of a record; of one without entries none
abbrev pub last_placed : List Event → List (ℕ × Event)
last_placed r = drop (length r - 1) (placed 0 r)
