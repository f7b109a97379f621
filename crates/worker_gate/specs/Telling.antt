-- What gates are told of a record: the entries of their own worker, each with its place.
use Rattle.std.specs.Prelude.{◌==◌, ℕ, suc, cond, List, [], ◌∷◌}
use Rattle.run_record.specs.Events.{Event}
use Rattle.lease_rules.specs.Owning.{worker}

-- of these entries, of which the first stands at place k, a worker's, each with its place
abbrev pub placed_by : ℕ → ℕ → List Event → List (ℕ × Event)
placed_by w k [] = []
placed_by w k (e ∷ r) = cond (worker e == w) ((k, e) ∷ placed_by w (suc k) r) (placed_by w (suc k) r)
