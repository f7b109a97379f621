-- Where all that tasks carry is there and fits, a run fails by a counted failure or for want of memory, and by nothing else.
use Rattle.std.specs.Prelude.{ℕ, ◌<◌, List, [], ◌∷◌}
use Rattle.run_record.specs.Events.{Event}
use Rattle.lease_rules.specs.Owning.{worker}

-- the entries are by workers below n
abbrev pub AllBelow : ℕ → List Event → Type 0
AllBelow n [] = Unit {0}
AllBelow n (e ∷ r) = (worker e < n) × AllBelow n r
