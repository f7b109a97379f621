-- What a record publishes, sweeps and delivers.
use Rattle.std.specs.Prelude.{◌≡◌, ℕ, Bool, true, false, List, length, take, ◌||◌}
use Rattle.std.specs.List.{list_any}
use Rattle.plan_core.specs.declared.plan.Plan.{Plan}
use Rattle.plan_core.specs.Numbers.{has}
use Rattle.plan_core.specs.Words.{delivers, writes}
use Rattle.plan_core.specs.Names.{file_name, pair_site_name, pair_file_name}
use Rattle.run_record.specs.Events.{Event, Arrive, End, Fail, Again}
use Rattle.lease_rules.specs.code.Reading.{frees}

-- an entry publishes the pair; it delivers the file
abbrev pub publishes_pair : Plan → ℕ → Event → Bool
publishes_pair p q (Arrive w t n) = has (writes p t) q
publishes_pair p q (End w t ns) = has (writes p t) q
publishes_pair p q (Fail w t cause ns) = has (take (length ns) (writes p t)) q
publishes_pair p q (Again w t cause ns) = has (take (length ns) (writes p t)) q
publishes_pair p q _ = false

abbrev pub delivers_file : Plan → ℕ → Event → Bool
delivers_file p f (Arrive w t n) = delivers p t f
delivers_file p f _ = false

unfoldable pub is_published : Plan → List Event → ℕ → Bool
is_published p r q = list_any (publishes_pair p q) r

unfoldable pub is_swept : Plan → List Event → ℕ → Bool
is_swept p r q = list_any (frees p q) r

unfoldable pub is_delivered : Plan → List Event → ℕ → Bool
is_delivered p r f = list_any (delivers_file p f) r

-- no pair that was published or swept has this name; no file that was delivered
abbrev pub IsUntouched : Plan → List Event → List ℕ → List ℕ → Type 0
IsUntouched p r site name = (q : ℕ) → (is_published p r q || is_swept p r q) ≡ true
    → pair_site_name p q ≡ site → pair_file_name p q ≡ name → ⊥

abbrev pub IsUndelivered : Plan → List Event → List ℕ → Type 0
IsUndelivered p r name = (f : ℕ) → is_delivered p r f ≡ true → file_name p f ≡ name → ⊥
