-- Parts of a store's files, outside the store: what they are at one time, and what their calls answer.
use Rattle.std.specs.Prelude.{◌≡◌, ℕ, ◌+◌, ◌≤◌, ◌<◌, ◌++◌, List, [], ◌∷◌, length, take, drop, Option, option_map, Result, Ok, Err, IfSome}
use Rattle.outside.specs.code.Counts.{next_count}
use Rattle.outside.specs.declared.host.HostFault.{HostFault}
use Rattle.outside.specs.declared.host.HostFault.TheVariants.{Absent, Failed, Over, Memory}
use Rattle.outside.specs.declared.place.Place.{Place}

-- A reading at one time: its bytes, where they are told; how many of them it has given; how many it has; and how many
-- of its calls failed.
pub record ReadState : Type 0 where
  pub told : Option (List ℕ)
  pub given : ℕ
  pub size : ℕ
  pub faults : ℕ

-- what a draft tells: where it is to stand, and its bytes so far
pub record Drafted : Type 0 where
  pub place : Place
  pub bytes : List ℕ

-- a draft at one time
pub record DraftState : Type 0 where
  pub told : Option Drafted
  pub size : ℕ
  pub limit : ℕ
  pub faults : ℕ

-- So many bytes were read into the front of `old`, which is `new` then: where they are told, the next ones. None where
-- there is room means that all were read.
pub record ReadsNext (before after : ReadState) (old new : List ℕ) (n : ℕ) : Type 0 where
  pub state : after ≡ record before { given = before.given + n }
  pub within : before.given + n ≤ before.size
  pub room : n ≤ length old
  pub long : length new ≡ length old
  pub bytes : IfSome before.told (λ bytes. take n new ≡ take n (drop before.given bytes))
  pub ends : n ≡ 0 → 0 < length old → IfSome before.told (λ bytes. length bytes ≤ before.given)

-- the answers of a read; one that fails counts itself, and no count falls
abbrev pub ReadsOn : ReadState → ReadState → List ℕ → List ℕ → Result ℕ HostFault → Type 0
ReadsOn before after old new (Ok n) = ReadsNext before after old new n
ReadsOn before after old new (Err Failed) = (after ≡ record before { faults = next_count before.faults })
    × (before.faults ≤ after.faults) × (length new ≡ length old)
ReadsOn before after old new (Err _) = ⊥

-- a draft with more bytes
abbrev pub extended : List ℕ → Drafted → Drafted
extended piece d = record d { bytes = d.bytes ++ piece }

abbrev pub longer : List ℕ → DraftState → DraftState
longer piece s = record s { told = option_map (extended piece) s.told; size = s.size + length piece }

-- The answers of an append: all bytes, or none. One that passes the limit counts nothing, one that fails counts itself.
abbrev pub AppendsOn : DraftState → DraftState → List ℕ → Result (Unit {0}) HostFault → Type 0
AppendsOn before after piece (Ok u) = (before.size + length piece ≤ before.limit)
    × (after ≡ longer piece before)
AppendsOn before after piece (Err (Over l n)) = (l ≡ before.limit)
    × (before.limit < before.size + length piece) × (after ≡ before)
AppendsOn before after piece (Err Failed) = (after ≡ record before { faults = next_count before.faults })
    × (before.faults ≤ after.faults)
AppendsOn before after piece (Err Memory) = after ≡ before
AppendsOn before after piece (Err Absent) = ⊥

-- how often calls of some parts failed
abbrev pub reading_faults : List ReadState → ℕ
reading_faults [] = 0
reading_faults (s ∷ ss) = s.faults + reading_faults ss

abbrev pub draft_faults : List DraftState → ℕ
draft_faults [] = 0
draft_faults (s ∷ ss) = s.faults + draft_faults ss

abbrev pub part_faults : List ReadState → List DraftState → ℕ
part_faults rs ds = reading_faults rs + draft_faults ds
