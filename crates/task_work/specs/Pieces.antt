-- Bytes between parts.
use Rattle.std.specs.Prelude.{◌≡◌, ℕ, ◌+◌, ◌≤◌, List, length, option_map, Result, Ok, Err, IfSome}
use Rattle.sha2.specs.Sha256.{sha256}
use Rattle.outside.specs.code.Counts.{Rose}
use Rattle.outside.specs.declared.host.HostFault.{HostFault}
use Rattle.outside.specs.declared.host.HostFault.TheVariants.{Failed, Over, Memory}
use Rattle.outside.specs.code.Parts.{AppendsOn, DraftState, ReadState, extended}

-- what a reading keeps in any case: its bytes and its length; its count doesn't fall
pub record IsSteadyReading (r0 r1 : ReadState) : Type 0 where
  pub told : r1.told ≡ r0.told
  pub size : r1.size ≡ r0.size
  pub faults : r0.faults ≤ r1.faults

-- What becomes of a draft in any case: it has some bytes more, which it tells where it told before, at its place and with
-- its limit; its count doesn't fall.
pub record IsSteadyDraft (d0 d1 : DraftState) : Type 0 where
  pub bytes : List ℕ
  pub told : d1.told ≡ option_map (extended bytes) d0.told
  pub size : d1.size ≡ d0.size + length bytes
  pub limit : d1.limit ≡ d0.limit
  pub faults : d0.faults ≤ d1.faults

-- how many calls of parts have failed at most, by what came of them
abbrev pub fails_in : {X : Type 0} → Result X HostFault → ℕ
fails_in (Ok x) = 0
fails_in (Err Memory) = 0
fails_in (Err e) = 1

-- All bytes of the reading were moved to the draft: where it tells them, these. Told or not, the length and the digest
-- are those of the bytes that were moved.
pub record HasMoved (r0 : ReadState) (d0 d1 : DraftState) (n : ℕ) (digest : List ℕ) : Type 0 where
  pub bytes : List ℕ
  pub read : IfSome r0.told (λ all. bytes ≡ all)
  pub written : d1.told ≡ option_map (extended bytes) d0.told
  pub size : d1.size ≡ length bytes
  pub length_is : n ≡ length bytes
  pub digest_is : digest ≡ sha256 bytes
  pub within : length bytes ≤ r0.size

-- why bytes were not moved: a call of one of the parts failed, or memory was wanted
abbrev pub IsPartFault : ReadState → ReadState → DraftState → DraftState → HostFault → Type 0
IsPartFault r0 r1 d0 d1 Failed = Rose (r0.faults + d0.faults) (r1.faults + d1.faults)
IsPartFault r0 r1 d0 d1 Memory = Unit {0}
IsPartFault r0 r1 d0 d1 _ = ⊥

abbrev pub IsReadFault : ReadState → ReadState → HostFault → Type 0
IsReadFault r0 r1 Failed = Rose r0.faults r1.faults
IsReadFault r0 r1 Memory = Unit {0}
IsReadFault r0 r1 _ = ⊥

-- all bytes of a reading
pub record HasRead (r0 : ReadState) (bytes : List ℕ) : Type 0 where
  pub read : IfSome r0.told (λ all. bytes ≡ all)
  pub within : length bytes ≤ r0.size

-- bytes were written to an empty draft
abbrev pub HasWritten : DraftState → DraftState → List ℕ → Result (Unit {0}) HostFault → Type 0
HasWritten d0 d1 bytes (Ok u) = (d1.told ≡ option_map (extended bytes) d0.told) × (d1.size ≡ length bytes)
    × (d1.limit ≡ d0.limit) × (d1.faults ≡ d0.faults)
HasWritten d0 d1 bytes (Err (Over l n)) = ⊥
HasWritten d0 d1 bytes (Err e) = AppendsOn d0 d1 bytes (Err e)
