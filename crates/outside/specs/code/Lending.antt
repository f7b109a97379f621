-- What the calls of a host answer that make parts and take them back.
use Rattle.std.specs.Prelude.{◌≡◌, ℕ, ◌+◌, ◌-◌, ◌^◌, ◌≤◌, min, List, [], length, Option, Some, None, option_map, Result, Ok, Err, IfSome}
use Rattle.outside.specs.code.Counts.{one_done, one_fault}
use Rattle.outside.specs.code.Host.{Reads}
use Rattle.outside.specs.code.Store.{Change, Publishes, Delivers, changed}
use Rattle.outside.specs.declared.counts.Counts.{Counts}
use Rattle.outside.specs.declared.host.HostFault.{HostFault}
use Rattle.outside.specs.declared.host.HostFault.TheVariants.{Failed, Memory}
use Rattle.outside.specs.declared.store.Store.{Store}
use Rattle.outside.specs.declared.place.Place.{Place}
use Rattle.outside.specs.declared.place.Place.TheVariants.{Scratch, Delivery}
use Rattle.outside.specs.code.Parts.{DraftState, Drafted, ReadState}

-- A host that tells makes readings that tell, of what it holds; one that doesn't makes readings that don't. `found` is
-- what stands at the name, where it is told.
abbrev pub TellsFound : Option (Option (List ℕ)) → Option (List ℕ) → Type 0
TellsFound None told = told ≡ None
TellsFound (Some None) told = ⊥
TellsFound (Some (Some bytes)) told = told ≡ Some bytes

-- a reading that was just opened
pub record IsOpened (found : Option (Option (List ℕ))) (limit : ℕ) (s : ReadState) : Type 0 where
  pub told : TellsFound found s.told
  pub given : s.given ≡ 0
  pub within : s.size ≤ limit
  pub long : IfSome s.told (λ bytes. s.size ≡ length bytes)
  pub faults : s.faults ≡ 0

-- the answers of an opening; its refusals are those of a reading at once
abbrev pub Opens : {R : Type 0} → (R → ReadState) → Option (Option (List ℕ)) → ℕ → Counts → Counts
    → Result R HostFault → Type 0
Opens state found limit before after (Ok r) = (after ≡ one_done before) × IsOpened found limit (state r)
Opens state found limit before after (Err e) = Reads found limit before after (Err e)

-- a draft that was just made, by a host that tells this
abbrev pub undrafted : Place → Store → Drafted
undrafted place s = record { place = place; bytes = [] }

abbrev pub fresh : Option Store → Place → ℕ → DraftState
fresh told place limit = record {
  told = option_map (undrafted place) told;
  size = 0;
  limit = limit;
  faults = 0;
}

-- the answers of the making of a draft
abbrev pub Makes : {W : Type 0} → (W → DraftState) → Option Store → Place → ℕ → Counts → Counts
    → Result W HostFault → Type 0
Makes state told place limit before after (Ok w) = (after ≡ one_done before)
    × (state w ≡ fresh told place limit)
Makes state told place limit before after (Err Failed) = after ≡ one_fault before
Makes state told place limit before after (Err Memory) = after ≡ before
Makes state told place limit before after (Err _) = ⊥

-- the counts once a part with so many faults was given back
abbrev pub with_faults : Counts → ℕ → Counts
with_faults c n = record c { faults = min (c.faults + n) (2 ^ 64 - 1) }

-- the change by which a file comes to its place
abbrev pub placing : Place → List ℕ → Change
placing (Scratch site name) bytes = Publishes site name bytes
placing (Delivery name) bytes = Delivers name bytes

-- the store once a draft was published
abbrev pub published : Option Drafted → Store → Store
published None s = s
published (Some d) s = changed s (placing d.place d.bytes)

-- The answers of a publishing: the draft's bytes stand at its place, in one step, or all that is told is as before. The
-- draft's count is the host's then, whatever the answer.
abbrev pub Publishing : DraftState → Option Store → Option Store → Counts → Counts
    → Result (Unit {0}) HostFault → Type 0
Publishing d old new before after (Ok u) = (after ≡ one_done (with_faults before d.faults))
    × (new ≡ option_map (published d.told) old)
Publishing d old new before after (Err Failed) = (after ≡ one_fault (with_faults before d.faults))
    × (new ≡ old)
Publishing d old new before after (Err Memory) = (after ≡ with_faults before d.faults) × (new ≡ old)
Publishing d old new before after (Err _) = ⊥
