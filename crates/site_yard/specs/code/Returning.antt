-- Parts, given back to their host.
use Rattle.std.specs.Prelude.{◌≡◌, ℕ, ◌+◌, ◌<◌, List, [], ◌∷◌, ◌++◌, length, take, Option, Some, None, option_map}
use Rattle.outside.specs.code.Store.{Change, changed_by}
use Rattle.outside.specs.declared.counts.Counts.{Counts}
use Rattle.outside.specs.declared.host.HostFault.{HostFault}
use Rattle.outside.specs.declared.host.HostFault.TheVariants.{Failed, Memory}
use Rattle.outside.specs.declared.store.Store.{Store}
use Rattle.outside.specs.code.Lending.{placing}
use Rattle.outside.specs.code.Parts.{DraftState, Drafted, draft_faults}
use Rattle.site_yard.specs.code.Failures.{AreMore}

-- the changes by which drafts come to their places; one that tells nothing changes nothing that is told
abbrev pub placing_of : Option Drafted → List Change
placing_of None = []
placing_of (Some d) = placing d.place d.bytes ∷ []

abbrev pub placings : List DraftState → List Change
placings [] = []
placings (d ∷ ds) = placing_of d.told ++ placings ds

-- why the next draft was refused, if one was; what this adds to the host's count
abbrev pub IsRefused : ℕ → ℕ → Option HostFault → Type 0
IsRefused count all None = count ≡ all
IsRefused count all (Some Failed) = count < all
IsRefused count all (Some Memory) = count < all
IsRefused count all (Some _) = ⊥

abbrev pub refusal_faults : Option HostFault → ℕ
refusal_faults (Some Failed) = 1
refusal_faults _ = 0

-- The first of these drafts were published, so many. The counts that all of them had are the host's then.
pub record Publishes (ds : List DraftState) (old new : Option Store) (before after : Counts) (count : ℕ)
    (refused : Option HostFault) : Type 0 where
  pub told : new ≡ option_map (λ s. changed_by s (placings (take count ds))) old
  pub refused_is : IsRefused count (length ds) refused
  pub asked : AreMore count (draft_faults ds + refusal_faults refused) 0 before after
