-- What a call of a yard adds to its record, and what it keeps of the yard.
use Rattle.std.specs.Prelude.{◌≡◌, ℕ, ◌≤◌, ◌<◌, ◌⊎◌, true, false, List, [], ◌∷◌, ◌++◌, length, take, Option, is_some, IfSome}
use Rattle.std.specs.FinMap as files
use Rattle.values.specs.Apply.{Apply}
use Rattle.outside.specs.code.Counts.{IsLater}
use Rattle.outside.specs.declared.counts.Counts.{Counts}
use Rattle.outside.specs.declared.host.Host as host
use Rattle.outside.specs.declared.store.Store.{Store}
use Rattle.outside.specs.code.Parts.{DraftState, ReadState, part_faults}
use Rattle.plan_core.specs.declared.plan.Plan.{Plan}
use Rattle.plan_core.specs.Words.{is_clean, is_transfer}
use Rattle.storage_simulation.specs.declared.standing.Phase.TheVariants.{Runs}
use Rattle.run_record.specs.declared.entry.Cause.{Cause}
use Rattle.run_record.specs.declared.entry.Cause.TheVariants.{Absent, HostFailed, Memory, TooLong}
use Rattle.run_record.specs.Events.{Event, Grant, Regrant, Arrive, End, Clean, Fail, Again}
use Rattle.lease_rules.specs.Choice.{HasNoChoice, IsChoice, IsFresh}
use Rattle.lease_rules.specs.Legal.{IsComplete}
use Rattle.lease_rules.specs.State.{State}
use Rattle.site_yard.specs.Changes.{carries}
use Rattle.site_yard.specs.code.Failures.{AreMore, IsCounted, IsMore}
use Rattle.site_yard.specs.code.Truthful.{IsCause}
use Rattle.site_yard.specs.declared.leased.Leased.{Leased}
use Rattle.site_yard.specs.declared.leased.Leased.TheVariants as leased
use Rattle.site_yard.specs.declared.yard.Yard.{Yard}

-- a failure of the host, or want of memory
abbrev pub IsStop : Cause → Type 0
IsStop HostFailed = Unit {0}
IsStop Memory = Unit {0}
IsStop _ = ⊥

-- One entry more. The host's counts show its failure, and how many calls did what was asked for it.
pub record Adds (r after : List Event) (IsKind : Event → Type 0) (Takes : Event → ℕ → Type 0)
    (told : Option Store) (before now : Counts) : Type 0 where
  pub entry : Event
  pub is : after ≡ r ++ entry ∷ []
  pub kind : IsKind entry
  pub counted : IsCounted told before now entry
  pub calls : ℕ
  pub takes : Takes entry calls
  pub asked : IsMore calls before.done now.done

-- no call did what was asked; no more of them did than make the parts of a task
abbrev pub TakesNone : Event → ℕ → Type 0
TakesNone e n = n ≡ 0

abbrev pub TakesWithin : ℕ → Event → ℕ → Type 0
TakesWithin most e n = n ≤ most

-- how many drafts of a task an entry has published
abbrev pub published_by : ℕ → Event → ℕ
published_by all (Fail w t cause ns) = length ns
published_by all (Again w t cause ns) = length ns
published_by all _ = all

abbrev pub TakesPublished : ℕ → Event → ℕ → Type 0
TakesPublished all e n = n ≡ published_by all e

-- a failure at a Clean
abbrev pub IsFail : ℕ → ℕ → Event → Type 0
IsFail w t (Fail v u c ns) = (v ≡ w) × (u ≡ t) × IsStop c
IsFail w t _ = ⊥

abbrev pub IsAgain : ℕ → ℕ → Event → Type 0
IsAgain w t (Again v u c ns) = (v ≡ w) × (u ≡ t) × IsStop c
IsAgain w t _ = ⊥

-- what a lease answers; the host is asked for a removal alone
abbrev pub Leases : Plan → State → ℕ → List Event → List Event → Option Store → Counts → Counts → Leased
    → Type 0
Leases p s w r after told before now (leased.Granted t) = (is_clean p t.0 ≡ false)
    × ((IsChoice p s t.0 × (after ≡ r ++ Grant w t.0 ∷ []))
    ⊎ (IsFresh p s t.0 × (after ≡ r ++ Regrant w t.0 ∷ []))) × (now ≡ before)
Leases p s w r after told before now (leased.Swept t) = IsChoice p s t.0 × (is_clean p t.0 ≡ true)
    × (after ≡ r ++ Clean w t.0 ∷ []) × AreMore 1 0 0 before now
Leases p s w r after told before now (leased.Failed t) = IsChoice p s t.0 × (is_clean p t.0 ≡ true)
    × Adds r after (IsFail w t.0) TakesNone told before now
Leases p s w r after told before now (leased.Again t) = IsChoice p s t.0 × (is_clean p t.0 ≡ true)
    × Adds r after (IsAgain w t.0) TakesNone told before now
Leases p s w r after told before now leased.Done = IsComplete p s × (after ≡ r) × (now ≡ before)
Leases p s w r after told before now leased.Stopped = (s.failing ≡ true) × (after ≡ r) × (now ≡ before)
Leases p s w r after told before now leased.NotYet = (s.failing ≡ false) × HasNoChoice p s
    × ((t : ℕ) → IsFresh p s t → ⊥) × ((u : ℕ) × (s.phase u ≡ Runs)) × (after ≡ r) × (now ≡ before)

-- why a loan wasn't made
abbrev pub IsLending : Cause → Type 0
IsLending Absent = Unit {0}
IsLending (TooLong n) = Unit {0}
IsLending HostFailed = Unit {0}
IsLending Memory = Unit {0}
IsLending _ = ⊥

-- a failure of the task by the worker, before anything was published
abbrev pub IsFailure : ℕ → ℕ → Event → Type 0
IsFailure w t (Fail v u c ns) = (v ≡ w) × (u ≡ t) × IsLending c × (ns ≡ [])
IsFailure w t (Again v u c ns) = (v ≡ w) × (u ≡ t) × IsLending c × (ns ≡ [])
IsFailure w t _ = ⊥

-- a cause that a worker may tell of a loan: not what only its opening can find
abbrev pub IsWorkers : Cause → Type 0
IsWorkers Absent = ⊥
IsWorkers (TooLong n) = ⊥
IsWorkers _ = Unit {0}

-- a worker tells a failure of the host where one call of the loan's parts failed, and else none did
abbrev pub IsBehind : List ReadState → List DraftState → Cause → Type 0
IsBehind rs ds HostFailed = part_faults rs ds ≡ 1
IsBehind rs ds _ = part_faults rs ds ≡ 0

-- where it is told, the cause is so
abbrev pub IsTold : Apply → Plan → Store → Option Store → ℕ → Cause → Type 0
IsTold apply p marked told t cause = IfSome told
    (λ s. IsCause apply (λ pfn. files.get marked.replicas pfn) p (carries apply p marked) t cause)

-- What settling adds: of a Transfer an Arrive, of a Run an End, with these sizes; or a failure of the host or want of
-- memory after the first drafts were published, and not all of them.
abbrev pub IsSettled : Plan → ℕ → ℕ → List ℕ → Event → Type 0
IsSettled p w t sizes (Arrive v u n) = (v ≡ w) × (u ≡ t) × (is_transfer p t ≡ true) × (sizes ≡ n ∷ [])
IsSettled p w t sizes (End v u ns) = (v ≡ w) × (u ≡ t) × (is_transfer p t ≡ false) × (ns ≡ sizes)
IsSettled p w t sizes (Fail v u c ns) = (v ≡ w) × (u ≡ t) × IsStop c × (ns ≡ take (length ns) sizes)
    × (length ns < length sizes)
IsSettled p w t sizes (Again v u c ns) = (v ≡ w) × (u ≡ t) × IsStop c × (ns ≡ take (length ns) sizes)
    × (length ns < length sizes)
IsSettled p w t sizes _ = ⊥

-- The yard `new` is `old` later on: it has the plan with its order, the number of entries with which it was opened, what its
-- host told and counted then, and a host that tells where the other told. No count of the host has fallen.
module _ {H T Reading Draft : Type 0} {h : host.Ghosts H Reading Draft} {r : _} {w : _} {t : _} where
  pub record IsSameYard (old new : Yard H T Reading Draft h r w t) : Type 0 where
    pub ordered : new.ordered.value ≡ old.ordered.value
    pub opened : new.opened ≡ old.opened
    pub marked : h.marked new.host ≡ h.marked old.host
    pub faults : new.faults ≡ old.faults
    pub misses : new.misses ≡ old.misses
    pub tells : is_some (h.told new.host) ≡ is_some (h.told old.host)
    pub later : IsLater (h.counts old.host) (h.counts new.host)
