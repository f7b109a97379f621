-- What an opening with a record's book answers: whether each pair that is stored by it stands at its site, at its recorded
-- size. Each is looked at once, in order, until one of them isn't so.
use Rattle.std.specs.Prelude.{◌≡◌, ℕ, zero, suc, ◌+◌, ◌≤◌, ◌<◌, length, Option, Some, None, option_map, Result, Ok, Err, IfSome}
use Rattle.outside.specs.declared.counts.Counts.{Counts}
use Rattle.outside.specs.declared.store.Store.{Store}
use Rattle.plan_core.specs.declared.plan.Plan.{Plan}
use Rattle.plan_core.specs.Words.{count_pairs}
use Rattle.storage_simulation.specs.declared.standing.Held.{Held}
use Rattle.storage_simulation.specs.declared.standing.Held.TheVariants.{Stored}
use Rattle.site_yard.specs.code.Failures.{AreMore}
use Rattle.site_yard.specs.code.Loan.{at_pair}
use Rattle.site_yard.specs.declared.opening.OpenFault.{OpenFault}
use Rattle.site_yard.specs.declared.opening.OpenFault.TheVariants.{HostFailed, LengthDiffers, Memory, PairAbsent}

-- the size at which a pair is stored, if it is; how often a host is asked for it
abbrev pub recorded_size : Held → Option ℕ
recorded_size (Stored n) = Some n
recorded_size _ = None

abbrev pub measures_of : Option ℕ → ℕ
measures_of None = 0
measures_of (Some n) = 1

abbrev pub measures_at : (ℕ → Held) → ℕ → ℕ
measures_at held q = measures_of (recorded_size (held q))

abbrev pub measures_below : (ℕ → Held) → ℕ → ℕ
measures_below held zero = 0
measures_below held (suc n) = measures_below held n + measures_at held n

-- of all pairs of a plan
abbrev pub measures : Plan → (ℕ → Held) → ℕ
measures p held = measures_below held (count_pairs p)

-- where it is told, a file of this length stands at the pair's name; where it is told, none does
abbrev pub IsLongAt : Plan → Option Store → ℕ → ℕ → Type 0
IsLongAt p told q n = IfSome told (λ s. option_map length (at_pair p s q) ≡ Some n)

abbrev pub IsLackingAt : Plan → Option Store → ℕ → Type 0
IsLackingAt p told q = IfSome told (λ s. at_pair p s q ≡ None)

-- a pair that is stored has its recorded size
abbrev pub IsAsRecorded : Plan → (ℕ → Held) → Option Store → ℕ → Type 0
IsAsRecorded p held told q = (n : ℕ) → recorded_size (held q) ≡ Some n → IsLongAt p told q n

abbrev pub AreRecordedBelow : Plan → (ℕ → Held) → Option Store → ℕ → Type 0
AreRecordedBelow p held told n = (q : ℕ) → q < n → IsAsRecorded p held told q

abbrev pub AreRecorded : Plan → (ℕ → Held) → Option Store → Type 0
AreRecorded p held told = AreRecordedBelow p held told (count_pairs p)

-- the length of the file at a pair's name, or why there is none
abbrev pub Measures : Plan → ℕ → Option Store → Counts → Counts → Result ℕ OpenFault → Type 0
Measures p q told before now (Ok n) = IsLongAt p told q n × AreMore 1 0 0 before now
Measures p q told before now (Err (PairAbsent x)) = (x.0 ≡ q) × IsLackingAt p told q
    × AreMore 0 0 1 before now
Measures p q told before now (Err HostFailed) = AreMore 0 1 0 before now
Measures p q told before now (Err Memory) = AreMore 0 0 0 before now
Measures p q told before now (Err _) = ⊥

-- The pair was looked at, if it is stored; that it isn't there, or has another length, is told with both sizes.
abbrev pub IsStored : (ℕ → Held) → ℕ → Type 0
IsStored held q = (n : ℕ) × (recorded_size (held q) ≡ Some n)

abbrev pub Checks : Plan → (ℕ → Held) → ℕ → Option Store → Counts → Counts → Result (Unit {0}) OpenFault
    → Type 0
Checks p held q told before now (Ok u) = IsAsRecorded p held told q
    × AreMore (measures_at held q) 0 0 before now
Checks p held q told before now (Err (PairAbsent x)) = (x.0 ≡ q) × IsStored held q × IsLackingAt p told q
    × AreMore 0 0 1 before now
Checks p held q told before now (Err (LengthDiffers x recorded found)) = (x.0 ≡ q)
    × (recorded_size (held q) ≡ Some recorded) × (found ≡ recorded → ⊥) × IsLongAt p told q found
    × AreMore 1 0 0 before now
Checks p held q told before now (Err HostFailed) = IsStored held q × AreMore 0 1 0 before now
Checks p held q told before now (Err Memory) = AreMore 0 0 0 before now
Checks p held q told before now (Err _) = ⊥

-- The pairs before this one are as recorded, and so many calls did what was asked, so many failed, and so many found nothing.
pub record HasLookedBelow (p : Plan) (held : ℕ → Held) (told : Option Store) (q more faults misses : ℕ)
    (before now : Counts) : Type 0 where
  pub recorded : AreRecordedBelow p held told q
  pub asked : AreMore (measures_below held q + more) faults misses before now

-- the first pair that is stored and isn't there
pub record IsAbsentAt (p : Plan) (held : ℕ → Held) (told : Option Store) (q : ℕ)
    (before now : Counts) : Type 0 where
  pub below : q < count_pairs p
  pub stored : IsStored held q
  pub lacking : IsLackingAt p told q
  pub first : HasLookedBelow p held told q 0 0 1 before now

-- the first pair that has another length than its recorded size
pub record DiffersAt (p : Plan) (held : ℕ → Held) (told : Option Store) (q recorded found : ℕ)
    (before now : Counts) : Type 0 where
  pub below : q < count_pairs p
  pub stored : recorded_size (held q) ≡ Some recorded
  pub other : found ≡ recorded → ⊥
  pub long : IsLongAt p told q found
  pub first : HasLookedBelow p held told q 1 0 0 before now

-- the look at a pair that is stored failed
pub record HasFailedAt (p : Plan) (held : ℕ → Held) (told : Option Store) (before now : Counts) : Type 0 where
  pub pair : ℕ
  pub below : pair < count_pairs p
  pub stored : IsStored held pair
  pub first : HasLookedBelow p held told pair 0 1 0 before now

-- memory was wanted at a pair, or after the last one
pub record HasWantedAt (p : Plan) (held : ℕ → Held) (told : Option Store) (before now : Counts) : Type 0 where
  pub pair : ℕ
  pub below : pair ≤ count_pairs p
  pub first : HasLookedBelow p held told pair 0 0 0 before now

-- Why an opening with a book is refused. Nothing else was asked.
abbrev pub RefusesAgain : Plan → (ℕ → Held) → Option Store → Counts → Counts → OpenFault → Type 0
RefusesAgain p held told before now (PairAbsent x) = IsAbsentAt p held told x.0 before now
RefusesAgain p held told before now (LengthDiffers x recorded found) =
    DiffersAt p held told x.0 recorded found before now
RefusesAgain p held told before now HostFailed = HasFailedAt p held told before now
RefusesAgain p held told before now Memory = HasWantedAt p held told before now
RefusesAgain p held told before now _ = ⊥

abbrev pub ChecksAll : Plan → (ℕ → Held) → Option Store → Counts → Counts → Result (Unit {0}) OpenFault
    → Type 0
ChecksAll p held told before now (Ok u) = AreRecorded p held told × AreMore (measures p held) 0 0 before now
ChecksAll p held told before now (Err fault) = RefusesAgain p held told before now fault
