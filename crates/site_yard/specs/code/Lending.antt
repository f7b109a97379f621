-- What the calls answer that open readings and make drafts, in the host's words alone.
use Rattle.std.specs.Prelude.{◌≡◌, ℕ, ◌+◌, ◌≤◌, ◌<◌, ◌⊎◌, true, List, map, length, Option, Some, None, option_map, Result, Ok, Err, IfSome}
use Rattle.std.specs.FinMap as files
use Rattle.outside.specs.declared.counts.Counts.{Counts}
use Rattle.outside.specs.declared.store.Store.{Store}
use Rattle.outside.specs.code.Lending.{IsOpened}
use Rattle.outside.specs.code.Parts.{DraftState, ReadState}
use Rattle.plan_core.specs.declared.plan.Plan.{Plan}
use Rattle.plan_core.specs.declared.plan.Source.TheVariants.{Pfn}
use Rattle.plan_core.specs.declared.plan.TaskKind.{TaskKind}
use Rattle.plan_core.specs.declared.plan.TaskKind.TheVariants.{Transfer}
use Rattle.plan_core.specs.Numbers.{has}
use Rattle.plan_core.specs.Words.{kind, reads}
use Rattle.run_record.specs.declared.entry.Cause.{Cause}
use Rattle.run_record.specs.declared.entry.Cause.TheVariants.{Absent, HostFailed, Memory, TooLong}
use Rattle.lease_rules.specs.Legal.{is_too_long}
use Rattle.lease_rules.specs.code.Storing.{pair_limit}
use Rattle.site_yard.specs.code.Failures.{AreMore}
use Rattle.site_yard.specs.code.Loan.{Aim, AreOpened, AreReadings, at_pair, count_readings, fresh_at, targets}
use Rattle.site_yard.specs.code.Truthful.{IsLongAs}

-- how many calls make the parts of a task: one for each reading and one for each draft
abbrev pub count_parts : Plan → ℕ → ℕ
count_parts p t = count_readings (kind p t) (reads p t) + length (targets p t)

-- not there, or too long
abbrev pub IsUnfit : ℕ → Option (List ℕ) → Type 0
IsUnfit limit None = Unit {0}
IsUnfit limit (Some bytes) = limit < length bytes

-- one of these pairs is
abbrev pub SomeUnfit : Plan → List ℕ → Store → Type 0
SomeUnfit p qs s = (q : ℕ) × (has qs q ≡ true) × IsUnfit (pair_limit p q) (at_pair p s q)

-- Why a call was refused. `Counted f m` says of the counts that f calls failed and m found nothing. At a site a file that
-- isn't there, or is too long, is a failure of the host.
abbrev pub IsHostCause : (ℕ → ℕ → Type 0) → Cause → Type 0
IsHostCause Counted HostFailed = Counted 1 0
IsHostCause Counted Memory = Counted 0 0
IsHostCause Counted _ = ⊥

abbrev pub IsPairCause : Plan → ℕ → Option Store → (ℕ → ℕ → Type 0) → Cause → Type 0
IsPairCause p q told Counted HostFailed = Counted 1 0
    ⊎ (Counted 0 1 × IfSome told (λ s. IsUnfit (pair_limit p q) (at_pair p s q)))
IsPairCause p q told Counted Memory = Counted 0 0
IsPairCause p q told Counted _ = ⊥

abbrev pub IsPairsCause : Plan → List ℕ → Option Store → (ℕ → ℕ → Type 0) → Cause → Type 0
IsPairsCause p qs told Counted HostFailed = Counted 1 0 ⊎ (Counted 0 1 × IfSome told (SomeUnfit p qs))
IsPairsCause p qs told Counted Memory = Counted 0 0
IsPairsCause p qs told Counted _ = ⊥

-- `found` is what stands at the pfn, where it is told
abbrev pub IsReplicaCause : Plan → ℕ → Option (Option (List ℕ)) → (ℕ → ℕ → Type 0) → Cause → Type 0
IsReplicaCause p f found Counted Absent = Counted 0 1 × IfSome found (λ x. x ≡ None)
IsReplicaCause p f found Counted (TooLong n) = Counted 0 1 × (is_too_long p f n ≡ true)
    × IfSome found (IsLongAs n)
IsReplicaCause p f found Counted HostFailed = Counted 1 0
IsReplicaCause p f found Counted Memory = Counted 0 0
IsReplicaCause p f found Counted _ = ⊥

-- why the readings of a task weren't opened
abbrev pub RefusesReadings : Plan → Option TaskKind → List ℕ → Option Store → (ℕ → ℕ → Type 0) → Cause
    → Type 0
RefusesReadings p (Some (Transfer f (Pfn x) to)) qs told Counted cause =
    IsReplicaCause p f.0 (option_map (λ s. files.get s.replicas x) told) Counted cause
RefusesReadings p _ qs told Counted cause = IsPairsCause p qs told Counted cause

-- a refusal, once some calls had done what was asked, and no more of them than these
pub record IsRefusedAfter (most : ℕ) (before now : Counts) (IsWhy : (ℕ → ℕ → Type 0) → Type 0) : Type 0 where
  pub calls : ℕ
  pub within : calls ≤ most
  pub why : IsWhy (λ f m. AreMore calls f m before now)

-- a pair's reading was opened
abbrev pub OpensPair : {R : Type 0} → (R → ReadState) → Plan → ℕ → Option Store → Counts → Counts
    → Result R Cause → Type 0
OpensPair state p q told before now (Ok r) = IsOpened (option_map (λ s. at_pair p s q) told) (pair_limit p q)
    (state r) × AreMore 1 0 0 before now
OpensPair state p q told before now (Err cause) = IsPairCause p q told (λ f m. AreMore 0 f m before now) cause

-- those of some pairs, in order; `states` are the readings that were opened
abbrev pub OpensPairs : Plan → List ℕ → Option Store → Counts → Counts → List ReadState
    → Result (Unit {0}) Cause → Type 0
OpensPairs p qs told before now states (Ok u) = AreOpened p qs told states
    × AreMore (length qs) 0 0 before now
OpensPairs p qs told before now states (Err cause) =
    IsRefusedAfter (length qs) before now (λ C. IsPairsCause p qs told C cause)

abbrev pub OpensReadings : Plan → Option TaskKind → List ℕ → Option Store → Counts → Counts → List ReadState
    → Result (Unit {0}) Cause → Type 0
OpensReadings p k qs told before now states (Ok u) = AreReadings p k qs told states
    × AreMore (count_readings k qs) 0 0 before now
OpensReadings p k qs told before now states (Err cause) =
    IsRefusedAfter (count_readings k qs) before now (λ C. RefusesReadings p k qs told C cause)

abbrev pub MakesDraft : {W : Type 0} → (W → DraftState) → Aim → Option Store → Counts → Counts
    → Result W Cause → Type 0
MakesDraft state x told before now (Ok w) = (state w ≡ fresh_at told x) × AreMore 1 0 0 before now
MakesDraft state x told before now (Err cause) = IsHostCause (λ f m. AreMore 0 f m before now) cause

abbrev pub MakesDrafts : List Aim → Option Store → Counts → Counts → List DraftState
    → Result (Unit {0}) Cause → Type 0
MakesDrafts xs told before now states (Ok u) = (states ≡ map (fresh_at told) xs)
    × AreMore (length xs) 0 0 before now
MakesDrafts xs told before now states (Err cause) =
    IsRefusedAfter (length xs) before now (λ C. IsHostCause C cause)

-- why the parts of a task weren't made
abbrev pub IsLoanCause : Plan → Option TaskKind → List ℕ → Option Store → Cause → (ℕ → ℕ → Type 0) → Type 0
IsLoanCause p k qs told cause Counted = RefusesReadings p k qs told Counted cause ⊎ IsHostCause Counted cause

abbrev pub RefusesLoan : Plan → ℕ → Option Store → Counts → Counts → Cause → Type 0
RefusesLoan p t told before now cause = IsRefusedAfter (count_parts p t) before now
    (IsLoanCause p (kind p t) (reads p t) told cause)
