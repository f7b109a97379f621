-- Why a call of the host failed, and the removal of a pair.
use Rattle.std.specs.Prelude.{◌≡◌, ℕ, ◌⊎◌, List, [], ◌∷◌, Option, None, option_map, Result, Ok, Err, IfSome}
use Rattle.values.specs.code.SiteMap.{pair_at}
use Rattle.outside.specs.code.Store.{Removes, changed_by}
use Rattle.outside.specs.declared.counts.Counts.{Counts}
use Rattle.outside.specs.declared.host.HostFault.{HostFault}
use Rattle.outside.specs.declared.host.HostFault.TheVariants as fault
use Rattle.outside.specs.declared.store.Store.{Store}
use Rattle.run_record.specs.declared.entry.Cause.{Cause}
use Rattle.run_record.specs.declared.entry.Cause.TheVariants.{Absent, TooLong, HostFailed, Memory}
use Rattle.site_yard.specs.code.Failures.{AreMore}

-- The causes of a failed call. At a site a file that isn't there, or is too long, is a failure of the host.
abbrev pub replica_cause : HostFault → Cause
replica_cause fault.Absent = Absent
replica_cause fault.Failed = HostFailed
replica_cause (fault.Over l n) = TooLong n
replica_cause fault.Memory = Memory

abbrev pub scratch_cause : HostFault → Cause
scratch_cause fault.Memory = Memory
scratch_cause _ = HostFailed

-- a pair was removed, or all that is told is as before
abbrev pub SweptAway : List ℕ → List ℕ → Option Store → Option Store → Counts → Counts
    → Result (Unit {0}) Cause → Type 0
SweptAway site name old new before now (Ok u) =
    (new ≡ option_map (λ s. changed_by s (Removes site name ∷ [])) old) × AreMore 1 0 0 before now
SweptAway site name old new before now (Err HostFailed) =
    (AreMore 0 1 0 before now
    ⊎ (AreMore 0 0 1 before now × IfSome old (λ s. pair_at s.scratch site name ≡ None))) × (new ≡ old)
SweptAway site name old new before now (Err Memory) = AreMore 0 0 0 before now × (new ≡ old)
SweptAway site name old new before now (Err _) = ⊥
