-- How often a host's counts rose, and a tool's at least, by what stands in a record.
use Rattle.std.specs.Prelude.{◌≡◌, ℕ, ◌+◌, ◌-◌, ◌^◌, ◌≤◌, ◌<◌, ◌==◌, cond, List, [], ◌∷◌, Option, Some, None}
use Rattle.outside.specs.code.Counts.{IsLater}
use Rattle.outside.specs.declared.counts.Counts.{Counts}
use Rattle.outside.specs.declared.store.Store.{Store}
use Rattle.run_record.specs.declared.entry.Cause.{Cause}
use Rattle.run_record.specs.declared.entry.Cause.TheVariants.{ToolFailed}
use Rattle.run_record.specs.Events.{Event, Fail, Again}
use Rattle.lease_rules.specs.code.Causes.{fault_in, miss_in}

abbrev pub faults_of : Event → ℕ
faults_of (Fail w t cause ns) = fault_in cause
faults_of (Again w t cause ns) = fault_in cause
faults_of _ = 0

abbrev pub misses_of : Event → ℕ
misses_of (Fail w t cause ns) = miss_in cause
misses_of (Again w t cause ns) = miss_in cause
misses_of _ = 0

unfoldable pub host_faults : List Event → ℕ
host_faults [] = 0
host_faults (e ∷ r) = faults_of e + host_faults r

unfoldable pub host_misses : List Event → ℕ
host_misses [] = 0
host_misses (e ∷ r) = misses_of e + host_misses r

-- how often the tool of a worker failed
abbrev pub tool_fault_in : Cause → ℕ
tool_fault_in (ToolFailed j) = 1
tool_fault_in _ = 0

abbrev pub tool_faults_of : ℕ → Event → ℕ
tool_faults_of w (Fail v t cause ns) = cond (w == v) (tool_fault_in cause) 0
tool_faults_of w (Again v t cause ns) = cond (w == v) (tool_fault_in cause) 0
tool_faults_of w _ = 0

unfoldable pub tool_faults : ℕ → List Event → ℕ
tool_faults w [] = 0
tool_faults w (e ∷ r) = tool_faults_of w e + tool_faults w r

-- The count rose by n at least; at its type's end it counts as risen by any number.
abbrev pub RoseBy : ℕ → ℕ → ℕ → Type 0
RoseBy n before now = now < 2 ^ 64 - 1 → before + n ≤ now

-- The count rose by n and no more; at its type's end it says nothing.
abbrev pub IsMore : ℕ → ℕ → ℕ → Type 0
IsMore n before now = now < 2 ^ 64 - 1 → now ≡ before + n

-- the same of both counts of what didn't come
abbrev pub AreMoreTogether : ℕ → ℕ → ℕ → Counts → Type 0
AreMoreTogether n faults misses now = now.faults < 2 ^ 64 - 1 → now.misses < 2 ^ 64 - 1
    → now.faults + now.misses ≡ faults + misses + n

-- Of the calls between two looks at a host's counts so many did what was asked, so many failed, and so many found nothing.
pub record AreMore (done faults misses : ℕ) (before now : Counts) : Type 0 where
  pub done_is : IsMore done before.done now.done
  pub faults_is : IsMore faults before.faults now.faults
  pub misses_is : IsMore misses before.misses now.misses

-- The counts, which were these, rose by what a record lays on the host, and by no more. A host that doesn't tell may find
-- no file at a site where one was published; the record calls this a failure of the host, so both counts show it together.
abbrev pub AreCounted : Option Store → ℕ → ℕ → Counts → List Event → Type 0
AreCounted (Some s) faults misses now r = IsMore (host_faults r) faults now.faults
    × IsMore (host_misses r) misses now.misses
AreCounted None faults misses now r = AreMoreTogether (host_faults r + host_misses r) faults misses now

-- the counts before and after a call rose by what the entry that it adds lays on the host
abbrev pub IsCounted : Option Store → Counts → Counts → Event → Type 0
IsCounted (Some s) before now e = IsLater before now × IsMore (faults_of e) before.faults now.faults
    × IsMore (misses_of e) before.misses now.misses
IsCounted None before now e = IsLater before now
    × AreMoreTogether (faults_of e + misses_of e) before.faults before.misses now
