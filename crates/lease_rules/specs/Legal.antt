-- Legal records, entry by entry, and complete ones.
use Rattle.std.specs.Prelude.{◌≡◌, ℕ, ◌≤◌, ◌<◌, ◌⊎◌, Bool, true, false, not, nat_lt, List, [], ◌∷◌, Option, Some, None, option_and_then, slice_get}
use Rattle.std.specs.Str.{bytes_eq}
use Rattle.plan_core.specs.declared.plan.Plan.{Plan}
use Rattle.plan_core.specs.declared.plan.PlanFile.{PlanFile}
use Rattle.plan_core.specs.declared.plan.TaskKind.{TaskKind}
use Rattle.plan_core.specs.declared.plan.TaskKind.TheVariants.{Transfer, Run}
use Rattle.plan_core.specs.declared.plan.Source.TheVariants.{Pfn}
use Rattle.plan_core.specs.Numbers.{has}
use Rattle.plan_core.specs.Words.{count_tasks, declared, is_clean, is_run, is_transfer, job_numbers, kind, outputs, retries}
use Rattle.storage_simulation.specs.Goods.{good_size, makes, or_zero}
use Rattle.storage_simulation.specs.declared.standing.Phase.TheVariants.{Runs}
use Rattle.run_record.specs.declared.entry.Cause.{Cause}
use Rattle.run_record.specs.declared.entry.Cause.TheVariants.{Absent, TooLong, Checksum, Oversize, Declined, ToolFailed, HostFailed, Memory}
use Rattle.run_record.specs.Events.{Event, Grant, Arrive, End, Clean, Fail, Again, Regrant, may_retry}
use Rattle.lease_rules.specs.State.{State, after, ended, opened}
use Rattle.lease_rules.specs.Choice.{IsChoice, IsFresh}

-- A task is open for a worker where it runs, its last grant is the worker's, and it has no Fail.
pub record IsOpen (s : State) (w t : ℕ) : Type 0 where
  pub runs : s.phase t ≡ Runs
  pub holds : s.holder t ≡ w
  pub no_fail : s.failed t ≡ false

-- a task may fail that is open, or that is a Clean and the Choice
abbrev pub MayFail : Plan → State → ℕ → ℕ → Type 0
MayFail p s w t = IsOpen s w t ⊎ ((is_clean p t ≡ true) × IsChoice p s t)

-- One size for each of these goods, each within the declared one; sizes of the first goods alone.
abbrev pub AreDeclared : Plan → List ℕ → List ℕ → Type 0
AreDeclared p [] [] = Unit {0}
AreDeclared p (g ∷ gs) (n ∷ ns) = (n ≤ good_size p g) × AreDeclared p gs ns
AreDeclared p _ _ = ⊥

abbrev pub AreOfFirst : Plan → List ℕ → List ℕ → Type 0
AreOfFirst p gs [] = Unit {0}
AreOfFirst p [] (n ∷ ns) = ⊥
AreOfFirst p (g ∷ gs) (n ∷ ns) = (n ≤ good_size p g) × AreOfFirst p gs ns

-- a Transfer from a pfn; a Transfer of a file for which so many bytes are too long; one for which the digest is wrong
abbrev pub is_from_pfn : Option TaskKind → Bool
is_from_pfn (Some (Transfer f (Pfn x) to)) = true
is_from_pfn _ = false

abbrev pub is_too_long : Plan → ℕ → ℕ → Bool
is_too_long p f n = nat_lt (or_zero (declared p f)) n

abbrev pub is_too_long_for : Plan → Option TaskKind → ℕ → Bool
is_too_long_for p (Some (Transfer f from to)) n = is_too_long p f.0 n
is_too_long_for p _ n = false

-- another digest than the registered one
abbrev pub differs_from : Option (List ℕ) → List ℕ → Bool
differs_from None d = false
differs_from (Some wanted) d = not (bytes_eq wanted d)

unfoldable pub checksum : Plan → ℕ → Option (List ℕ)
checksum p f = option_and_then (λ (x : PlanFile). x.checksum) (slice_get p.files f)

abbrev pub is_wrong_for : Plan → Option TaskKind → List ℕ → Bool
is_wrong_for p (Some (Transfer f from to)) d = differs_from (checksum p f.0) d
is_wrong_for p _ d = false

-- a job of a Run
abbrev pub has_job : Option TaskKind → ℕ → Bool
has_job (Some (Run s js)) j = has (job_numbers js) j
has_job _ j = false

-- sizes of what a task has published before it failed: those of a Run's first writes
abbrev pub ArePublished : Plan → ℕ → List ℕ → Type 0
ArePublished p t ns = (is_run p t ≡ false → ns ≡ []) × AreOfFirst p (makes p t) ns

-- The causes that fit a task, with the sizes that it has published.
abbrev pub CauseFits : Plan → ℕ → Cause → List ℕ → Type 0
CauseFits p t Absent ns = (is_from_pfn (kind p t) ≡ true) × (ns ≡ [])
CauseFits p t (TooLong n) ns = (is_from_pfn (kind p t) ≡ true) × (is_too_long_for p (kind p t) n ≡ true)
    × (ns ≡ [])
CauseFits p t (Checksum d) ns = (is_from_pfn (kind p t) ≡ true) × (is_wrong_for p (kind p t) d ≡ true)
    × (ns ≡ [])
CauseFits p t (Oversize j f n) ns = (has_job (kind p t) j.0 ≡ true) × (has (outputs p.jobs j.0) f.0 ≡ true)
    × (is_too_long p f.0 n ≡ true) × (ns ≡ [])
CauseFits p t (Declined j) ns = (has_job (kind p t) j.0 ≡ true) × (ns ≡ [])
CauseFits p t (ToolFailed j) ns = (has_job (kind p t) j.0 ≡ true) × (ns ≡ [])
CauseFits p t HostFailed ns = ArePublished p t ns
CauseFits p t Memory ns = ArePublished p t ns

-- The entries that may come next.
abbrev pub Allowed : Plan → State → Event → Type 0
Allowed p s (Grant w t) = (w < 16) × (is_clean p t ≡ false) × IsChoice p s t
Allowed p s (Regrant w t) = (w < 16) × IsFresh p s t
Allowed p s (Clean w t) = (w < 16) × (is_clean p t ≡ true) × IsChoice p s t
Allowed p s (Arrive w t n) = (w < 16) × (is_transfer p t ≡ true) × IsOpen s w t
    × ((g : ℕ) → has (makes p t) g ≡ true → n ≤ good_size p g)
Allowed p s (End w t ns) = (w < 16) × (is_run p t ≡ true) × IsOpen s w t × AreDeclared p (makes p t) ns
Allowed p s (Again w t c ns) = (w < 16) × MayFail p s w t × CauseFits p t c ns × (may_retry c ≡ true)
    × (s.failing ≡ false) × (s.agains t < retries p)
Allowed p s (Fail w t c ns) = (w < 16) × MayFail p s w t × CauseFits p t c ns
    × (may_retry c ≡ true → (s.agains t ≡ retries p) ⊎ (s.failing ≡ true))

-- Legal: whatever came before it, no entry stands where it may not.
abbrev pub LegalFrom : Plan → State → List Event → Type 0
LegalFrom p s [] = Unit {0}
LegalFrom p s (e ∷ r) = Allowed p s e × LegalFrom p (after p s e) r

abbrev pub Legal : Plan → List ℕ → List Event → Type 0
Legal p order r = LegalFrom p (opened order) r

-- It is complete where every task has ended and no Fail stands.
pub record IsComplete (p : Plan) (s : State) : Type 0 where
  pub no_fail : s.failing ≡ false
  pub all_ended : (t : ℕ) → t < count_tasks p → ended (s.phase t) ≡ true
