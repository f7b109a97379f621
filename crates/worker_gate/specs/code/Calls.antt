-- How many calls of the host did what was asked of them, for the entries that are added.
use Rattle.std.specs.Prelude.{◌≡◌, ℕ, ◌+◌, ◌≤◌, List, [], ◌∷◌, ◌++◌, length}
use Rattle.outside.specs.declared.counts.Counts.{Counts}
use Rattle.plan_core.specs.declared.plan.Plan.{Plan}
use Rattle.run_record.specs.Events.{Event, Grant, Regrant, Arrive, End, Clean, Fail, Again}
use Rattle.site_yard.specs.code.Failures.{IsMore}
use Rattle.site_yard.specs.code.Lending.{count_parts}
use Rattle.site_yard.specs.code.Loan.{targets}

-- all that a task needs: one for each reading and each draft, and one that publishes each draft
abbrev pub all_calls : Plan → ℕ → ℕ
all_calls p t = count_parts p t + length (targets p t)

-- A task that is done took all that it needs, a removal one. A failure came as far as its parts were made and the sizes that
-- stand in it were published.
abbrev pub AreCalls : Plan → Event → ℕ → Type 0
AreCalls p (Grant w t) n = n ≡ 0
AreCalls p (Regrant w t) n = n ≡ 0
AreCalls p (Arrive w t k) n = n ≡ all_calls p t
AreCalls p (End w t ns) n = n ≡ all_calls p t
AreCalls p (Clean w t) n = n ≡ 1
AreCalls p (Fail w t cause ns) n = n ≤ count_parts p t + length ns
AreCalls p (Again w t cause ns) n = n ≤ count_parts p t + length ns

-- those of several entries together
abbrev pub AreAllCalls : Plan → List Event → ℕ → Type 0
AreAllCalls p [] n = n ≡ 0
AreAllCalls p (e ∷ r) n = (k l : ℕ) × AreCalls p e k × AreAllCalls p r l × (n ≡ k + l)

-- What is added after a record r took so many calls, and no other was done.
pub record AddsCalls (p : Plan) (r after : List Event) (before now : Counts) : Type 0 where
  pub added : List Event
  pub is : after ≡ r ++ added
  pub calls : ℕ
  pub are : AreAllCalls p added calls
  pub asked : IsMore calls before.done now.done

-- one entry more, which took so many calls besides those that made its task's parts
pub record EndsCalls (p : Plan) (t : ℕ) (r after : List Event) (before now : Counts) : Type 0 where
  pub entry : Event
  pub is : after ≡ r ++ entry ∷ []
  pub calls : ℕ
  pub are : AreCalls p entry (count_parts p t + calls)
  pub asked : IsMore calls before.done now.done
