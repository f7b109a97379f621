-- Beside `specs/Cleans.antt`: what the code's own contracts say.
use Rattle.std.specs.Prelude.{◌≡◌, ℕ, false}
use Rattle.plan_core.specs.declared.plan.Plan.{Plan}
use Rattle.plan_core.specs.Words.{is_clean}

-- no task is a Clean
abbrev pub HasNoClean : Plan → Type 0
HasNoClean p = (t : ℕ) → is_clean p t ≡ false
