-- Beside `specs/Carried.antt`: what the code's own contracts say.
use Rattle.std.specs.Prelude.{◌≡◌, ℕ, Option}
use Rattle.values.specs.Apply.{Apply}
use Rattle.plan_core.specs.declared.plan.Plan.{Plan}
use Rattle.plan_core.specs.Words.{kind}
use Rattle.plan_core.specs.Carried.{Bytes, carried_by, read}

-- each task carries what it makes of what the writers of its pairs carry
abbrev pub IsCarrying : Apply → (Bytes → Option Bytes) → Plan → (ℕ → ℕ → Option Bytes) → Type 0
IsCarrying apply told p c = (t f : ℕ) → c t f ≡ carried_by apply told p.jobs (read p c t) (kind p t) f
