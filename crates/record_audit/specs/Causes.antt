-- A cause that is decided in one step.
use Rattle.std.specs.Prelude.{ℕ, ◌&&◌, Bool}
use Rattle.plan_core.specs.declared.plan.Plan.{Plan}
use Rattle.plan_core.specs.Numbers.{has}
use Rattle.plan_core.specs.Words.{kind, outputs}
use Rattle.lease_rules.specs.Legal.{has_job, is_too_long}

-- a job of the task makes the file, and so many bytes are too long for it
abbrev pub is_oversize : Plan → ℕ → ℕ → ℕ → ℕ → Bool
is_oversize p t j f n = has_job (kind p t) j && (has (outputs p.jobs j) f && is_too_long p f n)
