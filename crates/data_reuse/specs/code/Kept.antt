-- Beside `specs/Kept.antt`: what the code's own contracts say.
use Rattle.std.specs.Prelude.{◌≡◌, ℕ, Bool, true}
use Rattle.workflow_core.specs.declared.workflow.Workflow.{Workflow}
use Rattle.data_reuse.specs.Kept.{is_wanted, feeds}

-- A set that holds each wanted job, and each job that feeds one in it. The kept jobs are the least such set.
pub record IsClosed (absent : ℕ → Bool) (w : Workflow) (P : ℕ → Type 0) : Type 0 where
  pub wanted : (a : ℕ) → is_wanted absent w a ≡ true → P a
  pub feeding : (a b : ℕ) → feeds absent w a b ≡ true → P b → P a
