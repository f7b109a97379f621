-- Beside `specs/Finishing.antt`: what the code's own contracts say.
use Rattle.std.specs.Prelude.{◌≡◌, ℕ, ◌<◌, Some, Ok, Err}
use Rattle.outside.specs.code.Counts.{Rose}
use Rattle.outside.specs.declared.store.Store.{Store}
use Rattle.plan_core.specs.declared.plan.Plan.{Plan}
use Rattle.run_record.specs.declared.run_fault.RunFault.TheVariants as faults
use Rattle.site_yard.specs.code.Faults.{AllCarried}
use Rattle.site_yard.specs.code.Opening.{AreUnused}
use Rattle.plan_run.specs.Moments.{Tools, Work}
use Rattle.plan_run.specs.code.Moments.{count_of}
use Rattle.plan_run.specs.code.Running.{End}
use Rattle.plan_run.specs.Finishing.{replicas_of}

-- The host tells that the plan's sites are empty, and all that its tasks carry is there and fits.
pub record CanEnd (w : Work) (p : Plan) : Type 0 where
  pub store : Store
  pub told : w.before.told ≡ Some store
  pub unused : AreUnused p w.before.told
  pub carried : AllCarried w.apply (replicas_of store) p

-- neither the host's count of failures rose, nor that of one of the first n tools
pub record NoneFailed (w : Work) (t : Tools) (n : ℕ) : Type 0 where
  pub host : Rose w.before.counts.faults w.after.counts.faults → ⊥
  pub tools : (k : ℕ) → k < n → Rose (count_of t.before k) (count_of t.after k) → ⊥

abbrev pub IsDoneOrMemory : End → Type 0
IsDoneOrMemory (Ok done) = Unit {0}
IsDoneOrMemory (Err faults.Memory) = Unit {0}
IsDoneOrMemory (Err fault) = ⊥
