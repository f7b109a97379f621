-- What keeps a resumed run from its end: a counted failure, or want of memory.
use Rattle.std.specs.Prelude.{◌≡◌, ℕ, List, Some, Ok, Err}
use Rattle.outside.specs.declared.store.Store.{Store}
use Rattle.plan_core.specs.declared.plan.Plan.{Plan}
use Rattle.run_record.specs.Events.{Event}
use Rattle.run_record.specs.declared.run_fault.RunFault.TheVariants as faults
use Rattle.lease_rules.specs.Legal.{Legal}
use Rattle.site_yard.specs.code.Faults.{AllCarried}
use Rattle.site_yard.specs.code.Kept.{IsOpening}
use Rattle.site_yard.specs.code.Reopening.{AreRecorded}
use Rattle.plan_run.specs.Finishing.{replicas_of}
use Rattle.plan_run.specs.Moments.{Work}
use Rattle.resume_run.specs.Replaying.{without_fails}
use Rattle.resume_run.specs.Resuming.{End, held_after}
use Rattle.resume_run.specs.declared.resuming.ResumeFault.TheVariants.{Failed}

-- The record is Legal; the host tells that it holds what is carried, at the recorded sizes, for all that the record stores
-- and has delivered, and the record says what is so; and all that tasks carry is there and fits.
pub record CanEnd (w : Work) (p : Plan) (order : List ℕ) (given : List Event) : Type 0 where
  pub legal : Legal p order given
  pub store : Store
  pub told : w.before.told ≡ Some store
  pub opening : IsOpening w.apply p (without_fails given) store
  pub recorded : AreRecorded p (held_after p order (without_fails given)) (Some store)
  pub carried : AllCarried w.apply (replicas_of store) p

abbrev pub IsDoneOrMemory : End → Type 0
IsDoneOrMemory (Ok done) = Unit {0}
IsDoneOrMemory (Err (Failed faults.Memory)) = Unit {0}
IsDoneOrMemory (Err _) = ⊥
