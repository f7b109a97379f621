-- What keeps a resumed run from its end, without a word on recorded sizes.
use Rattle.std.proofs.Common.{◌≡◌, ℕ, List}
use Rattle.std.specs.Prelude.{Some}
use Rattle.outside.specs.declared.store.Store.{Store}
use Rattle.plan_core.specs.declared.plan.Plan.{Plan}
use Rattle.run_record.specs.Events.{Event}
use Rattle.lease_rules.specs.Legal.{Legal}
use Rattle.site_yard.specs.code.Faults.{AllCarried}
use Rattle.site_yard.specs.code.Kept.{IsOpening}
use Rattle.site_yard.specs.code.Reopening.{AreRecorded}
use Rattle.plan_run.specs.Finishing.{replicas_of}
use Rattle.plan_run.specs.Moments.{Work}
use Rattle.resume_run.specs.Finishing.{CanEnd}
use Rattle.resume_run.specs.Replaying.{without_fails}
use Rattle.resume_run.specs.Resuming.{held_after}

pub can_end : (w : Work) (p : Plan) (order : List ℕ) (given : List Event) (store : Store) → Legal p order given → w.before.told ≡ Some store → IsOpening w.apply p (without_fails given) store
    → AreRecorded p (held_after p order (without_fails given)) (Some store) → AllCarried w.apply (replicas_of store) p → CanEnd w p order given
can_end w p order given store legal told opening recorded carried = record {
  legal = legal;
  store = store;
  told = told;
  opening = opening;
  recorded = recorded;
  carried = carried;
}
