-- What a run that ended Done delivers.
use Rattle.std.proofs.Common.{◌≡◌, List, []}
use Rattle.std.specs.Prelude.{Option, Some, None, IfSome, MatchOption}
use Rattle.outside.specs.declared.store.Store.{Store}
use Rattle.plan_core.specs.declared.plan.Plan.{Plan}
use Rattle.planner.specs.declared.surveyed.Surveyed.{Surveyed}
use Rattle.run_record.specs.Events.{Event}
use Rattle.site_yard.specs.Changes.{carries}
use Rattle.site_yard.specs.code.Law.{AgreesSince}
use Rattle.site_yard.specs.Law.{IsDeliveryOf}
use Rattle.plan_run.specs.Moments.{Work}
use Rattle.plan_run.specs.code.Running.{IsShown}
use Rattle.pegasus_commands.specs.code.Fault.{done}
use Rattle.pegasus_commands.specs.code.PlanRun.{AllDelivered, DeliversRequested}
use Rattle.pegasus_commands.specs.PlanRun.{AreHonestIn, AreSet, ShownBy, value_in}

pub set_carried : (w : Work) (s : Surveyed) (p : Plan) (r : List Event) (m new : Store) → AllDelivered s p r done → DeliversRequested w s p r m new → AreSet s (IsDeliveryOf p (carries w.apply p m)) m.delivered new.delivered
set_carried w s p r m new all delivers = record {
  each = λ f asked. let d = delivers.carried f (all f asked) in (d.3, d);
  others = λ name none. delivers.others name (λ f h e. none f (delivers.requested f h).0 e);
}

pub set_valued : (w : Work) (s : Surveyed) (p : Plan) (r : List Event) (m new : Store) → AllDelivered s p r done → DeliversRequested w s p r m new → AreHonestIn w s m → AreSet s (λ f content. content ≡ value_in w s m f) m.delivered new.delivered
set_valued w s p r m new all delivers honest = record {
  each = λ f asked. let d = delivers.carried f (all f asked) in (d.3, delivers.valued honest f (all f asked));
  others = λ name none. delivers.others name (λ f h e. none f (delivers.requested f h).0 e);
}

-- what two stores show, where the host told and still tells
pub told_so : (w : Work) (p : Plan) (r : List Event) (Delivers Holds : Store → Store → Type 0) → IsShown w p [] r → IfSome w.before.told (λ m. IfSome w.after.told (λ new. Delivers m new)) → ((m new : Store) → AgreesSince w.apply p [] r m new → Delivers m new → Holds m new) → ShownBy w Holds
told_so w p r Delivers Holds shown delivers so = by w.before.told w.after.told shown delivers
  where
    by : (old new : Option Store) → IfSome old (λ m. MatchOption new ⊥ (λ x. AgreesSince w.apply p [] r m x)) → IfSome old (λ m. IfSome new (λ x. Delivers m x)) → IfSome old (λ m. MatchOption new ⊥ (λ x. Holds m x))
    by None new h d = tt
    by (Some m) None h d = absurd h
    by (Some m) (Some x) h d = so m x h d
