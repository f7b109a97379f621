-- What keeps a run from its end.
use Rattle.std.proofs.Common.{◌≡◌, ◌⊎◌, ℕ, ◌-◌, ◌^◌, ◌≤◌, ◌<◌, List, ◌∷◌, [], ◌++◌, refl, sym, subst, inl, inr, arith}
use Rattle.std.proofs.lemmas.Bool.{cases_lt}
use Rattle.std.specs.Prelude.{Option, Some, None, IfSome, MatchOption, Ok, Err}
use Rattle.outside.specs.code.Counts.{Rose}
use Rattle.values.specs.code.SiteMap.{IsEmptyAt}
use Rattle.values.specs.Apply.{Apply}
use Rattle.outside.specs.declared.store.Store.{Store}
use Rattle.plan_core.specs.declared.plan.Plan.{Plan}
use Rattle.plan_core.specs.Carried.{Bytes, carried}
use Rattle.plan_core.specs.code.Proper.{IsProper}
use Rattle.lease_rules.specs.Legal.{Legal}
use Rattle.run_record.specs.Events.{Event}
use Rattle.run_record.specs.declared.run_fault.RunFault.{RunFault}
use Rattle.run_record.specs.declared.run_fault.RunFault.TheVariants as faults
use Rattle.site_yard.specs.code.Ending.{first_fault}
use Rattle.site_yard.specs.code.Failures.{AreCounted, IsMore, RoseBy, host_faults, tool_faults}
use Rattle.site_yard.specs.Faults.{AllBelow}
use Rattle.site_yard.specs.code.Faults.{AllCarried, HasToolFault, IsCountedFault}
use Rattle.site_yard.specs.code.Kept.{IsOpening}
use Rattle.site_yard.specs.code.Law.{AgreesSince, Holds}
use Rattle.site_yard.proofs.AgreesLemmas.{opening_of_none}
use Rattle.plan_core.specs.Names.{site_name}
use Rattle.site_yard.specs.code.Opening.{Refuses, fault_of_opening}
use Rattle.site_yard.specs.code.Truthful.{Truthful}
use Rattle.site_yard.specs.declared.opening.OpenFault.{OpenFault}
use Rattle.site_yard.specs.declared.opening.OpenFault.TheVariants as openings
use Rattle.plan_run.specs.code.Finishing.{CanEnd, IsDoneOrMemory, NoneFailed}
use Rattle.plan_run.specs.Finishing.{replicas_of}
use Rattle.plan_run.specs.Moments.{Tools, Work}
use Rattle.plan_run.specs.code.Running.{End, Fresh, HasRun, IsRun, IsShown, IsUnopened, Opening, Report, ShowsFailures, Tells}

abbrev pub NothingElseFails : Type 0
NothingElseFails = (apply : Apply) (told : Bytes → Option Bytes) (p : Plan) (order : List ℕ) (first r : List Event) (fault : RunFault) (n : ℕ) → IsProper p → Legal p order (first ++ r) → Truthful apply told p (carried apply told p) (first ++ r) → AllCarried apply told p → AllBelow n r
    → first_fault p r ≡ Some fault → IsCountedFault (HasToolFault n r) r fault

rose_by : (n before now_ : ℕ) → 1 ≤ n → RoseBy n before now_ → Rose before now_
rose_by n before now_ some rose = by (cases_lt now_ (2 ^ 64 - 1))
  where
    by : (now_ < 2 ^ 64 - 1) ⊎ (2 ^ 64 - 1 ≤ now_) → Rose before now_
    by (inl l) = let more = rose l in grind (arith, more, some)
    by (inr l) = grind (arith, l)

pub more_rose : (n before now_ : ℕ) → 1 ≤ n → IsMore n before now_ → Rose before now_
more_rose n before now_ some more = rose_by n before now_ some (λ l. let is = more l in omega (arith, is))

shows_truth : (w : Work) (p : Plan) (first r : List Event) (m : Store) → w.before.told ≡ Some m → IsOpening w.apply p first m → IsShown w p first r → Truthful w.apply (replicas_of m) p (carried w.apply (replicas_of m) p) (first ++ r)
shows_truth w p first r m told opening shown = by w.after.told (subst (λ (o : Option Store). IfSome o (λ x. MatchOption w.after.told ⊥ (λ s. AgreesSince w.apply p first r x s))) told shown)
  where
    by : (new : Option Store) → MatchOption new ⊥ (λ s. AgreesSince w.apply p first r m s) → Truthful w.apply (replicas_of m) p (carried w.apply (replicas_of m) p) (first ++ r)
    by None h = absurd h
    by (Some s) h = let held : Holds w.apply p first r m s = h.holds opening in held.truthful

-- no opening of empty sites is refused but for a counted failure, or want of memory
no_refusal : (w : Work) (p : Plan) (fault : RunFault) → CanEnd w p → (Rose w.before.counts.faults w.after.counts.faults → ⊥) → IsUnopened w p Fresh fault → fault ≡ faults.Memory
no_refusal w p fault can still h = by h.opening h.refuses h.fault_is
  where
    by : (opening : OpenFault) → Refuses p w.before.told w.before.counts w.after.counts opening → fault ≡ fault_of_opening p opening → fault ≡ faults.Memory
    by (openings.ScratchInUse x) refuses is =
        let used = subst (λ (o : Option Store). IfSome o (λ s. IsEmptyAt s.scratch (site_name p x.0) → ⊥)) can.told refuses.1.1 in
        let unused = subst (λ (o : Option Store). IfSome o (λ s. IsEmptyAt s.scratch (site_name p x.0))) can.told (can.unused x.0 refuses.0 refuses.1.0) in
        absurd (used unused)
    by openings.HostFailed refuses is = absurd (still (more_rose 1 _ _ (omega arith) refuses.asked.faults_is))
    by openings.Memory refuses is = is
    by (openings.PairAbsent x) refuses is = absurd refuses
    by (openings.LengthDiffers x recorded found) refuses is = absurd refuses

none_host : (r : List Event) → r ≡ [] → 1 ≤ host_faults r → ⊥
unfolding host_faults
none_host [] is some = absurd (omega (arith, some))
none_host (e ∷ r) is some = absurd cc

counted_told : (w : Work) (p : Plan) (o : Opening) (r : List Event) (m : Store) → w.before.told ≡ Some m → 1 ≤ host_faults r → ShowsFailures w p o r → Rose w.before.counts.faults w.after.counts.faults
counted_told w p o r m told some (inl counted) = more_rose (host_faults r) _ _ some (subst (λ (s : Option Store). AreCounted s w.before.counts.faults w.before.counts.misses w.after.counts r) told counted).0
counted_told w p o r m told some (inr refused) = absurd (none_host r refused.0 some)

-- where the host told a store that holds what a run begins with, and all that tasks carry is there
pub no_fail : (law : NothingElseFails) (w : Work) (t : Tools) (n : ℕ) (p : Plan) (order : List ℕ) (o : Opening) (first r : List Event) (m : Store) (fault : RunFault) → IsProper p → w.before.told ≡ Some m → IsOpening w.apply p first m → AllCarried w.apply (replicas_of m) p → IsRun w t n p order o first r
    → first_fault p r ≡ Some fault → NoneFailed w t n → fault ≡ faults.Memory
no_fail law w t n p order o first r m fault proper told opening carried run failed none =
    by fault (law w.apply (replicas_of m) p order first r fault n proper run.legal (shows_truth w p first r m told opening run.shown) carried run.below failed)
  where
    by : (f : RunFault) → IsCountedFault (HasToolFault n r) r f → f ≡ faults.Memory
    by (faults.HostFailed None) h = absurd h
    by (faults.HostFailed (Some task)) h = absurd (none.host (counted_told w p o r m told h run.counted))
    by (faults.ToolFailed id) h = absurd (none.tools h.0 h.1 (rose_by (tool_faults h.0 r) _ _ h.2 (run.tools h.0 h.1)))
    by faults.Memory h = refl
    by f h = absurd h

pub run_finishes : (law : NothingElseFails) (w : Work) (t : Tools) (n : ℕ) (p : Plan) (order : List ℕ) (x : Report) (end : End) → IsProper p → CanEnd w p → NoneFailed w t n → HasRun w t n p order x end → IsDoneOrMemory end
run_finishes law w t n p order x end proper can none h = by end h.tells
  where
    of_memory : (fault : RunFault) → fault ≡ faults.Memory → IsDoneOrMemory (Err fault)
    of_memory fault is = subst (λ (f : RunFault). IsDoneOrMemory (Err f)) (sym is) tt

    by : (e : End) → Tells w p order h.r e → IsDoneOrMemory e
    by (Ok done) tells = tt
    by (Err faults.Memory) tells = tt
    by (Err fault) (inl first) = of_memory fault (no_fail law w t n p order Fresh [] h.r can.store fault proper can.told (opening_of_none w.apply p can.store) can.carried h.run first.1 none)
    by (Err fault) (inr refused) = of_memory fault (no_refusal w p fault can none.host refused.1)
