-- What keeps a resumed run from its end.
use Rattle.std.proofs.Common.{◌≡◌, ℕ, ◌-◌, List, length, sym, ap, subst, ◌∙◌, inl, inr, arith}
use Rattle.std.specs.Prelude.{Option, Some, None, Ok, Err, option_map}
use Rattle.outside.specs.code.Counts.{Rose}
use Rattle.outside.specs.declared.store.Store.{Store}
use Rattle.plan_core.specs.declared.plan.Plan.{Plan}
use Rattle.plan_core.specs.code.Proper.{IsProper}
use Rattle.storage_simulation.specs.declared.standing.Held.{Held}
use Rattle.lease_rules.specs.Legal.{Legal}
use Rattle.lease_rules.specs.State.{opened}
use Rattle.run_record.specs.Events.{Event}
use Rattle.run_record.specs.declared.run_fault.RunFault.{RunFault}
use Rattle.run_record.specs.declared.run_fault.RunFault.TheVariants as faults
use Rattle.record_audit.proofs.LawLemmas.{legal_at}
use Rattle.site_yard.specs.code.Loan.{at_pair}
use Rattle.site_yard.specs.code.Opening.{fault_of_opening}
use Rattle.site_yard.specs.code.Reopening.{AreRecorded, IsLackingAt, IsLongAt, RefusesAgain}
use Rattle.site_yard.specs.declared.opening.OpenFault.{OpenFault}
use Rattle.site_yard.specs.declared.opening.OpenFault.TheVariants as openings
use Rattle.plan_run.specs.code.Finishing.{NoneFailed}
use Rattle.plan_run.specs.Moments.{Tools, Work}
use Rattle.plan_run.specs.code.Running.{Continued, IsUnopened}
use Rattle.plan_run.proofs.FinishingLemmas.{NothingElseFails, more_rose, no_fail}
use Rattle.resume_run.specs.Finishing.{CanEnd, IsDoneOrMemory}
use Rattle.resume_run.specs.Replaying.{without_fails}
use Rattle.resume_run.specs.Resuming.{End, HasResumed, IsWhy, Resumes, Tells, continued, held_after}
use Rattle.resume_run.specs.declared.resuming.ResumeFault.TheVariants.{Failed, Illegal}
use Rattle.resume_run.proofs.ResumingLemmas.{fault_since}

-- a pair that is as recorded is there, and has its size
not_lacking : (o : Option (List ℕ)) (n : ℕ) → option_map length o ≡ Some n → o ≡ None → ⊥
not_lacking None n long none = absurd cc
not_lacking (Some x) n long none = absurd cc

size_of : Option ℕ → ℕ
size_of None = 0
size_of (Some n) = n

one_size : (o : Option (List ℕ)) (n m : ℕ) → option_map length o ≡ Some n → option_map length o ≡ Some m → m ≡ n
unfolding size_of
one_size o n m a b = ap size_of (sym b ∙ a)

no_refusal : (w : Work) (p : Plan) (held : ℕ → Held) (store : Store) (fault : RunFault) → w.before.told ≡ Some store → AreRecorded p held (Some store) → (Rose w.before.counts.faults w.after.counts.faults → ⊥) → IsUnopened w p (Continued held) fault → fault ≡ faults.Memory
no_refusal w p held store fault told recorded still h = by h.opening h.refuses h.fault_is
  where
    by : (opening : OpenFault) → RefusesAgain p held w.before.told w.before.counts w.after.counts opening → fault ≡ fault_of_opening p opening → fault ≡ faults.Memory
    by (openings.ScratchInUse x) refuses is = absurd refuses
    by (openings.PairAbsent x) refuses is =
        let long : IsLongAt p (Some store) x.0 refuses.stored.0 = recorded x.0 refuses.below refuses.stored.0 refuses.stored.1 in
        let none : IsLackingAt p (Some store) x.0 = subst (λ (o : Option Store). IsLackingAt p o x.0) told refuses.lacking in
        absurd (not_lacking (at_pair p store x.0) refuses.stored.0 long none)
    by (openings.LengthDiffers x size found) refuses is =
        let long : IsLongAt p (Some store) x.0 size = recorded x.0 refuses.below size refuses.stored in
        let other : IsLongAt p (Some store) x.0 found = subst (λ (o : Option Store). IsLongAt p o x.0 found) told refuses.long in
        absurd (refuses.other (one_size (at_pair p store x.0) size found long other))
    by openings.HostFailed refuses is = absurd (still (more_rose 1 _ _ (omega arith) refuses.first.asked.faults_is))
    by openings.Memory refuses is = is

of_memory : (fault : RunFault) → fault ≡ faults.Memory → IsDoneOrMemory (Err (Failed fault))
of_memory fault is = subst (λ (f : RunFault). IsDoneOrMemory (Err (Failed f))) (sym is) tt

resumed_short : (law : NothingElseFails) (w : Work) (t : Tools) (p : Plan) (order : List ℕ) (given : List Event) (text : List ℕ) (end : End) → IsProper p → CanEnd w p order given → NoneFailed w t 16 → HasResumed w t p order given text end → IsDoneOrMemory end
resumed_short law w t p order given text end proper can none h = by end h.gone_on.tells
  where
    by : (e : End) → Tells w p order (without_fails given) h.gone_on.r text e → IsDoneOrMemory e
    by (Ok done) tells = tt
    by (Err (Illegal k)) tells = absurd tells
    by (Err (Failed faults.Memory)) tells = tt
    by (Err (Failed fault)) (inl failed) = of_memory fault (no_fail law w t 16 p order (continued p order (without_fails given)) (without_fails given) h.gone_on.r can.store fault proper can.told can.opening can.carried h.gone_on.run (fault_since p given h.gone_on.r fault failed.fault_is) none)
    by (Err (Failed fault)) (inr refused) = of_memory fault (no_refusal w p (held_after p order (without_fails given)) can.store fault can.told can.recorded none.host refused.1)

-- a Legal record isn't refused
why_short : (p : Plan) (order : List ℕ) (given : List Event) (end : End) → Legal p order given → IsWhy p order given end → IsDoneOrMemory end
why_short p order given (Ok done) legal why = tt
why_short p order given (Err (Illegal k)) legal why = absurd (why.not_allowed (legal_at p (opened order) given (k - 1) why.entry legal why.is))
why_short p order given (Err (Failed faults.Memory)) legal why = tt
why_short p order given (Err (Failed fault)) legal why = absurd why

pub resume_finishes : (law : NothingElseFails) (w : Work) (t : Tools) (p : Plan) (order : List ℕ) (given : List Event) (text : List ℕ) (end : End) → IsProper p → CanEnd w p order given → NoneFailed w t 16 → Resumes w t p order given text end → IsDoneOrMemory end
resume_finishes law w t p order given text end proper can none (inl h) = why_short p order given end can.legal h.why
resume_finishes law w t p order given text end proper can none (inr h) = resumed_short law w t p order given text end proper can none h
