-- What a loan that wasn't made keeps and adds.
use Rattle.std.proofs.Common.{◌≡◌, ℕ, ◌≤◌, inl, inr, Bool, true, false, List, [], ◌∷◌, ◌++◌, length, drop, take, refl, sym, ap, ◌∙◌, subst}
use Rattle.std.specs.Prelude.{Option, Some, None, option_map, IfSome}
use Rattle.std.specs.FinMap as files
use Rattle.std.proofs.Math.Logic.{∥∥₁_elim, ∥∥₁_prop}
use Rattle.outside.specs.code.Counts.{IsLater}
use Rattle.values.specs.Apply.{Apply}
use Rattle.outside.specs.declared.counts.Counts.{Counts}
use Rattle.outside.specs.declared.store.Store.{Store}
use Rattle.plan_core.specs.declared.plan.Plan.{Plan}
use Rattle.plan_core.specs.declared.plan.TaskKind.{TaskKind}
use Rattle.plan_core.specs.declared.plan.TaskKind.TheVariants.{Transfer, Run, Clean as CleanTask}
use Rattle.plan_core.specs.declared.plan.Source.TheVariants.{Pfn, Site}
use Rattle.plan_core.specs.Words.{kind, reads, task_numbers}
use Rattle.run_record.specs.declared.entry.Cause.{Cause}
use Rattle.run_record.specs.declared.entry.Cause.TheVariants.{Absent, TooLong, HostFailed, Memory}
use Rattle.run_record.specs.Events.{Event, Fail}
use Rattle.lease_book.specs.declared.book.Book.{Book}
use Rattle.lease_book.specs.Book.{failure, is_tried_again, state_at}
use Rattle.lease_rules.specs.Legal.{IsOpen}
use Rattle.site_yard.specs.Changes.{carries}
use Rattle.site_yard.specs.code.Failures.{AreMore, IsCounted, IsMore}
use Rattle.site_yard.specs.code.Kept.{IsKept}
use Rattle.site_yard.specs.code.Lending.{IsHostCause, IsLoanCause, IsPairsCause, IsReplicaCause, RefusesLoan, RefusesReadings, SomeUnfit, count_parts}
use Rattle.site_yard.specs.code.Truthful.{IsAtPfn, IsCause, IsLongAs}
use Rattle.site_yard.specs.code.Yard.{Adds, IsFailure, IsLending, IsTold, TakesWithin}
use Rattle.site_yard.proofs.CountingLemmas.{shows, shows_missing}
use Rattle.site_yard.proofs.KeptLemmas.{failed, parts}
use Rattle.site_yard.proofs.LoanLemmas.{HasBookLaws, failed_counted, plain_keeps}
use Rattle.site_yard.proofs.PlaceLemmas.{replicas_changed}
use Rattle.site_yard.proofs.StoredLemmas.{never_unfit}

abbrev NeverUnfit : Plan → ℕ → Option Store → Type 0
NeverUnfit p t o = (s : Store) → o ≡ Some s → SomeUnfit p (reads p t) s → ⊥

-- what the counts show, once some calls had done what was asked
abbrev After : ℕ → Counts → Counts → ℕ → ℕ → Type 0
After n before now_ f m = AreMore n f m before now_

host_shows : (o : Option Store) (n : ℕ) (before now_ : Counts) (w t : ℕ) (cause : Cause) → IsLater before now_ → IsHostCause (After n before now_) cause → IsCounted o before now_ (Fail w t cause [])
host_shows o n before now_ w t HostFailed later why = shows o n 1 0 before now_ (Fail w t HostFailed []) refl refl why later
host_shows o n before now_ w t Memory later why = shows o n 0 0 before now_ (Fail w t Memory []) refl refl why later
host_shows o n before now_ w t cause later why = absurd why

missing_shows : (p : Plan) (o : Option Store) (n : ℕ) (before now_ : Counts) (w t : ℕ) → NeverUnfit p t o → IsLater before now_ → AreMore n 0 1 before now_ → IfSome o (SomeUnfit p (reads p t)) → IsCounted o before now_ (Fail w t HostFailed [])
missing_shows p None n before now_ w t never later missed bad = shows_missing n before now_ (Fail w t HostFailed []) refl refl missed later
missing_shows p (Some s) n before now_ w t never later missed bad = absurd (never s refl bad)

pairs_show : (p : Plan) (o : Option Store) (n : ℕ) (before now_ : Counts) (w t : ℕ) (cause : Cause) → NeverUnfit p t o → IsLater before now_ → IsPairsCause p (reads p t) o (After n before now_) cause → IsCounted o before now_ (Fail w t cause [])
pairs_show p o n before now_ w t HostFailed never later (inl failed_) = shows o n 1 0 before now_ (Fail w t HostFailed []) refl refl failed_ later
pairs_show p o n before now_ w t HostFailed never later (inr missed) = missing_shows p o n before now_ w t never later missed.0 missed.1
pairs_show p o n before now_ w t Memory never later why = shows o n 0 0 before now_ (Fail w t Memory []) refl refl why later
pairs_show p o n before now_ w t cause never later why = absurd why

replica_shows : (p : Plan) (f : ℕ) (found : Option (Option (List ℕ))) (o : Option Store) (n : ℕ) (before now_ : Counts) (w t : ℕ) (cause : Cause) → IsLater before now_ → IsReplicaCause p f found (After n before now_) cause → IsCounted o before now_ (Fail w t cause [])
replica_shows p f found o n before now_ w t Absent later why = shows o n 0 1 before now_ (Fail w t Absent []) refl refl why.0 later
replica_shows p f found o n before now_ w t (TooLong k) later why = shows o n 0 1 before now_ (Fail w t (TooLong k) []) refl refl why.0 later
replica_shows p f found o n before now_ w t HostFailed later why = shows o n 1 0 before now_ (Fail w t HostFailed []) refl refl why later
replica_shows p f found o n before now_ w t Memory later why = shows o n 0 0 before now_ (Fail w t Memory []) refl refl why later
replica_shows p f found o n before now_ w t cause later why = absurd why

readings_show : (p : Plan) (k : Option TaskKind) (o : Option Store) (n : ℕ) (before now_ : Counts) (w t : ℕ) (cause : Cause) → NeverUnfit p t o → IsLater before now_ → RefusesReadings p k (reads p t) o (After n before now_) cause → IsCounted o before now_ (Fail w t cause [])
readings_show p None o n before now_ w t cause never later why = pairs_show p o n before now_ w t cause never later why
readings_show p (Some (Run a js)) o n before now_ w t cause never later why = pairs_show p o n before now_ w t cause never later why
readings_show p (Some (CleanTask q)) o n before now_ w t cause never later why = pairs_show p o n before now_ w t cause never later why
readings_show p (Some (Transfer g (Site a) to)) o n before now_ w t cause never later why = pairs_show p o n before now_ w t cause never later why
readings_show p (Some (Transfer g (Pfn x) to)) o n before now_ w t cause never later why = replica_shows p g.0 _ o n before now_ w t cause later why

cause_shows : (p : Plan) (o : Option Store) (n : ℕ) (before now_ : Counts) (w t : ℕ) (cause : Cause) → NeverUnfit p t o → IsLater before now_ → IsLoanCause p (kind p t) (reads p t) o cause (After n before now_) → IsCounted o before now_ (Fail w t cause [])
cause_shows p o n before now_ w t cause never later (inl why) = readings_show p (kind p t) o n before now_ w t cause never later why
cause_shows p o n before now_ w t cause never later (inr why) = host_shows o n before now_ w t cause later why

loan_shows : (p : Plan) (o : Option Store) (before now_ : Counts) (w t : ℕ) (cause : Cause) → NeverUnfit p t o → IsLater before now_ → RefusesLoan p t o before now_ cause → IsCounted o before now_ (Fail w t cause [])
loan_shows p o before now_ w t cause never later refused = cause_shows p o refused.calls before now_ w t cause never later refused.why

-- how many calls had done what was asked
host_done : (n : ℕ) (before now_ : Counts) (cause : Cause) → IsHostCause (After n before now_) cause → IsMore n before.done now_.done
host_done n before now_ HostFailed why = why.done_is
host_done n before now_ Memory why = why.done_is
host_done n before now_ cause why = absurd why

pairs_done : (p : Plan) (qs : List ℕ) (o : Option Store) (n : ℕ) (before now_ : Counts) (cause : Cause) → IsPairsCause p qs o (After n before now_) cause → IsMore n before.done now_.done
pairs_done p qs o n before now_ HostFailed (inl failed_) = failed_.done_is
pairs_done p qs o n before now_ HostFailed (inr missed) = missed.0.done_is
pairs_done p qs o n before now_ Memory why = why.done_is
pairs_done p qs o n before now_ cause why = absurd why

replica_done : (p : Plan) (f : ℕ) (found : Option (Option (List ℕ))) (n : ℕ) (before now_ : Counts) (cause : Cause) → IsReplicaCause p f found (After n before now_) cause → IsMore n before.done now_.done
replica_done p f found n before now_ Absent why = why.0.done_is
replica_done p f found n before now_ (TooLong k) why = why.0.done_is
replica_done p f found n before now_ HostFailed why = why.done_is
replica_done p f found n before now_ Memory why = why.done_is
replica_done p f found n before now_ cause why = absurd why

readings_done : (p : Plan) (k : Option TaskKind) (qs : List ℕ) (o : Option Store) (n : ℕ) (before now_ : Counts) (cause : Cause) → RefusesReadings p k qs o (After n before now_) cause → IsMore n before.done now_.done
readings_done p None qs o n before now_ cause why = pairs_done p qs o n before now_ cause why
readings_done p (Some (Run a js)) qs o n before now_ cause why = pairs_done p qs o n before now_ cause why
readings_done p (Some (CleanTask q)) qs o n before now_ cause why = pairs_done p qs o n before now_ cause why
readings_done p (Some (Transfer g (Site a) to)) qs o n before now_ cause why = pairs_done p qs o n before now_ cause why
readings_done p (Some (Transfer g (Pfn x) to)) qs o n before now_ cause why = replica_done p g.0 _ n before now_ cause why

loan_done : (p : Plan) (k : Option TaskKind) (qs : List ℕ) (o : Option Store) (n : ℕ) (before now_ : Counts) (cause : Cause) → IsLoanCause p k qs o cause (After n before now_) → IsMore n before.done now_.done
loan_done p k qs o n before now_ cause (inl why) = readings_done p k qs o n before now_ cause why
loan_done p k qs o n before now_ cause (inr why) = host_done n before now_ cause why

-- what its cause says
host_told : (apply : Apply) (told : List ℕ → Option (List ℕ)) (p : Plan) (c : ℕ → ℕ → Option (List ℕ)) (C : ℕ → ℕ → Type 0) (t : ℕ) (cause : Cause) → IsHostCause C cause → IsCause apply told p c t cause
host_told apply told p c C t HostFailed why = tt
host_told apply told p c C t Memory why = tt
host_told apply told p c C t cause why = absurd why

pairs_told : (apply : Apply) (told : List ℕ → Option (List ℕ)) (p : Plan) (c : ℕ → ℕ → Option (List ℕ)) (o : Option Store) (C : ℕ → ℕ → Type 0) (t : ℕ) (cause : Cause) → IsPairsCause p (reads p t) o C cause → IsCause apply told p c t cause
pairs_told apply told p c o C t HostFailed why = tt
pairs_told apply told p c o C t Memory why = tt
pairs_told apply told p c o C t cause why = absurd why

replica_told : (apply : Apply) (p : Plan) (c : ℕ → ℕ → Option (List ℕ)) (s m : Store) (C : ℕ → ℕ → Type 0) (t : ℕ) (g : _) (x : List ℕ) (to : _) (cause : Cause) → s.replicas ≡ m.replicas → kind p t ≡ Some (Transfer g (Pfn x) to) → IsReplicaCause p g.0 (Some (files.get s.replicas x)) C cause → IsCause apply (λ pfn. files.get m.replicas pfn) p c t cause
replica_told apply p c s m C t g x to Absent same e why = subst (λ k. IsAtPfn (λ pfn. files.get m.replicas pfn) k (λ f o. o ≡ None)) (sym e) (ap (λ r. files.get r x) (sym same) ∙ why.1)
replica_told apply p c s m C t g x to (TooLong n) same e why = subst (λ k. IsAtPfn (λ pfn. files.get m.replicas pfn) k (λ f o. IsLongAs n o)) (sym e) (ap (λ r. option_map length (files.get r x)) (sym same) ∙ why.2)
replica_told apply p c s m C t g x to HostFailed same e why = tt
replica_told apply p c s m C t g x to Memory same e why = tt
replica_told apply p c s m C t g x to cause same e why = absurd why

readings_told : (apply : Apply) (p : Plan) (c : ℕ → ℕ → Option (List ℕ)) (s m : Store) (C : ℕ → ℕ → Type 0) (t : ℕ) (k : Option TaskKind) (cause : Cause) → s.replicas ≡ m.replicas → kind p t ≡ k → RefusesReadings p k (reads p t) (Some s) C cause → IsCause apply (λ pfn. files.get m.replicas pfn) p c t cause
readings_told apply p c s m C t None cause same e why = pairs_told apply _ p c (Some s) C t cause why
readings_told apply p c s m C t (Some (Run a js)) cause same e why = pairs_told apply _ p c (Some s) C t cause why
readings_told apply p c s m C t (Some (CleanTask q)) cause same e why = pairs_told apply _ p c (Some s) C t cause why
readings_told apply p c s m C t (Some (Transfer g (Site a) to)) cause same e why = pairs_told apply _ p c (Some s) C t cause why
readings_told apply p c s m C t (Some (Transfer g (Pfn x) to)) cause same e why = replica_told apply p c s m C t g x to cause same e why

loan_told : (apply : Apply) (p : Plan) (order : List ℕ) (first r : List Event) (o : Option Store) (m : Store) (f0 m0 : ℕ) (c0 : Counts) (C : ℕ → ℕ → Type 0) (t : ℕ) (cause : Cause) → IsKept apply p order first r o m f0 m0 c0 → IsLoanCause p (kind p t) (reads p t) o cause C → IsTold apply p m o t cause
loan_told apply p order first r None m f0 m0 c0 C t cause k why = tt
loan_told apply p order first r (Some s) m f0 m0 c0 C t cause k (inr why) = host_told apply _ p _ C t cause why
loan_told apply p order first r (Some s) m f0 m0 c0 C t cause k (inl why) =
    readings_told apply p (carries apply p m) s m C t (kind p t) cause (ap (λ z. z.replicas) k.become.is ∙ replicas_changed m k.become.made) refl why

host_lending : (C : ℕ → ℕ → Type 0) (cause : Cause) → IsHostCause C cause → IsLending cause
host_lending C HostFailed why = tt
host_lending C Memory why = tt
host_lending C cause why = absurd why

pairs_lending : (p : Plan) (qs : List ℕ) (o : Option Store) (C : ℕ → ℕ → Type 0) (cause : Cause) → IsPairsCause p qs o C cause → IsLending cause
pairs_lending p qs o C HostFailed why = tt
pairs_lending p qs o C Memory why = tt
pairs_lending p qs o C cause why = absurd why

replica_lending : (p : Plan) (f : ℕ) (found : Option (Option (List ℕ))) (C : ℕ → ℕ → Type 0) (cause : Cause) → IsReplicaCause p f found C cause → IsLending cause
replica_lending p f found C Absent why = tt
replica_lending p f found C (TooLong n) why = tt
replica_lending p f found C HostFailed why = tt
replica_lending p f found C Memory why = tt
replica_lending p f found C cause why = absurd why

lending : (p : Plan) (k : Option TaskKind) (qs : List ℕ) (o : Option Store) (C : ℕ → ℕ → Type 0) (cause : Cause) → RefusesReadings p k qs o C cause → IsLending cause
lending p None qs o C cause why = pairs_lending p qs o C cause why
lending p (Some (Run a js)) qs o C cause why = pairs_lending p qs o C cause why
lending p (Some (CleanTask q)) qs o C cause why = pairs_lending p qs o C cause why
lending p (Some (Transfer g (Site a) to)) qs o C cause why = pairs_lending p qs o C cause why
lending p (Some (Transfer g (Pfn x) to)) qs o C cause why = replica_lending p g.0 _ C cause why

loan_lending : (p : Plan) (k : Option TaskKind) (qs : List ℕ) (o : Option Store) (C : ℕ → ℕ → Type 0) (cause : Cause) → IsLoanCause p k qs o cause C → IsLending cause
loan_lending p k qs o C cause (inl why) = lending p k qs o C cause why
loan_lending p k qs o C cause (inr why) = host_lending C cause why

failing : (b : Bool) (w t : ℕ) (cause : Cause) → IsLending cause → IsFailure w t (failed b w t cause [])
failing true w t cause h = (refl, refl, h, refl)
failing false w t cause h = (refl, refl, h, refl)

-- over a book
module _ (b : Book) (q : Plan) (apply : Apply) (k : ℕ) (o n : Option Store) (m : Store) (f0 m0 : ℕ) (before now_ : Counts) (w t : ℕ) (cause : Cause) (same : q ≡ b.plan) (laws : HasBookLaws b) (kept : ∥ IsKept apply b.plan (task_numbers b.order.items) (take k b.history.events) (drop k b.history.events) o m f0 m0 before ∥₁) (opened_ : IsOpen (state_at b) w t) (later : IsLater before now_) (refused : RefusesLoan q t o before now_ cause) where
  here : RefusesLoan b.plan t o before now_ cause
  here = subst (λ z. RefusesLoan z t o before now_ cause) same refused

  pub lend_counted : IsCounted o before now_ (failure b.plan (state_at b) w t cause [])
  lend_counted = failed_counted o before now_ (is_tried_again b.plan (state_at b) t cause) w t cause []
      (loan_shows b.plan o before now_ w t cause (never_unfit b apply (take k b.history.events) (drop k b.history.events) o m f0 m0 before w t laws (parts b.history.events k) kept opened_) later here)

  pub lend_keeps : k ≤ length b.history.events → n ≡ o → ∥ IsKept apply b.plan (task_numbers b.order.items) (take k (b.history.events ++ failure b.plan (state_at b) w t cause [] ∷ [])) (drop k (b.history.events ++ failure b.plan (state_at b) w t cause [] ∷ [])) n m f0 m0 now_ ∥₁
  lend_keeps begun told =
      ∥∥₁_elim kept ∥∥₁_prop (λ y. plain_keeps apply b k o n m f0 m0 before now_ w t cause begun kept told (λ opening. loan_told apply b.plan (task_numbers b.order.items) (take k b.history.events) (drop k b.history.events) o m f0 m0 before (λ f n. AreMore here.calls f n before now_) t cause y here.why) lend_counted)

  pub lend_adds : (new : List Event) → new ≡ b.history.events ++ failure b.plan (state_at b) w t cause [] ∷ [] → Adds b.history.events new (IsFailure w t) (TakesWithin (count_parts b.plan t)) o before now_
  lend_adds new is = record { entry = failure b.plan (state_at b) w t cause []; is = is; kind = failing (is_tried_again b.plan (state_at b) t cause) w t cause (loan_lending b.plan (kind b.plan t) (reads b.plan t) o (λ f n. AreMore here.calls f n before now_) cause here.why); counted = lend_counted; calls = here.calls; takes = here.within; asked = loan_done b.plan (kind b.plan t) (reads b.plan t) o here.calls before now_ cause here.why }
