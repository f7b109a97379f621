-- What the calls with a loan keep.
use Rattle.std.proofs.Common.{◌≡◌, ℕ, ◌≤◌, ◌<◌, inl, inr, Bool, true, false, cond, List, [], ◌∷◌, ◌++◌, map, length, drop, take, refl, ap, ◌∙◌, subst, nat_eq, arith}
use Rattle.std.specs.Prelude.{Option, Some, None, option_map}
use Rattle.std.specs.FinMap as files
use Rattle.std.proofs.Math.Logic.{∥∥₁_elim}
use Rattle.std.specs.Coded.{le_prop}
use Rattle.outside.specs.code.Counts.{IsLater}
use Rattle.values.specs.Apply.{Apply}
use Rattle.outside.specs.declared.counts.Counts.{Counts}
use Rattle.outside.specs.declared.store.Store.{Store}
use Rattle.outside.specs.code.Store.{changed_by, operation}
use Rattle.outside.specs.code.Parts.{DraftState, ReadState, draft_faults, part_faults, reading_faults}
use Rattle.plan_core.specs.declared.plan.Plan.{Plan}
use Rattle.plan_core.specs.declared.plan.TaskKind.{TaskKind}
use Rattle.plan_core.specs.declared.plan.TaskKind.TheVariants.{Transfer, Run, Clean as CleanTask}
use Rattle.plan_core.specs.declared.plan.Source.TheVariants.{Pfn, Site}
use Rattle.plan_core.specs.code.Proper.{IsProper}
use Rattle.plan_core.specs.Words.{kind, reads, task_numbers, writes}
use Rattle.run_record.specs.declared.entry.Cause.{Cause}
use Rattle.run_record.specs.declared.entry.Cause.TheVariants.{Absent, TooLong, Checksum, Oversize, Declined, ToolFailed, HostFailed, Memory}
use Rattle.run_record.specs.Events.{Event, Grant, Arrive, End, Clean, Fail, Again, Regrant}
use Rattle.lease_book.specs.declared.book.Book.{Book}
use Rattle.lease_book.specs.Book.{failure, is_tried_again, state_at}
use Rattle.lease_rules.specs.code.Law.{FitsFromStart}
use Rattle.lease_rules.specs.Legal.{Allowed, ArePublished, CauseFits, IsOpen, Legal, LegalFrom, is_from_pfn, is_too_long, is_too_long_for}
use Rattle.lease_rules.specs.State.{State, after, holder_after, now, now_from, opened}
use Rattle.site_yard.specs.Changes.{carries}
use Rattle.site_yard.specs.code.Changes.{changes_of}
use Rattle.site_yard.specs.code.Failures.{AreMore, IsCounted}
use Rattle.site_yard.specs.code.Kept.{IsKept, IsOpening}
use Rattle.site_yard.specs.code.Law.{HasPlanLaws, HasRecordLaws}
use Rattle.site_yard.specs.code.Lending.{IsHostCause, IsLoanCause, IsPairsCause, IsReplicaCause, RefusesLoan, RefusesReadings}
use Rattle.site_yard.specs.Trace.{operations_of, published_at}
use Rattle.site_yard.specs.code.Truthful.{IsCause, IsTrue}
use Rattle.site_yard.specs.code.Yard.{IsBehind, IsTold, IsWorkers}
use Rattle.site_yard.proofs.KeptLemmas.{KeepsSizes, Makes, failed, keeps, sized_failed, told_all}
use Rattle.site_yard.proofs.CountingLemmas.{more_then, shows}

-- the laws of a book's plan and of its records
pub record HasBookLaws (b : Book) : Type 0 where
  pub plans : HasPlanLaws b.plan
  pub records : HasRecordLaws b.plan (task_numbers b.order.items)

pub book_laws : (b : Book) → ((p : Plan) → IsProper p → HasPlanLaws p) → ((p : Plan) (order : List ℕ) → IsProper p → FitsFromStart p order → HasRecordLaws p order) → HasBookLaws b
book_laws b plans records = record { plans = plans b.plan b.proper; records = records b.plan (task_numbers b.order.items) b.proper b.kept.fits }

-- every worker is below 16
put_small : (f : ℕ → ℕ) (u w t : ℕ) → w < 16 → ((x : ℕ) → f x < 16) → cond (nat_eq u t) w (f t) < 16
put_small f u w t a h = by (nat_eq u t)
  where
    by : (b : Bool) → cond b w (f t) < 16
    by true = a
    by false = h t

holder_small : (p : Plan) (s : State) (e : Event) → Allowed p s e → ((x : ℕ) → s.holder x < 16) → (t : ℕ) → holder_after e s.holder t < 16
holder_small p s (Grant w u) a h t = put_small s.holder u w t a.0 h
holder_small p s (Regrant w u) a h t = put_small s.holder u w t a.0 h
holder_small p s (Arrive w u n) a h t = h t
holder_small p s (End w u ns) a h t = h t
holder_small p s (Clean w u) a h t = h t
holder_small p s (Fail w u c ns) a h t = h t
holder_small p s (Again w u c ns) a h t = h t

holders_small : (p : Plan) (s : State) (r : List Event) → LegalFrom p s r → ((x : ℕ) → s.holder x < 16) → (t : ℕ) → (now_from p s r).holder t < 16
holders_small p s [] l h t = h t
holders_small p s (e ∷ r) l h t = holders_small p (after p s e) r l.1 (holder_small p s e l.0 h) t

zero_small : (x : ℕ) → 0 < 16
zero_small x = omega arith

open_worker : (p : Plan) (order : List ℕ) (r : List Event) (w t : ℕ) → Legal p order r → IsOpen (now p order r) w t → w < 16
open_worker p order r w t legal opened_ = subst (λ z. z < 16) opened_.holds (holders_small p (opened order) r legal zero_small t)

pub worker_low : (b : Book) (w t : ℕ) → IsOpen (state_at b) w t → w < 16
worker_low b w t opened_ = ∥∥₁_elim b.kept.legal (hlevel le_prop) (λ l. open_worker b.plan (task_numbers b.order.items) b.history.events w t l opened_)

-- what a failure says of counts, tried again or not
pub failed_counted : (o : Option Store) (before now_ : Counts) (b : Bool) (w t : ℕ) (cause : Cause) (ns : List ℕ) → IsCounted o before now_ (Fail w t cause ns) → IsCounted o before now_ (failed b w t cause ns)
failed_counted None before now_ true w t cause ns h = h
failed_counted (Some s) before now_ true w t cause ns h = h
failed_counted o before now_ false w t cause ns h = h

-- a cause that a worker tells
pub abandoned : (rs : List ReadState) (ds : List DraftState) (before mid now_ : Counts) → AreMore 0 (reading_faults rs) 0 before mid → AreMore 0 (draft_faults ds) 0 mid now_ → IsLater mid now_ → AreMore 0 (part_faults rs ds) 0 before now_
abandoned rs ds before mid now_ first second later = more_then 0 0 0 (reading_faults rs) (draft_faults ds) (part_faults rs ds) 0 0 0 before mid now_ (omega arith) (omega arith) (omega arith) first second later

pub abandon_counted : (o : Option Store) (rs : List ReadState) (ds : List DraftState) (before now_ : Counts) (b : Bool) (w t : ℕ) (cause : Cause) → IsWorkers cause → IsBehind rs ds cause → AreMore 0 (part_faults rs ds) 0 before now_ → IsLater before now_ → IsCounted o before now_ (failed b w t cause [])
abandon_counted o rs ds before now_ b w t cause own behind more later = failed_counted o before now_ b w t cause [] (by cause own behind)
  where
    by : (cause : Cause) → IsWorkers cause → IsBehind rs ds cause → IsCounted o before now_ (Fail w t cause [])
    by Absent own behind = absurd own
    by (TooLong n) own behind = absurd own
    by (Checksum d) own behind = shows o 0 (part_faults rs ds) 0 before now_ (Fail w t (Checksum d) []) behind refl more later
    by (Oversize j f n) own behind = shows o 0 (part_faults rs ds) 0 before now_ (Fail w t (Oversize j f n) []) behind refl more later
    by (Declined j) own behind = shows o 0 (part_faults rs ds) 0 before now_ (Fail w t (Declined j) []) behind refl more later
    by (ToolFailed j) own behind = shows o 0 (part_faults rs ds) 0 before now_ (Fail w t (ToolFailed j) []) behind refl more later
    by HostFailed own behind = shows o 0 (part_faults rs ds) 0 before now_ (Fail w t HostFailed []) behind refl more later
    by Memory own behind = shows o 0 (part_faults rs ds) 0 before now_ (Fail w t Memory []) behind refl more later

failed_changes : (p : Plan) (c : ℕ → ℕ → Option (List ℕ)) (b : Bool) (w t : ℕ) (cause : Cause) → [] ≡ changes_of p c (failed b w t cause [])
failed_changes p c true w t cause = refl
failed_changes p c false w t cause = refl

pub failed_operations : (p : Plan) (b : Bool) (w t : ℕ) (cause : Cause) → map operation [] ≡ operations_of p (failed b w t cause [])
failed_operations p true w t cause = by (writes p t)
  where
    by : (qs : List ℕ) → [] ≡ published_at p qs []
    by [] = refl
    by (q ∷ qs) = refl
failed_operations p false w t cause = by (writes p t)
  where
    by : (qs : List ℕ) → [] ≡ published_at p qs []
    by [] = refl
    by (q ∷ qs) = refl

failed_true : (apply : Apply) (told : List ℕ → Option (List ℕ)) (p : Plan) (c : ℕ → ℕ → Option (List ℕ)) (b : Bool) (w t : ℕ) (cause : Cause) → IsCause apply told p c t cause → IsTrue apply told p c (failed b w t cause [])
failed_true apply told p c true w t cause is = refl
failed_true apply told p c false w t cause is = (refl, is)

pub failed_made : (apply : Apply) (p : Plan) (first : List Event) (m : Store) (o : Option Store) (b : Bool) (w t : ℕ) (cause : Cause) → (IsOpening apply p first m → IsTold apply p m o t cause) → Makes apply p first m o (failed b w t cause []) []
failed_made apply p first m None b w t cause told = λ opening. tt
failed_made apply p first m (Some s) b w t cause told = λ opening. (failed_changes p (carries apply p m) b w t cause, failed_true apply (λ pfn. files.get m.replicas pfn) p (carries apply p m) b w t cause (told opening))

unchanged_as : (o n : Option Store) → n ≡ o → n ≡ option_map (λ s. changed_by s []) o
unchanged_as None n e = e
unchanged_as (Some s) n e = e

-- a failure by which nothing that is told changes
pub plain_keeps : (apply : Apply) (b : Book) (k : ℕ) (o n : Option Store) (m : Store) (f0 m0 : ℕ) (before now_ : Counts) (w t : ℕ) (cause : Cause) → k ≤ length b.history.events → ∥ IsKept apply b.plan (task_numbers b.order.items) (take k b.history.events) (drop k b.history.events) o m f0 m0 before ∥₁
    → n ≡ o → (IsOpening apply b.plan (take k b.history.events) m → IsTold apply b.plan m o t cause) → IsCounted o before now_ (failure b.plan (state_at b) w t cause [])
    → ∥ IsKept apply b.plan (task_numbers b.order.items) (take k (b.history.events ++ failure b.plan (state_at b) w t cause [] ∷ [])) (drop k (b.history.events ++ failure b.plan (state_at b) w t cause [] ∷ [])) n m f0 m0 now_ ∥₁
plain_keeps apply b k o n m f0 m0 before now_ w t cause begun kept same told counted =
    let again = is_tried_again b.plan (state_at b) t cause in
    keeps apply b.plan (task_numbers b.order.items) b.history.events k (failed again w t cause []) o n m f0 m0 before now_ [] begun kept (unchanged_as o n same) (told_all (map operation [] ≡ operations_of b.plan (failed again w t cause [])) o (failed_operations b.plan again w t cause))
    (failed_made apply b.plan (take k b.history.events) m o again w t cause told) (told_all (KeepsSizes b.plan (state_at b) (failed again w t cause []) []) o (sized_failed b.plan (state_at b) again w t cause [])) counted

-- a refused loan
pub none_published : (p : Plan) (t : ℕ) → ArePublished p t []
none_published p t = (λ h. refl, tt)

replica_fits : (p : Plan) (t f : ℕ) (x : List ℕ) (g : _) (to : _) (found : Option (Option (List ℕ))) (C : ℕ → ℕ → Type 0) (cause : Cause) → kind p t ≡ Some (Transfer g (Pfn x) to) → g.0 ≡ f → IsReplicaCause p f found C cause → CauseFits p t cause []
replica_fits p t f x g to found C Absent e same h = (ap is_from_pfn e, refl)
replica_fits p t f x g to found C (TooLong n) e same h = (ap is_from_pfn e, ap (λ k. is_too_long_for p k n) e ∙ ap (λ z. is_too_long p z n) same ∙ h.1, refl)
replica_fits p t f x g to found C HostFailed e same h = none_published p t
replica_fits p t f x g to found C Memory e same h = none_published p t
replica_fits p t f x g to found C cause e same h = absurd h

host_fits : (p : Plan) (t : ℕ) (C : ℕ → ℕ → Type 0) (cause : Cause) → IsHostCause C cause → CauseFits p t cause []
host_fits p t C HostFailed h = none_published p t
host_fits p t C Memory h = none_published p t
host_fits p t C cause h = absurd h

pairs_fit : (p : Plan) (t : ℕ) (qs : List ℕ) (o : Option Store) (C : ℕ → ℕ → Type 0) (cause : Cause) → IsPairsCause p qs o C cause → CauseFits p t cause []
pairs_fit p t qs o C HostFailed h = none_published p t
pairs_fit p t qs o C Memory h = none_published p t
pairs_fit p t qs o C cause h = absurd h

readings_fit : (p : Plan) (t : ℕ) (k : Option TaskKind) (o : Option Store) (C : ℕ → ℕ → Type 0) (cause : Cause) → kind p t ≡ k → RefusesReadings p k (reads p t) o C cause → CauseFits p t cause []
readings_fit p t None o C cause e h = pairs_fit p t (reads p t) o C cause h
readings_fit p t (Some (Run a js)) o C cause e h = pairs_fit p t (reads p t) o C cause h
readings_fit p t (Some (CleanTask q)) o C cause e h = pairs_fit p t (reads p t) o C cause h
readings_fit p t (Some (Transfer g (Site a) to)) o C cause e h = pairs_fit p t (reads p t) o C cause h
readings_fit p t (Some (Transfer g (Pfn x) to)) o C cause e h = replica_fits p t g.0 x g to _ C cause e refl h

cause_fits : (p : Plan) (t : ℕ) (o : Option Store) (C : ℕ → ℕ → Type 0) (cause : Cause) → IsLoanCause p (kind p t) (reads p t) o cause C → CauseFits p t cause []
cause_fits p t o C cause (inl h) = readings_fit p t (kind p t) o C cause refl h
cause_fits p t o C cause (inr h) = host_fits p t C cause h

pub lend_fits : (p q : Plan) (t : ℕ) (o : Option Store) (before now_ : Counts) (cause : Cause) → q ≡ p → RefusesLoan q t o before now_ cause → CauseFits p t cause []
lend_fits p q t o before now_ cause same refused = subst (λ z. CauseFits z t cause []) same (cause_fits q t o (λ f m. AreMore refused.calls f m before now_) cause refused.why)
