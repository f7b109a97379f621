-- What the settling of a loan asks of the book, and what it adds.
use Rattle.std.proofs.Common.{◌≡◌, ℕ, zero, suc, ◌+◌, ◌-◌, ◌≤◌, ◌<◌, ◌⊎◌, inl, inr, Bool, true, false, cond, List, [], ◌∷◌, ◌++◌, map, length, get_or, take, refl, sym, ap, ◌∙◌, subst, nat_eq, nat_lt, arith}
use Rattle.std.specs.Prelude.{Option, Some, None, slice_get}
use Rattle.std.proofs.Math.Logic.{∥∥₁_elim}
use Rattle.std.proofs.Props.{props}
use Rattle.std.proofs.lemmas.List.{length-map}
use Rattle.outside.specs.code.Counts.{IsLater}
use Rattle.outside.specs.declared.counts.Counts.{Counts}
use Rattle.outside.specs.declared.host.HostFault.{HostFault}
use Rattle.outside.specs.declared.host.HostFault.TheVariants as fault
use Rattle.outside.specs.declared.store.Store.{Store}
use Rattle.outside.specs.code.Parts.{DraftState, ReadState, draft_faults, part_faults, reading_faults}
use Rattle.site_yard.specs.code.Returning.{IsRefused, refusal_faults}
use Rattle.plan_core.specs.declared.plan.Plan.{Plan}
use Rattle.plan_core.specs.declared.plan.Task.{Task}
use Rattle.plan_core.specs.declared.plan.TaskKind.{TaskKind}
use Rattle.plan_core.specs.declared.plan.TaskKind.TheVariants.{Transfer, Run, Clean as CleanTask}
use Rattle.plan_core.specs.declared.plan.Target.TheVariants.{Site as Into, Delivery}
use Rattle.plan_core.specs.Numbers.{has}
use Rattle.plan_core.specs.code.Proper.{IsProper}
use Rattle.plan_core.proofs.TestLemmas.{is_itself, or_left, or_right}
use Rattle.plan_core.specs.Words.{count_pairs, count_tasks, declared, is_clean_kind, is_run, is_run_kind, is_transfer, is_transfer_kind, kind, kind_in, pair, task_numbers, writes}
use Rattle.storage_simulation.specs.Goods.{delivered_size, good_size, is_delivery, is_delivery_kind, kind_size, makes, or_zero, pair_size}
use Rattle.run_record.specs.declared.entry.Cause.{Cause}
use Rattle.run_record.specs.declared.entry.Cause.TheVariants.{HostFailed, Memory}
use Rattle.run_record.specs.Events.{Event, Arrive, End, Fail}
use Rattle.lease_book.specs.declared.book.Book.{Book}
use Rattle.lease_book.specs.Book.{failure, is_tried_again, state_at}
use Rattle.lease_rules.specs.Legal.{Allowed, AreDeclared, AreOfFirst, ArePublished, CauseFits, IsOpen, Legal}
use Rattle.lease_rules.specs.State.{now}
use Rattle.site_yard.specs.code.Failures.{AreMore, IsCounted, IsMore}
use Rattle.site_yard.specs.code.Law.{HasPlanLaws, HasRecordLaws}
use Rattle.site_yard.specs.code.Lending.{IsHostCause}
use Rattle.values.specs.Apply.{Apply}
use Rattle.lease_rules.specs.code.Storing.{pair_limit}
use Rattle.site_yard.specs.code.Loan.{Aim, AreDrafts, AreSmall, CanSettle, draft_size, pair_target, targets, targets_in}
use Rattle.site_yard.specs.code.Moving.{scratch_cause}
use Rattle.site_yard.specs.code.Yard.{Adds, IsSettled, IsStop, TakesPublished}
use Rattle.site_yard.proofs.CountingLemmas.{more_then, shows}
use Rattle.site_yard.proofs.AimLemmas.{length_take}
use Rattle.site_yard.proofs.KeptLemmas.{failed}
use Rattle.site_yard.proofs.LoanLemmas.{HasBookLaws, failed_counted, worker_low}
use Rattle.site_yard.proofs.PlanLemmas.{not_none, transfer_writes, written_below}
use Rattle.site_yard.proofs.SuitsLemmas.{good_of, run_makes}

-- as many drafts as places
pub drafts_many : (o : Option Store) (xs : List Aim) (ds : List DraftState) → AreDrafts o xs ds → length ds ≡ length xs
drafts_many o [] [] h = refl
drafts_many o [] (d ∷ ds) h = absurd h
drafts_many o (x ∷ xs) [] h = absurd h
drafts_many o (x ∷ xs) (d ∷ ds) h = ap suc (drafts_many o xs ds h.1)

-- a Transfer has one
pub one_target : (p : Plan) → IsProper p → HasPlanLaws p → (t : ℕ) (k : Option TaskKind) → kind p t ≡ k → is_transfer_kind k ≡ true → length (targets p t) ≡ 1
one_target p proper laws t None e h = absurd cc
one_target p proper laws t (Some (Run a js)) e h = absurd cc
one_target p proper laws t (Some (CleanTask q)) e h = absurd cc
one_target p proper laws t (Some (Transfer g from Delivery)) e h = rw e refl
one_target p proper laws t (Some (Transfer g from (Into a))) e h =
    let found = transfer_writes p proper laws t g from a e in
    rw e (ap (λ (l : List ℕ). length (map (pair_target p) l)) found.3)

pub sizes_many : (p : Plan) (t : ℕ) (o : Option Store) (ds : List DraftState) (sizes : List ℕ) → AreDrafts o (targets p t) ds → map draft_size ds ≡ sizes → length sizes ≡ length (targets p t)
sizes_many p t o ds sizes drafts are = sym (ap length are) ∙ length-map ds draft_size ∙ drafts_many o (targets p t) ds drafts

pub one_size : (sizes : List ℕ) (n : ℕ) → length sizes ≡ 1 → n ≡ get_or sizes 0 n → sizes ≡ n ∷ []
one_size [] n e h = absurd (omega (arith, e))
one_size (x ∷ []) n e h = ap (λ z. z ∷ []) (sym h)
one_size (x ∷ y ∷ sizes) n e h = absurd (omega (arith, e))

-- what a settling asked of the host, whose loan had no fault
pub settled_counts : (rs : List ReadState) (ds : List DraftState) (count : ℕ) (refused : Option HostFault) (start mid now_ : Counts) → part_faults rs ds ≡ 0 → AreMore 0 (reading_faults rs) 0 start mid → AreMore count (draft_faults ds + refusal_faults refused) 0 mid now_ → IsLater mid now_ → AreMore count (refusal_faults refused) 0 start now_
settled_counts rs ds count refused start mid now_ whole first second later =
    more_then 0 count count (reading_faults rs) (draft_faults ds + refusal_faults refused) (refusal_faults refused) 0 0 0 start mid now_ (omega arith) (omega (arith, whole)) (omega arith) first second later

-- a refused publishing
pub stop_cause : (count all : ℕ) (before now_ : Counts) (e : HostFault) → IsRefused count all (Some e) → AreMore count (refusal_faults (Some e)) 0 before now_ → (count < all) × IsHostCause (λ f m. AreMore count f m before now_) (scratch_cause e) × IsStop (scratch_cause e)
stop_cause count all before now_ fault.Failed why more = (why, more, tt)
stop_cause count all before now_ fault.Memory why more = (why, more, tt)
stop_cause count all before now_ e why more = absurd why

take_again : (xs : List ℕ) (k : ℕ) → take k xs ≡ take (length (take k xs)) xs
take_again [] zero = refl
take_again [] (suc k) = refl
take_again (x ∷ xs) zero = refl
take_again (x ∷ xs) (suc k) = ap (λ l. x ∷ l) (take_again xs k)

short : (xs : List ℕ) (k : ℕ) → k < length xs → length (take k xs) < length xs
short xs k l = subst (λ n. n < length xs) (sym (length_take xs k (omega (arith, l)))) l

settled : (p : Plan) (b : Bool) (w t : ℕ) (sizes : List ℕ) (k : ℕ) (cause : Cause) → IsStop cause → k < length sizes → IsSettled p w t sizes (failed b w t cause (take k sizes))
settled p true w t sizes k cause h less = (refl, refl, h, take_again sizes k, short sizes k less)
settled p false w t sizes k cause h less = (refl, refl, h, take_again sizes k, short sizes k less)

pub stop_shows : (o : Option Store) (count : ℕ) (before now_ : Counts) (w t : ℕ) (cause : Cause) (ns : List ℕ) → IsLater before now_ → IsHostCause (λ f m. AreMore count f m before now_) cause → IsCounted o before now_ (Fail w t cause ns)
stop_shows o count before now_ w t HostFailed ns later why = shows o count 1 0 before now_ (Fail w t HostFailed ns) refl refl why later
stop_shows o count before now_ w t Memory ns later why = shows o count 0 0 before now_ (Fail w t Memory ns) refl refl why later
stop_shows o count before now_ w t cause ns later why = absurd why

stop_done : (count : ℕ) (before now_ : Counts) (cause : Cause) → IsHostCause (λ f m. AreMore count f m before now_) cause → IsMore count before.done now_.done
stop_done count before now_ HostFailed why = why.done_is
stop_done count before now_ Memory why = why.done_is
stop_done count before now_ cause why = absurd why

failed_takes : (all count : ℕ) (b : Bool) (w t : ℕ) (cause : Cause) (sizes : List ℕ) → count ≤ length sizes → TakesPublished all (failed b w t cause (take count sizes)) count
failed_takes all count true w t cause sizes l = sym (length_take sizes count l)
failed_takes all count false w t cause sizes l = sym (length_take sizes count l)

pub stop_adds : (b : Book) (o : Option Store) (before now_ : Counts) (w t all : ℕ) (sizes : List ℕ) (k : ℕ) (cause : Cause) (new : List Event) → IsLater before now_ → IsHostCause (λ f m. AreMore k f m before now_) cause → IsStop cause → k < length sizes → new ≡ b.history.events ++ failure b.plan (state_at b) w t cause (take k sizes) ∷ [] → Adds b.history.events new (IsSettled b.plan w t sizes) (TakesPublished all) o before now_
stop_adds b o before now_ w t all sizes k cause new later why stop less is = record {
  entry = failure b.plan (state_at b) w t cause (take k sizes);
  is = is;
  kind = settled b.plan (is_tried_again b.plan (state_at b) t cause) w t sizes k cause stop less;
  counted = failed_counted o before now_ (is_tried_again b.plan (state_at b) t cause) w t cause (take k sizes) (stop_shows o k before now_ w t cause (take k sizes) later why);
  calls = k;
  takes = failed_takes all k (is_tried_again b.plan (state_at b) t cause) w t cause sizes (omega (arith, less));
  asked = stop_done k before now_ cause why;
}

-- sizes within the declared ones
same_id : (q : ℕ) (qs : List ℕ) → has (q ∷ qs) q ≡ true
same_id q qs = or_left (nat_eq q q) (has qs q) (is_itself q)

small_first : (p : Plan) (qs sizes : List ℕ) (k : ℕ) → ((q : ℕ) → has qs q ≡ true → q < count_pairs p) → length sizes ≡ length qs → AreSmall (map (pair_target p) qs) sizes → AreOfFirst p qs (take k sizes)
small_first p qs sizes zero low many small = none qs
  where
    none : (gs : List ℕ) → AreOfFirst p gs []
    none [] = tt
    none (g ∷ gs) = tt
small_first p [] [] (suc k) low many small = tt
small_first p [] (n ∷ sizes) (suc k) low many small = absurd (omega (arith, many))
small_first p (q ∷ qs) [] (suc k) low many small = absurd (omega (arith, many))
small_first p (q ∷ qs) (n ∷ sizes) (suc k) low many small =
    (subst (λ z. n ≤ z) (sym (good_of p q (low q (same_id q qs)))) small.0, small_first p qs sizes k (λ x h. low x (or_right (nat_eq q x) (has qs x) h)) (omega (arith, many)) small.1)

small_all : (p : Plan) (qs sizes : List ℕ) → ((q : ℕ) → has qs q ≡ true → q < count_pairs p) → length sizes ≡ length qs → AreSmall (map (pair_target p) qs) sizes → AreDeclared p qs sizes
small_all p [] [] low many small = tt
small_all p [] (n ∷ sizes) low many small = absurd (omega (arith, many))
small_all p (q ∷ qs) [] low many small = absurd (omega (arith, many))
small_all p (q ∷ qs) (n ∷ sizes) low many small =
    (subst (λ z. n ≤ z) (sym (good_of p q (low q (same_id q qs)))) small.0, small_all p qs sizes (λ x h. low x (or_right (nat_eq q x) (has qs x) h)) (omega (arith, many)) small.1)

pub run_targets : (p : Plan) (t : ℕ) (k : Option TaskKind) → kind p t ≡ k → is_run_kind k ≡ true → targets p t ≡ map (pair_target p) (writes p t)
run_targets p t None e h = absurd cc
run_targets p t (Some (Transfer g from to)) e h = absurd cc
run_targets p t (Some (CleanTask q)) e h = absurd cc
run_targets p t (Some (Run a js)) e h = rw e refl

-- what a stopped settling has published
none_first : (p : Plan) (gs : List ℕ) → AreOfFirst p gs []
none_first p [] = tt
none_first p (g ∷ gs) = tt

published_run : (p : Plan) → HasPlanLaws p → (t : ℕ) (sizes : List ℕ) (k : ℕ) → is_run p t ≡ true → length sizes ≡ length (targets p t) → AreSmall (targets p t) sizes → ArePublished p t (take k sizes)
published_run p laws t sizes k run many small =
    let same = run_targets p t (kind p t) refl run in
    let long : length sizes ≡ length (writes p t) = many ∙ ap length same ∙ length-map (writes p t) (pair_target p) in (
      λ h. absurd (let x : true ≡ false = sym run ∙ h in cc),
      subst (λ l. AreOfFirst p l (take k sizes)) (sym (run_makes p t run))
          (small_first p (writes p t) sizes k (λ q h. written_below p laws t q h) long (subst (λ l. AreSmall l sizes) same small)),
    )

published_transfer : (p : Plan) → IsProper p → HasPlanLaws p → (t : ℕ) (sizes : List ℕ) (k : ℕ) → is_transfer p t ≡ true → k < length (targets p t) → ArePublished p t (take k sizes)
published_transfer p proper laws t sizes k moves less =
    let l = one_target p proper laws t (kind p t) refl moves in
    let none : k ≡ 0 = omega (arith, l, less) in
    subst (λ n. ArePublished p t (take n sizes)) (sym none) (λ h. refl, none_first p (makes p t))

stop_fits : (p : Plan) (t : ℕ) (C : ℕ → ℕ → Type 0) (cause : Cause) (ns : List ℕ) → ArePublished p t ns → IsHostCause C cause → CauseFits p t cause ns
stop_fits p t C HostFailed ns h why = h
stop_fits p t C Memory ns h why = h
stop_fits p t C cause ns h why = absurd why

-- an open task is a Transfer or a Run
run_or_moves : (k : Option TaskKind) → is_clean_kind k ≡ false → (k ≡ None → ⊥) → (is_run_kind k ≡ true) ⊎ (is_transfer_kind k ≡ true)
run_or_moves None n some = absurd (some refl)
run_or_moves (Some (Transfer g from to)) n some = inr refl
run_or_moves (Some (Run a js)) n some = inl refl
run_or_moves (Some (CleanTask q)) n some = absurd cc

pub settle_fits : (p : Plan) → IsProper p → HasPlanLaws p → (t : ℕ) (sizes : List ℕ) (k : ℕ) (C : ℕ → ℕ → Type 0) (cause : Cause) → (is_run p t ≡ true) ⊎ (is_transfer p t ≡ true) → length sizes ≡ length (targets p t) → AreSmall (targets p t) sizes → k < length (targets p t) → IsHostCause C cause → CauseFits p t cause (take k sizes)
settle_fits p proper laws t sizes k C cause (inl run) many small less why = stop_fits p t C cause (take k sizes) (published_run p laws t sizes k run many small) why
settle_fits p proper laws t sizes k C cause (inr moves) many small less why = stop_fits p t C cause (take k sizes) (published_transfer p proper laws t sizes k moves less) why

has_kind : (p : Plan) (t : ℕ) → t < count_tasks p → kind p t ≡ None → ⊥
unfolding kind
has_kind p t l e = by (slice_get p.tasks t) refl e
  where
    by : (o : Option Task) → slice_get p.tasks t ≡ o → kind_in o ≡ None → ⊥
    by None is k = not_none p.tasks t l is
    by (Some x) is k = absurd cc

-- an open task is a Run or a Transfer
open_kind : (p : Plan) (order : List ℕ) → HasRecordLaws p order → (r : List Event) (w t : ℕ) → Legal p order r → IsOpen (now p order r) w t → (is_run p t ≡ true) ⊎ (is_transfer p t ≡ true)
open_kind p order laws r w t legal opened_ =
    let is = (laws.sound r legal).running_kind t opened_.runs in
    run_or_moves (kind p t) is.0 (has_kind p t is.1)

-- the sizes of what is settled are published by a failure, whatever kind the task is of
not_run : (k : Option TaskKind) → is_transfer_kind k ≡ false → (is_run_kind k ≡ true) ⊎ (is_transfer_kind k ≡ true) → is_run_kind k ≡ true
not_run k off (inl run) = run
not_run k off (inr moves) = absurd (let x : true ≡ false = sym moves ∙ off in cc)

kind_by : (p : Plan) (t : ℕ) (b : Bool) → is_transfer p t ≡ b → (b ≡ false → is_run p t ≡ true) → (is_run p t ≡ true) ⊎ (is_transfer p t ≡ true)
kind_by p t true e run = inr e
kind_by p t false e run = inl (run refl)

-- an open task that is no Transfer is a Run
pub open_run : (b : Book) (w t : ℕ) → HasRecordLaws b.plan (task_numbers b.order.items) → IsOpen (state_at b) w t → is_transfer b.plan t ≡ false → is_run b.plan t ≡ true
open_run b w t laws opened_ off =
    ∥∥₁_elim b.kept.legal (hlevel props) (λ l. not_run (kind b.plan t) off (open_kind b.plan (task_numbers b.order.items) laws b.history.events w t l opened_))

pub open_either : (b : Book) (w t : ℕ) → HasRecordLaws b.plan (task_numbers b.order.items) → IsOpen (state_at b) w t → (is_run b.plan t ≡ true) ⊎ (is_transfer b.plan t ≡ true)
open_either b w t laws opened_ = kind_by b.plan t (is_transfer b.plan t) refl (open_run b w t laws opened_)

-- what an End asks
pub end_allowed : (b : Book) (w t : ℕ) (sizes : List ℕ) → HasBookLaws b → IsOpen (state_at b) w t → is_transfer b.plan t ≡ false → length sizes ≡ length (targets b.plan t) → AreSmall (targets b.plan t) sizes → Allowed b.plan (state_at b) (End w t sizes)
end_allowed b w t sizes laws opened_ off many small =
    let run = open_run b w t laws.records opened_ off in
    let same = run_targets b.plan t (kind b.plan t) refl run in
    let long : length sizes ≡ length (writes b.plan t) = many ∙ ap length same ∙ length-map (writes b.plan t) (pair_target b.plan) in
    (worker_low b w t opened_, run, opened_, subst (λ l. AreDeclared b.plan l sizes) (sym (run_makes b.plan t run)) (small_all b.plan (writes b.plan t) sizes (λ q h. written_below b.plan laws.plans t q h) long (subst (λ l. AreSmall l sizes) same small)))

pub end_adds : (b : Book) (o : Option Store) (all count : ℕ) (before now_ : Counts) (w t : ℕ) (sizes : List ℕ) (new : List Event) → is_transfer b.plan t ≡ false → count ≡ all → AreMore count 0 0 before now_ → IsLater before now_ → new ≡ b.history.events ++ End w t sizes ∷ [] → Adds b.history.events new (IsSettled b.plan w t sizes) (TakesPublished all) o before now_
end_adds b o all count before now_ w t sizes new off whole more later is = record { entry = End w t sizes; is = is; kind = (refl, refl, off, refl); counted = shows o count 0 0 before now_ (End w t sizes) refl refl more later; calls = count; takes = whole; asked = more.done_is }

pub arrive_adds : (b : Book) (o : Option Store) (all count : ℕ) (before now_ : Counts) (w t n : ℕ) (sizes : List ℕ) (new : List Event) → is_transfer b.plan t ≡ true → sizes ≡ n ∷ [] → count ≡ all → AreMore count 0 0 before now_ → IsLater before now_ → new ≡ b.history.events ++ Arrive w t n ∷ [] → Adds b.history.events new (IsSettled b.plan w t sizes) (TakesPublished all) o before now_
arrive_adds b o all count before now_ w t n sizes new moves one whole more later is = record { entry = Arrive w t n; is = is; kind = (refl, refl, moves, one); counted = shows o count 0 0 before now_ (Arrive w t n) refl refl more later; calls = count; takes = whole; asked = more.done_is }

-- over the conditions of a settling
module _ (b : Book) (q : Plan) (apply : Apply) (first : List Event) (m : Store) (o : Option Store) (w t : ℕ) (rs : List ReadState) (ds : List DraftState) (sizes : List ℕ) (digest : Option (List ℕ)) (same : b.plan ≡ q) (laws : HasBookLaws b) (opened_ : IsOpen (state_at b) w t) (can : CanSettle apply q first m o t rs ds sizes digest) where
  here : CanSettle apply b.plan first m o t rs ds sizes digest
  here = subst (λ p. CanSettle apply p first m o t rs ds sizes digest) (sym same) can

  many : length sizes ≡ length (targets b.plan t)
  many = sizes_many b.plan t o ds sizes here.loan.drafts here.sizes_are

  pub drafts_are : length ds ≡ length (targets b.plan t)
  drafts_are = drafts_many o (targets b.plan t) ds here.loan.drafts

  pub refused_fits : (k : ℕ) (start now_ : Counts) (e : HostFault) (cause : Cause) → cause ≡ scratch_cause e → IsRefused k (length ds) (Some e) → AreMore k (refusal_faults (Some e)) 0 start now_ → CauseFits b.plan t cause (take k sizes)
  refused_fits k start now_ e cause is why more =
      let stop = stop_cause k (length ds) start now_ e why more in
      subst (λ z. CauseFits b.plan t z (take k sizes)) (sym is)
      (settle_fits b.plan b.proper laws.plans t sizes k (λ f n. AreMore k f n start now_) (scratch_cause e) (open_either b w t laws.records opened_) many here.small (subst (λ n. k < n) drafts_are stop.0) stop.1)

  pub refused_adds : (k : ℕ) (start now_ : Counts) (e : HostFault) (cause : Cause) (new : List Event) → cause ≡ scratch_cause e → IsLater start now_ → IsRefused k (length ds) (Some e) → AreMore k (refusal_faults (Some e)) 0 start now_ → new ≡ b.history.events ++ failure b.plan (state_at b) w t cause (take k sizes) ∷ [] → Adds b.history.events new (IsSettled b.plan w t sizes) (TakesPublished (length (targets b.plan t))) o start now_
  refused_adds k start now_ e cause new is later why more added =
      let stop = stop_cause k (length ds) start now_ e why more in
      let less : k < length ds = stop.0 in
      stop_adds b o start now_ w t (length (targets b.plan t)) sizes k cause new later (subst (IsHostCause (λ f n. AreMore k f n start now_)) (sym is) stop.1) (subst IsStop (sym is) stop.2) (omega (arith, less, drafts_are, many)) added

  pub end_is_allowed : is_transfer b.plan t ≡ false → Allowed b.plan (state_at b) (End w t sizes)
  end_is_allowed off = end_allowed b w t sizes laws opened_ off many here.small

  pub one_is : is_transfer b.plan t ≡ true → length sizes ≡ 1
  one_is moves = many ∙ one_target b.plan b.proper laws.plans t (kind b.plan t) refl moves

-- a delivery's declared size
delivered_good : (p : Plan) (t : ℕ) → good_size p (count_pairs p + t) ≡ kind_size p (kind p t)
unfolding good_size delivered_size
delivered_good p t =
    let past : nat_lt (count_pairs p + t) (count_pairs p) ≡ false = grind arith in
    let back : count_pairs p + t - count_pairs p ≡ t = omega arith in
    ap (λ b. cond b (pair_size p (pair p (count_pairs p + t))) (kind_size p (kind p (count_pairs p + t - count_pairs p)))) past ∙ ap (λ z. kind_size p (kind p z)) back

-- what a Transfer makes may be as long as its one draft
arrive_small : (p : Plan) → IsProper p → HasPlanLaws p → (t n : ℕ) (k : Option TaskKind) → kind p t ≡ k → is_transfer_kind k ≡ true → AreSmall (targets p t) (n ∷ []) → (g : ℕ) → has (makes p t) g ≡ true → n ≤ good_size p g
unfolding makes is_delivery
arrive_small p proper laws t n None e h small g made = absurd cc
arrive_small p proper laws t n (Some (Run a js)) e h small g made = absurd cc
arrive_small p proper laws t n (Some (CleanTask q)) e h small g made = absurd cc
arrive_small p proper laws t n (Some (Transfer f from Delivery)) e h small g made =
    let mine : has ((count_pairs p + t) ∷ []) g ≡ true = sym (ap (λ (k : Option TaskKind). has (cond (is_delivery_kind k) ((count_pairs p + t) ∷ []) (writes p t)) g) e) ∙ made in
    let one : count_pairs p + t ≡ g = grind (arith, mine) in
    let limit : n ≤ or_zero (declared p f.0) = (subst (λ k. AreSmall (targets_in p k (writes p t)) (n ∷ [])) e small).0 in
    subst (λ z. n ≤ good_size p z) one (subst (λ z. n ≤ z) (sym (delivered_good p t ∙ ap (kind_size p) e)) limit)
arrive_small p proper laws t n (Some (Transfer f from (Into a))) e h small g made =
    let found = transfer_writes p proper laws t f from a e in
    let mine : has (found.0 ∷ []) g ≡ true = ap (λ l. has l g) (sym found.3) ∙ (sym (ap (λ (k : Option TaskKind). has (cond (is_delivery_kind k) ((count_pairs p + t) ∷ []) (writes p t)) g) e) ∙ made) in
    let one : found.0 ≡ g = grind (arith, mine) in
    let here : AreSmall (map (pair_target p) (writes p t)) (n ∷ []) = subst (λ k. AreSmall (targets_in p k (writes p t)) (n ∷ [])) e small in
    let limit : n ≤ pair_limit p found.0 = (subst (λ l. AreSmall (map (pair_target p) l) (n ∷ [])) found.3 here).0 in
    subst (λ z. n ≤ good_size p z) one (subst (λ z. n ≤ z) (sym (good_of p found.0 (written_below p laws t found.0 (subst (λ l. has l found.0 ≡ true) (sym found.3) (same_id found.0 []))))) limit)

pub arrive_is_allowed : (b : Book) (q : Plan) (apply : Apply) (first : List Event) (m : Store) (o : Option Store) (w t n : ℕ) (rs : List ReadState) (ds : List DraftState) (sizes : List ℕ) (digest : Option (List ℕ)) → b.plan ≡ q → HasBookLaws b → IsOpen (state_at b) w t → CanSettle apply q first m o t rs ds sizes digest → is_transfer b.plan t ≡ true → sizes ≡ n ∷ [] → Allowed b.plan (state_at b) (Arrive w t n)
arrive_is_allowed b q apply first m o w t n rs ds sizes digest same laws opened_ can moves one =
    let here = subst (λ p. CanSettle apply p first m o t rs ds sizes digest) (sym same) can in
    (worker_low b w t opened_, moves, opened_, arrive_small b.plan b.proper laws.plans t n (kind b.plan t) refl moves (subst (AreSmall (targets b.plan t)) one here.small))
