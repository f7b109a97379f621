-- The Clean of a lease.
use Rattle.std.proofs.Common.{◌≡◌, ℕ, ◌-◌, ◌≤◌, ◌<◌, inl, inr, Bool, true, false, cond, ◌&&◌, List, [], ◌∷◌, ◌++◌, map, length, length-append, drop, take, refl, sym, ap, ◌∙◌, subst, nat_eq, nat_lt, arith}
use Rattle.std.specs.Prelude.{Option, Some, None, option_map, is_some, IfSome, Err, Ok, slice_get}
use Rattle.std.specs.List.{list_any}
use Rattle.std.proofs.Math.Logic.{∥∥₁_elim}
use Rattle.outside.specs.code.Counts.{IsLater}
use Rattle.values.specs.code.SiteMap.{pair_at}
use Rattle.outside.specs.code.Store.{Change, Removes, changed_by, operation}
use Rattle.values.specs.Apply.{Apply}
use Rattle.outside.specs.declared.counts.Counts.{Counts}
use Rattle.values.specs.declared.numbers.PairId.{PairId}
use Rattle.values.specs.declared.numbers.TaskId.{TaskId}
use Rattle.outside.specs.declared.store.Store.{Store}
use Rattle.plan_core.specs.declared.plan.Plan.{Plan}
use Rattle.plan_core.specs.declared.plan.TaskKind.{TaskKind}
use Rattle.plan_core.specs.declared.plan.TaskKind.TheVariants.{Clean as CleanTask}
use Rattle.plan_core.specs.Numbers.{has}
use Rattle.plan_core.specs.code.Proper.{IsProper}
use Rattle.plan_core.specs.Words.{cleans, count_pairs, kind, kind_cleans, task_numbers, writes}
use Rattle.plan_core.proofs.TestLemmas.{both, either, is_itself, or_left, or_right}
use Rattle.storage_simulation.specs.declared.standing.Held.TheVariants.{Nothing, Stored}
use Rattle.storage_simulation.specs.declared.standing.Phase.{Phase}
use Rattle.storage_simulation.specs.declared.standing.Phase.TheVariants.{Waits, Runs, Ended}
use Rattle.storage_simulation.specs.Goods.{good_size}
use Rattle.storage_simulation.specs.Standings.{waits}
use Rattle.run_record.specs.declared.entry.Cause.{Cause}
use Rattle.run_record.specs.declared.entry.Cause.TheVariants.{HostFailed, Memory}
use Rattle.run_record.specs.Events.{Event, Grant, Arrive, End, Clean, Fail, Again, Regrant}
use Rattle.lease_book.specs.declared.book.Book.{Book}
use Rattle.lease_book.specs.Book.{failure, is_tried_again, state_at}
use Rattle.lease_rules.specs.Choice.{IsChoice}
use Rattle.lease_rules.specs.Legal.{CauseFits, Legal}
use Rattle.lease_rules.specs.code.Reading.{ends, frees, reserves, stored}
use Rattle.lease_rules.specs.State.{State, ended, now, opened}
use Rattle.site_yard.specs.code.Changes.{removal}
use Rattle.site_yard.specs.code.Failures.{AreMore, IsCounted, IsMore}
use Rattle.site_yard.specs.code.Kept.{HoldsSizes, IsKept}
use Rattle.site_yard.specs.code.Law.{HasPlanLaws, HasRecordLaws}
use Rattle.site_yard.specs.code.Leased.{failed_as}
use Rattle.site_yard.specs.code.Moving.{SweptAway}
use Rattle.plan_core.specs.Names.{pair_file_name, pair_site_name}
use Rattle.site_yard.specs.code.Places.{is_swept}
use Rattle.site_yard.specs.Trace.{operations_of, removed}
use Rattle.site_yard.specs.code.Yard.{IsStop, Leases}
use Rattle.site_yard.specs.declared.leased.Leased.{Leased}
use Rattle.site_yard.proofs.AimLemmas.{stop_told}
use Rattle.site_yard.proofs.FollowLemmas.{choice_after, is_read, not_true, sound_here}
use Rattle.site_yard.proofs.KeptLemmas.{KeepsSizes, Makes, failed, keeps, parts, told_all}
use Rattle.site_yard.proofs.CountingLemmas.{shows, shows_missing}
use Rattle.site_yard.proofs.LoanLemmas.{HasBookLaws, failed_counted, none_published, plain_keeps}
use Rattle.site_yard.proofs.NextLemmas.{clean_is, rose_none}
use Rattle.site_yard.proofs.PlaceLemmas.{pair_changed, same, same_is}
use Rattle.site_yard.proofs.PlanLemmas.{has_writer, names_apart}
use Rattle.site_yard.proofs.StoredLemmas.{free_of, held_stored, no_prop, stored_some}
use Rattle.site_yard.proofs.SuitsLemmas.{legal_suits}

at_end : (r : List Event) (e : Event) → slice_get (r ++ e ∷ []) (length r) ≡ Some e
at_end [] e = refl
at_end (x ∷ r) e = at_end r e

last_is : (r : List Event) (e : Event) → slice_get (r ++ e ∷ []) (length (r ++ e ∷ []) - 1) ≡ Some e
last_is r e =
    let long = length-append r (e ∷ []) in
    let same : length (r ++ e ∷ []) - 1 ≡ length r = omega (arith, long) in
    ap (slice_get (r ++ e ∷ [])) same ∙ at_end r e

swept_below : (p : Plan) → HasPlanLaws p → (t : ℕ) (x : PairId) → kind p t ≡ Some (CleanTask x) → x.0 < count_pairs p
swept_below p laws t x e = let h : nat_lt x.0 (count_pairs p) ≡ true = laws.kinds t (CleanTask x) e in grind (arith, h)

clean_sweeps : (p : Plan) (t : ℕ) (q : PairId) → kind p t ≡ Some (CleanTask q) → cleans p t q.0 ≡ true
clean_sweeps p t q e = ap (λ (k : Option TaskKind). kind_cleans k q.0) e ∙ is_itself q.0

-- sizes that stay where a pair is removed
sized_clean : (p : Plan) → IsProper p → HasPlanLaws p → (st : State) (w t : ℕ) (q : PairId) → kind p t ≡ Some (CleanTask q) → KeepsSizes p st (Clean w t) (Removes (pair_site_name p q.0) (pair_file_name p q.0) ∷ [])
sized_clean p proper laws st w t q e s h g n low is = by (cleans p t g) refl is
  where
    apart : (b : Bool) → (same (pair_site_name p g) (pair_site_name p q.0) && same (pair_file_name p g) (pair_file_name p q.0)) ≡ b → cleans p t g ≡ false → st.held g ≡ Stored n → option_map length (cond b None (pair_at s.scratch (pair_site_name p g) (pair_file_name p g))) ≡ Some n
    apart false at off held = h g n low held
    apart true at off held =
        let x = both (same (pair_site_name p g) (pair_site_name p q.0)) (same (pair_file_name p g) (pair_file_name p q.0)) at in
        let one : g ≡ q.0 = names_apart p proper laws g q.0 low (swept_below p laws t q e) (same_is (pair_site_name p g) (pair_site_name p q.0) x.0) (same_is (pair_file_name p g) (pair_file_name p q.0) x.1) in
        absurd (let y : true ≡ false = sym (clean_sweeps p t q e) ∙ ap (cleans p t) (sym one) ∙ off in cc)

    by : (b : Bool) → cleans p t g ≡ b → cond b Nothing (st.held g) ≡ Stored n → option_map length (pair_at (changed_by s (Removes (pair_site_name p q.0) (pair_file_name p q.0) ∷ [])).scratch (pair_site_name p g) (pair_file_name p g)) ≡ Some n
    by true off is = absurd cc
    by false off is = ap (option_map length) (pair_changed s (Removes (pair_site_name p q.0) (pair_file_name p q.0) ∷ []) (pair_site_name p g) (pair_file_name p g)) ∙ apart (same (pair_site_name p g) (pair_site_name p q.0) && same (pair_file_name p g) (pair_file_name p q.0)) refl off is

clean_made : (apply : Apply) (p : Plan) (first : List Event) (m : Store) (o : Option Store) (w t : ℕ) (q : PairId) → kind p t ≡ Some (CleanTask q) → Makes apply p first m o (Clean w t) (Removes (pair_site_name p q.0) (pair_file_name p q.0) ∷ [])
clean_made apply p first m None w t q e = λ opening. tt
clean_made apply p first m (Some s) w t q e = λ opening. (sym (ap (removal p) e), tt)

removed_once : (p : Plan) (x : ℕ) (o n : Option Store) (before now_ : Counts) → SweptAway (pair_site_name p x) (pair_file_name p x) o n before now_ (Ok tt) → AreMore 1 0 0 before now_
removed_once p x o n before now_ by = by.1

pub sweep_keeps : (b : Book) (q : Plan) (apply : Apply) (k : ℕ) (o n : Option Store) (m : Store) (f0 m0 : ℕ) (before now_ : Counts) (w t : ℕ) (x : PairId) → q ≡ b.plan → HasBookLaws b → k ≤ length b.history.events → ∥ IsKept apply b.plan (task_numbers b.order.items) (take k b.history.events) (drop k b.history.events) o m f0 m0 before ∥₁ → kind b.plan t ≡ Some (CleanTask x) → IsLater before now_ → SweptAway (pair_site_name q x.0) (pair_file_name q x.0) o n before now_ (Ok tt)
    → ∥ IsKept apply b.plan (task_numbers b.order.items) (take k (b.history.events ++ Clean w t ∷ [])) (drop k (b.history.events ++ Clean w t ∷ [])) n m f0 m0 now_ ∥₁
sweep_keeps b q apply k o n m f0 m0 before now_ w t x same_ laws begun kept e later by =
    let cs : List Change = Removes (pair_site_name b.plan x.0) (pair_file_name b.plan x.0) ∷ [] in
    keeps apply b.plan (task_numbers b.order.items) b.history.events k (Clean w t) o n m f0 m0 before now_ cs begun kept
    (subst (λ p. SweptAway (pair_site_name p x.0) (pair_file_name p x.0) o n before now_ (Ok tt)) same_ by).0
    (told_all (map operation cs ≡ operations_of b.plan (Clean w t)) o (sym (ap (removed b.plan) e)))
    (clean_made apply b.plan (take k b.history.events) m o w t x e) (told_all (KeepsSizes b.plan (state_at b) (Clean w t) cs) o (sized_clean b.plan b.proper laws.plans (state_at b) w t x e)) (rose_none o 1 before now_ (Clean w t) refl refl (removed_once b.plan x.0 o n before now_ (subst (λ p. SweptAway (pair_site_name p x.0) (pair_file_name p x.0) o n before now_ (Ok tt)) same_ by)) later)

-- the pair of a Clean that is the Choice stands in the store
has_split : (before later : List ℕ) (t : ℕ) → has (before ++ t ∷ later) t ≡ true
has_split [] later t = or_left (nat_eq t t) (has later t) (is_itself t)
has_split (x ∷ before) later t = or_right (nat_eq x t) (has (before ++ t ∷ later) t) (has_split before later t)

choice_in : (p : Plan) (s : State) (t : ℕ) → IsChoice p s t → has s.rest t ≡ true
choice_in p s t choice = ap (λ (l : List ℕ). has l t) choice.is ∙ has_split choice.before choice.later t

not_both : (x : Phase) → waits x ≡ true → ended x ≡ true → ⊥
not_both Waits h k = absurd cc
not_both Runs h k = absurd cc
not_both Ended h k = absurd cc

cleaned_ends : (p : Plan) (t q : ℕ) (e : Event) → ((u : ℕ) → cleans p u q ≡ true → u ≡ t) → frees p q e ≡ true → ends t e ≡ true
cleaned_ends p t q (Grant w u) one f = absurd cc
cleaned_ends p t q (Regrant w u) one f = absurd cc
cleaned_ends p t q (Arrive w u n) one f = absurd cc
cleaned_ends p t q (End w u ns) one f = absurd cc
cleaned_ends p t q (Fail w u c ns) one f = absurd cc
cleaned_ends p t q (Again w u c ns) one f = absurd cc
cleaned_ends p t q (Clean w u) one f = ap (λ x. nat_eq x t) (one u f) ∙ is_itself t

swept_ends : (p : Plan) (t q : ℕ) (r : List Event) → ((u : ℕ) → cleans p u q ≡ true → u ≡ t) → is_swept p r q ≡ true → list_any (ends t) r ≡ true
unfolding is_swept
swept_ends p t q [] one f = absurd cc
swept_ends p t q (e ∷ r) one f = elim (either (frees p q e) (list_any (frees p q) r) f) [
  | inl d ↦ or_left (ends t e) (list_any (ends t) r) (cleaned_ends p t q e one d)
  | inr d ↦ or_right (ends t e) (list_any (ends t) r) (swept_ends p t q r one d)
]

module _ (p : Plan) (proper : IsProper p) (plan_laws : HasPlanLaws p) (order : List ℕ) (laws : HasRecordLaws p order) (r : List Event) (s : Store) (legal : Legal p order r) (sized : HoldsSizes p (now p order r).held s) where
  choice_not_ended : (t : ℕ) → IsChoice p (now p order r) t → list_any (ends t) r ≡ true → ⊥
  choice_not_ended t choice e =
      let st : State = now p order r in
      let waits_ = (sound_here p plan_laws order laws r legal).safe.waiting t (choice_in p st t choice) in
      let ended_ : ended (st.phase t) ≡ true = (is_read p plan_laws order laws r legal).ended t ∙ e in
      not_both (st.phase t) waits_ ended_

  cleaned_there : (t : ℕ) (q : PairId) → IsChoice p (now p order r) t → kind p t ≡ Some (CleanTask q) → pair_at s.scratch (pair_site_name p q.0) (pair_file_name p q.0) ≡ None → ⊥
  cleaned_there t q choice e none =
      let it = clean_sweeps p t q e in
      let low = swept_below p plan_laws t q e in
      let writer = has_writer p plan_laws q.0 low in
      let u : ℕ = writer.0 in
      let end = choice_after p plan_laws order laws r t u legal choice (plan_laws.cleans_after t u q.0 it (or_left (has (writes p u) q.0) _ writer.1)) in
      let free = not_true (is_swept p r q.0) (λ f. choice_not_ended t choice (swept_ends p t q.0 r (λ v h. proper.flow.one_clean v t q.0 h it) f)) in
      let is = held_stored (list_any (frees p q.0) r) (stored p r q.0) (list_any (reserves p q.0) r) (good_size p q.0) (free_of p r q.0 free) (stored_some p plan_laws r u q.0 (legal_suits p (opened order) r legal) writer.1 end) in
      let held = (is_read p plan_laws order laws r legal).held q.0 ∙ is.1 in
      absurd (let x = sym (ap (option_map length) none) ∙ sized q.0 is.0 low held in cc)

sized_told : (p : Plan) (order : List ℕ) (h : List Event) (k : ℕ) (apply : Apply) (o : Option Store) (m s : Store) (f0 m0 : ℕ) (c : Counts) → o ≡ Some s → IsKept apply p order (take k h) (drop k h) o m f0 m0 c → HoldsSizes p (now p order h).held s
sized_told p order h k apply o m s f0 m0 c e kept = subst (λ (l : List Event). HoldsSizes p (now p order l).held s) (parts h k) (subst (λ z. IfSome z (HoldsSizes p (now p order (take k h ++ drop k h)).held)) e kept.sized)

never_absent : (b : Book) (apply : Apply) (k : ℕ) (o : Option Store) (m : Store) (f0 m0 : ℕ) (c : Counts) (t : ℕ) (q : PairId) → HasBookLaws b → ∥ IsKept apply b.plan (task_numbers b.order.items) (take k b.history.events) (drop k b.history.events) o m f0 m0 c ∥₁ → IsChoice b.plan (state_at b) t → kind b.plan t ≡ Some (CleanTask q) → (s : Store) → o ≡ Some s → pair_at s.scratch (pair_site_name b.plan q.0) (pair_file_name b.plan q.0) ≡ None → ⊥
never_absent b apply k o m f0 m0 c t q laws kept choice e s is none =
    ∥∥₁_elim b.kept.legal no_prop (λ l. ∥∥₁_elim kept no_prop (λ x.
    cleaned_there b.plan b.proper laws.plans (task_numbers b.order.items) laws.records b.history.events s l (sized_told b.plan (task_numbers b.order.items) b.history.events k apply o m s f0 m0 c is x) t q choice e none))

-- what a removal that was refused says
missed_none : (o : Option Store) (before now_ : Counts) (w t : ℕ) (site name : List ℕ) → IsLater before now_ → ((s : Store) → o ≡ Some s → pair_at s.scratch site name ≡ None → ⊥) → AreMore 0 0 1 before now_ → IfSome o (λ s. pair_at s.scratch site name ≡ None) → IsCounted o before now_ (Fail w t HostFailed [])
missed_none None before now_ w t site name later never missed gone = shows_missing 0 before now_ (Fail w t HostFailed []) refl refl missed later
missed_none (Some s) before now_ w t site name later never missed gone = absurd (never s refl gone)

swept_counted : (o n : Option Store) (before now_ : Counts) (w t : ℕ) (site name : List ℕ) (cause : Cause) → IsLater before now_ → ((s : Store) → o ≡ Some s → pair_at s.scratch site name ≡ None → ⊥) → SweptAway site name o n before now_ (Err cause) → IsCounted o before now_ (Fail w t cause [])
swept_counted o n before now_ w t site name HostFailed later never (inl failed_, is) = shows o 0 1 0 before now_ (Fail w t HostFailed []) refl refl failed_ later
swept_counted o n before now_ w t site name HostFailed later never (inr missed, is) = missed_none o before now_ w t site name later never missed.0 missed.1
swept_counted o n before now_ w t site name Memory later never why = shows o 0 0 0 before now_ (Fail w t Memory []) refl refl why.0 later
swept_counted o n before now_ w t site name cause later never why = absurd why

swept_none : (site name : List ℕ) (o n : Option Store) (before now_ : Counts) (cause : Cause) → SweptAway site name o n before now_ (Err cause) → IsMore 0 before.done now_.done
swept_none site name o n before now_ HostFailed (inl failed_, is) = failed_.done_is
swept_none site name o n before now_ HostFailed (inr missed, is) = missed.0.done_is
swept_none site name o n before now_ Memory why = why.0.done_is
swept_none site name o n before now_ cause why = absurd why

swept_same : (site name : List ℕ) (o n : Option Store) (before now_ : Counts) (cause : Cause) → SweptAway site name o n before now_ (Err cause) → n ≡ o
swept_same site name o n before now_ HostFailed why = why.1
swept_same site name o n before now_ Memory why = why.1
swept_same site name o n before now_ cause why = absurd why

pub swept_tells : (site name : List ℕ) (o n : Option Store) (before now_ : Counts) (cause : Cause) → SweptAway site name o n before now_ (Err cause) → is_some n ≡ is_some o
swept_tells site name o n before now_ cause why = ap is_some (swept_same site name o n before now_ cause why)

swept_stop : (site name : List ℕ) (o n : Option Store) (before now_ : Counts) (cause : Cause) → SweptAway site name o n before now_ (Err cause) → IsStop cause
swept_stop site name o n before now_ HostFailed why = tt
swept_stop site name o n before now_ Memory why = tt
swept_stop site name o n before now_ cause why = absurd why

pub sweep_fits : (p : Plan) (site name : List ℕ) (o n : Option Store) (before now_ : Counts) (t : ℕ) (cause : Cause) → SweptAway site name o n before now_ (Err cause) → CauseFits p t cause []
sweep_fits p site name o n before now_ t HostFailed why = none_published p t
sweep_fits p site name o n before now_ t Memory why = none_published p t
sweep_fits p site name o n before now_ t cause why = absurd why

module _ (b : Book) (q : Plan) (apply : Apply) (k : ℕ) (o n : Option Store) (m : Store) (f0 m0 : ℕ) (before now_ : Counts) (w : ℕ) (t : TaskId) (x : PairId) (cause : Cause) (same_ : q ≡ b.plan) (laws : HasBookLaws b) (kept : ∥ IsKept apply b.plan (task_numbers b.order.items) (take k b.history.events) (drop k b.history.events) o m f0 m0 before ∥₁) (choice : IsChoice b.plan (state_at b) t.0) (e : kind b.plan t.0 ≡ Some (CleanTask x)) (later : IsLater before now_) (by : SweptAway (pair_site_name q x.0) (pair_file_name q x.0) o n before now_ (Err cause)) where
  here : SweptAway (pair_site_name b.plan x.0) (pair_file_name b.plan x.0) o n before now_ (Err cause)
  here = subst (λ p. SweptAway (pair_site_name p x.0) (pair_file_name p x.0) o n before now_ (Err cause)) same_ by

  none_done : IsMore 0 before.done now_.done
  none_done = swept_none (pair_site_name q x.0) (pair_file_name q x.0) o n before now_ cause by

  shown : IsCounted o before now_ (Fail w t.0 cause [])
  shown = swept_counted o n before now_ w t.0 (pair_site_name b.plan x.0) (pair_file_name b.plan x.0) cause later (never_absent b apply k o m f0 m0 before t.0 x laws kept choice e) here

  pub sweep_stops : k ≤ length b.history.events → ∥ IsKept apply b.plan (task_numbers b.order.items) (take k (b.history.events ++ failure b.plan (state_at b) w t.0 cause [] ∷ [])) (drop k (b.history.events ++ failure b.plan (state_at b) w t.0 cause [] ∷ [])) n m f0 m0 now_ ∥₁
  sweep_stops begun = plain_keeps apply b k o n m f0 m0 before now_ w t.0 cause begun kept (swept_same (pair_site_name q x.0) (pair_file_name q x.0) o n before now_ cause by)
      (λ opening. stop_told apply b.plan m o t.0 cause (swept_stop (pair_site_name q x.0) (pair_file_name q x.0) o n before now_ cause by))
      (failed_counted o before now_ (is_tried_again b.plan (state_at b) t.0 cause) w t.0 cause [] shown)

  answers : (again : Bool) (new : List Event) → new ≡ b.history.events ++ failed again w t.0 cause [] ∷ [] → Leases b.plan (state_at b) w b.history.events new o before now_ (failed_as t (Some (failed again w t.0 cause [])))
  answers true new is = (choice, clean_is b.plan t.0 x e, record { entry = Again w t.0 cause []; is = is; kind = (refl, refl, swept_stop (pair_site_name q x.0) (pair_file_name q x.0) o n before now_ cause by); counted = failed_counted o before now_ true w t.0 cause [] shown; calls = 0; takes = refl; asked = none_done })
  answers false new is = (choice, clean_is b.plan t.0 x e, record { entry = Fail w t.0 cause []; is = is; kind = (refl, refl, swept_stop (pair_site_name q x.0) (pair_file_name q x.0) o n before now_ cause by); counted = shown; calls = 0; takes = refl; asked = none_done })

  pub sweep_answers : (new : List Event) (answer : Leased) → new ≡ b.history.events ++ failure b.plan (state_at b) w t.0 cause [] ∷ [] → answer ≡ failed_as t (slice_get new (length new - 1)) → Leases b.plan (state_at b) w b.history.events new o before now_ answer
  sweep_answers new answer is said =
      subst (Leases b.plan (state_at b) w b.history.events new o before now_) (sym (said ∙ ap (λ (l : List Event). failed_as t (slice_get l (length l - 1))) is ∙ ap (failed_as t) (last_is b.history.events (failure b.plan (state_at b) w t.0 cause []))))
      (answers (is_tried_again b.plan (state_at b) t.0 cause) new is)
