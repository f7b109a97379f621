-- What a Run's loan holds once it was filled, and why it wasn't.
use Rattle.std.proofs.Common.{◌≡◌, ℕ, ◌≤◌, ◌<◌, inl, inr, Bool, true, false, cond, List, [], ◌∷◌, map, length, nat_lt, refl, sym, ap, ◌∙◌, subst, arith}
use Rattle.std.specs.Prelude.{Option, Some, None, option_map, IfSome}
use Rattle.std.specs.FinMap as files
use Rattle.values.specs.Apply.{Apply}
use Rattle.outside.specs.code.Parts.{DraftState, ReadState, part_faults}
use Rattle.outside.specs.declared.store.Store.{Store}
use Rattle.plan_core.specs.declared.plan.Plan.{Plan}
use Rattle.plan_core.specs.declared.plan.TaskKind.{TaskKind}
use Rattle.plan_core.specs.declared.plan.TaskKind.TheVariants.{Transfer, Run, Clean as CleanTask}
use Rattle.plan_core.specs.Carried.{carried}
use Rattle.plan_core.specs.Numbers.{has}
use Rattle.plan_core.specs.code.Proper.{IsProper}
use Rattle.plan_core.specs.Words.{is_run, is_run_kind, kind, outputs, reads, writes}
use Rattle.storage_simulation.specs.Goods.{is_delivery, is_delivery_kind}
use Rattle.run_record.specs.Events.{Event}
use Rattle.lease_rules.specs.Legal.{has_job}
use Rattle.site_yard.specs.Changes.{carries}
use Rattle.site_yard.specs.code.Kept.{IsOpening}
use Rattle.site_yard.specs.code.Law.{HasPlanLaws}
use Rattle.site_yard.specs.code.Loan.{Aim, AreCarried, AreSmall, CanSettle, draft_size, fresh_at, inputs, pair_target, targets, targets_in}
use Rattle.lease_rules.specs.code.Storing.{pair_limit, AreWithin, IsFirstPast, IsOverlong}
use Rattle.plan_core.specs.Names.{pair_file}
use Rattle.plan_core.specs.code.Names.{content}
use Rattle.plan_core.specs.code.Declined.{declined}
use Rattle.site_yard.specs.code.Truthful.{HasChecksum, IsLongAs, is_over, oversize_among}
use Rattle.task_work.specs.Computing.{IsComputed, Makes, computed, files_of, first_declined}
use Rattle.task_work.specs.Making.{AreStored, AreWritten, Each, MakesOverlong, OfRead}
use Rattle.task_work.specs.Pieces.{HasRead, IsSteadyDraft, IsSteadyReading}
use Rattle.task_work.proofs.FillingLemmas.{AllTell, AllTellNone, told_read, told_written}
use Rattle.worker_gate.specs.code.Tending.{AreUnread, IsHeld, limits_in}
use Rattle.worker_gate.proofs.LoanLemmas.{steady_loan}

-- the law of what a Run carries
abbrev pub CarryLaw : Apply → Type 0
CarryLaw apply = (told : List ℕ → Option (List ℕ)) (p : Plan) (t : ℕ) (blobs : List (List ℕ)) → IsProper p → is_run p t ≡ true → map (content p (carried apply told p)) (reads p t) ≡ map Some blobs → IsComputed apply p (carried apply told p) t blobs

-- of a Run
run_inputs : (p : Plan) (c : ℕ → ℕ → Option (List ℕ)) (t : ℕ) (k : Option TaskKind) (qs : List ℕ) → is_run_kind k ≡ true → inputs p c t k qs ≡ map (content p c) qs
run_inputs p c t None qs h = absurd cc
run_inputs p c t (Some (Transfer f from to)) qs h = absurd cc
run_inputs p c t (Some (CleanTask q)) qs h = absurd cc
run_inputs p c t (Some (Run s js)) qs h = refl

run_targets : (p : Plan) (k : Option TaskKind) (qs : List ℕ) → is_run_kind k ≡ true → targets_in p k qs ≡ map (pair_target p) qs
run_targets p None qs h = absurd cc
run_targets p (Some (Transfer f from to)) qs h = absurd cc
run_targets p (Some (CleanTask q)) qs h = absurd cc
run_targets p (Some (Run s js)) qs h = refl

run_delivers : (k : Option TaskKind) → is_run_kind k ≡ true → is_delivery_kind k ≡ false
run_delivers None h = absurd cc
run_delivers (Some (Transfer f from to)) h = absurd cc
run_delivers (Some (CleanTask q)) h = absurd cc
run_delivers (Some (Run s js)) h = refl

no_delivery : (p : Plan) (t : ℕ) → is_run p t ≡ true → is_delivery p t ≡ false
unfolding is_delivery
no_delivery p t h = run_delivers (kind p t) h

run_sums : (p : Plan) (v : ℕ → Option (List ℕ)) (k : Option TaskKind) → is_run_kind k ≡ true → HasChecksum p v k
run_sums p v None h = absurd cc
run_sums p v (Some (Transfer f from to)) h = absurd cc
run_sums p v (Some (CleanTask q)) h = absurd cc
run_sums p v (Some (Run s js)) h = tt

pub job_run : (k : Option TaskKind) (j : ℕ) → has_job k j ≡ true → is_run_kind k ≡ true
job_run None j h = absurd cc
job_run (Some (Transfer f from to)) j h = absurd cc
job_run (Some (CleanTask q)) j h = absurd cc
job_run (Some (Run s js)) j h = refl

-- lists
all_tell : (s : Store) (ns : List ℕ) (rs : List ReadState) → AreUnread (Some s) ns rs → AllTell rs
all_tell s [] [] h = tt
all_tell s [] (r ∷ rs) h = absurd h
all_tell s (n ∷ ns) [] h = absurd h
all_tell s (n ∷ ns) (r ∷ rs) h = (h.0.tells, all_tell s ns rs h.1)

tell_none : (s : Store) (xs : List Aim) → AllTellNone (map (fresh_at (Some s)) xs)
tell_none s [] = tt
tell_none s (x ∷ xs) = ((x.place, refl), tell_none s xs)

map_both : (g h : ℕ → Option (List ℕ)) (p : Plan) (qs : List ℕ) → ((f : ℕ) → g f ≡ h f) → map (λ q. g (pair_file p q)) qs ≡ map h (files_of p qs)
map_both g h p [] same = refl
map_both g h p (q ∷ qs) same = ap (λ x. x ∷ map (λ q. g (pair_file p q)) qs) (same (pair_file p q)) ∙ ap (λ l. h (pair_file p q) ∷ l) (map_both g h p qs same)

aims_are : (p : Plan) (v : ℕ → Option (List ℕ)) (qs : List ℕ) → map (λ (x : Aim). v x.file) (map (pair_target p) qs) ≡ map (λ q. v (pair_file p q)) qs
aims_are p v [] = refl
aims_are p v (q ∷ qs) = ap (λ l. v (pair_file p q) ∷ l) (aims_are p v qs)

small_of : (p : Plan) (qs : List ℕ) (outs : List (List ℕ)) → AreWithin p qs outs → AreSmall (map (pair_target p) qs) (map length outs)
small_of p [] outs h = tt
small_of p (q ∷ qs) [] h = tt
small_of p (q ∷ qs) (b ∷ outs) h = (h.0, small_of p qs outs h.1)

written_sizes : (ds es : List DraftState) (bs : List (List ℕ)) → AreWritten ds es bs → map draft_size es ≡ map length bs
written_sizes [] [] [] h = refl
written_sizes [] [] (b ∷ bs) h = absurd h
written_sizes [] (e ∷ es) bs h = absurd h
written_sizes (d ∷ ds) [] bs h = absurd h
written_sizes (d ∷ ds) (e ∷ es) [] h = absurd h
written_sizes (d ∷ ds) (e ∷ es) (b ∷ bs) h = ap (λ n. n ∷ map draft_size es) h.0.1 ∙ ap (λ l. length b ∷ l) (written_sizes ds es bs h.1)

head_of : Option (List ℕ) → List (Option (List ℕ)) → Option (List ℕ)
head_of d [] = d
head_of d (x ∷ xs) = x

tail_of : List (Option (List ℕ)) → List (Option (List ℕ))
tail_of [] = []
tail_of (x ∷ xs) = xs

less_is : (a b : ℕ) → a < b → nat_lt a b ≡ true
less_is a b h = grind (arith, h)

not_less : (a b : ℕ) → b ≤ a → nat_lt a b ≡ false
not_less a b h = grind (arith, h)

-- the first output that is too long is the first file that is carried so
past_among : (p : Plan) (v : ℕ → Option (List ℕ)) (x n : ℕ) (qs : List ℕ) (bs : List (List ℕ)) → map (λ q. v (pair_file p q)) qs ≡ map Some bs → IsFirstPast p qs bs x n
    → (oversize_among p v qs ≡ Some (pair_file p x)) × (option_map length (v (pair_file p x)) ≡ Some n)
unfolding head_of tail_of
past_among p v x n [] bs is h = absurd h
past_among p v x n (q ∷ qs) [] is h = absurd h
past_among p v x n (q ∷ qs) (b ∷ bs) is h =
    let head : v (pair_file p q) ≡ Some b = ap (head_of None) is in
    let step : (z : Bool) → nat_lt (pair_limit p q) (length b) ≡ z → oversize_among p v (q ∷ qs) ≡ cond z (Some (pair_file p q)) (oversize_among p v qs) = λ z e.
    ap (λ o. cond (is_over (pair_limit p q) o) (Some (pair_file p q)) (oversize_among p v qs)) head ∙ ap (λ y. cond y (Some (pair_file p q)) (oversize_among p v qs)) e in
    elim h [
      | inl here ↦ (
        step true (less_is (pair_limit p q) (length b) here.0) ∙ ap (λ y. Some (pair_file p y)) here.1,
        ap (λ y. option_map length (v (pair_file p y))) (sym here.1) ∙ ap (option_map length) head ∙ ap Some here.2,
      )
      | inr later ↦
          let rest = past_among p v x n qs bs (ap tail_of is) later.1 in
          (step false (not_less (pair_limit p q) (length b) later.0) ∙ rest.0, rest.1)
    ]

module _ (apply : Apply) (p : Plan) (proper : IsProper p) (laws : HasPlanLaws p) (law : CarryLaw apply) (first : List Event) (m : Store) (t : ℕ) (run : is_run p t ≡ true) where
  -- what was read of it is what the writers of its reads carry
  computed_so : (s : Store) (rs : List ReadState) (ds : List DraftState) (blobs : List (List ℕ)) → IsHeld apply p first m (Some s) t rs ds → IsOpening apply p first m → Each HasRead rs blobs → IsComputed apply p (carries apply p m) t blobs
  computed_so s rs ds blobs held opening read =
      law (λ pfn. files.get m.replicas pfn) p t blobs proper run
      (sym (run_inputs p (carries apply p m) t (kind p t) (reads p t) run) ∙ sym (held.carried opening) ∙ told_read rs blobs (all_tell s (limits_in p (kind p t) (reads p t)) rs held.unread) read)

  outputs_so : (blobs outs : List (List ℕ)) → IsComputed apply p (carries apply p m) t blobs → Makes apply p t blobs outs → map (λ q. carries apply p m t (pair_file p q)) (writes p t) ≡ map Some outs
  outputs_so blobs outs is made = map_both (carries apply p m t) (computed apply p t blobs) p (writes p t) is.carries ∙ made.0

  carried_so : (o : Option Store) (rs : List ReadState) (ds0 ds1 : List DraftState) (sizes : List ℕ) → IsHeld apply p first m o t rs ds0 → OfRead p t rs (AreStored apply p t ds0 ds1 sizes) → IsOpening apply p first m → IfSome o (λ s. AreCarried p (carries apply p m) t ds1 None)
  carried_so None rs ds0 ds1 sizes held made opening = tt
  carried_so (Some s) rs ds0 ds1 sizes held made opening =
      let is = computed_so s rs ds0 made.blobs held opening made.read in
      let fresh : AllTellNone ds0 = subst AllTellNone (sym held.drafts) (tell_none s (targets p t)) in
      record {
        bytes = told_written ds0 ds1 made.holds.outs fresh made.holds.written ∙ sym (outputs_so made.blobs made.holds.outs is made.holds.made) ∙ sym (aims_are p (carries apply p m t) (writes p t)) ∙ sym (ap (map (λ (x : Aim). carries apply p m t x.file)) (run_targets p (kind p t) (writes p t) run));
        digest_is = tt;
        sum = run_sums p (carries apply p m t) (kind p t) run;
      }

  pub made_settles : (o : Option Store) (rs0 rs1 : List ReadState) (ds0 ds1 : List DraftState) (sizes : List ℕ) → IsHeld apply p first m o t rs0 ds0 → OfRead p t rs0 (AreStored apply p t ds0 ds1 sizes) → part_faults rs1 ds1 ≡ 0 → Each IsSteadyReading rs0 rs1 → Each IsSteadyDraft ds0 ds1 → CanSettle apply p first m o t rs1 ds1 sizes None
  made_settles o rs0 rs1 ds0 ds1 sizes held made whole readings drafts = record {
    loan = steady_loan apply p proper laws first m t o rs0 rs1 ds0 ds1 held readings drafts;
    sizes_are = written_sizes ds0 ds1 made.holds.outs made.holds.written ∙ sym made.holds.sizes_are;
    small = subst (λ l. AreSmall l sizes) (sym (run_targets p (kind p t) (writes p t) run)) (subst (AreSmall (map (pair_target p) (writes p t))) (sym made.holds.sizes_are) (small_of p (writes p t) made.holds.outs made.holds.within));
    delivery = sym (no_delivery p t run);
    of_bytes = tt;
    whole = whole;
    carried = carried_so o rs0 ds0 ds1 sizes held made;
  }

  -- why nothing was made
  pub declined_so : (s : Store) (rs : List ReadState) (ds : List DraftState) (j : ℕ) → IsHeld apply p first m (Some s) t rs ds → IsOpening apply p first m → OfRead p t rs (λ blobs. first_declined apply p t blobs ≡ Some j) → declined apply p (carries apply p m) t ≡ Some j
  declined_so s rs ds j held opening of = (computed_so s rs ds of.blobs held opening of.read).declines ∙ of.holds

  pub overlong_so : (s : Store) (rs : List ReadState) (ds : List DraftState) (j f n : ℕ) → IsHeld apply p first m (Some s) t rs ds → IsOpening apply p first m → OfRead p t rs (MakesOverlong apply p t j f n)
      → (declined apply p (carries apply p m) t ≡ None) × (oversize_among p (carries apply p m t) (writes p t) ≡ Some f) × (has (outputs p.jobs j) f ≡ true) × IsLongAs n (carries apply p m t f)
  overlong_so s rs ds j f n held opening of =
      let is = computed_so s rs ds of.blobs held opening of.read in
      let over : IsOverlong p t of.holds.0 j f n = of.holds.2 in
      let found = past_among p (carries apply p m t) over.pair n (writes p t) of.holds.0 (outputs_so of.blobs of.holds.0 is of.holds.1) over.first in
      (is.declines ∙ of.holds.1.1, found.0 ∙ ap Some over.file, over.made, ap (λ z. option_map length (carries apply p m t z)) (sym over.file) ∙ found.1)
