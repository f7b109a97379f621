-- What a settling keeps.
use Rattle.std.proofs.Common.{◌≡◌, ℕ, zero, suc, ◌≤◌, ◌<◌, ◌⊎◌, inl, inr, Bool, true, List, [], ◌∷◌, ◌++◌, map, length, drop, take, refl, sym, ap, ◌∙◌, subst, arith}
use Rattle.std.specs.Prelude.{Option, Some, None, option_map, is_some, IfSome}
use Rattle.std.specs.FinMap as files
use Rattle.std.proofs.lemmas.List.{length-map}
use Rattle.outside.specs.code.Counts.{IsLater}
use Rattle.values.specs.Apply.{Apply}
use Rattle.outside.specs.declared.counts.Counts.{Counts}
use Rattle.outside.specs.declared.store.Store.{Store}
use Rattle.outside.specs.code.Store.{changed_by, operation}
use Rattle.outside.specs.code.Parts.{DraftState, ReadState}
use Rattle.site_yard.specs.code.Returning.{placings, IsRefused, refusal_faults}
use Rattle.plan_core.specs.declared.plan.Plan.{Plan}
use Rattle.plan_core.specs.Words.{is_run, is_transfer, kind, task_numbers, writes}
use Rattle.run_record.specs.declared.entry.Cause.{Cause}
use Rattle.run_record.specs.Events.{Arrive, End}
use Rattle.lease_book.specs.declared.book.Book.{Book}
use Rattle.lease_book.specs.Book.{failure, is_tried_again, state_at}
use Rattle.lease_rules.specs.Legal.{IsOpen}
use Rattle.site_yard.specs.Changes.{carries}
use Rattle.site_yard.specs.code.Changes.{publishes, arrival, or_nil}
use Rattle.site_yard.specs.code.Kept.{IsKept}
use Rattle.site_yard.specs.code.Loan.{Aim, AreDrafts, CanSettle, draft_bytes, draft_size, pair_target, targets}
use Rattle.plan_core.specs.Names.{pair_file}
use Rattle.site_yard.specs.Trace.{operations_of, published_at}
use Rattle.site_yard.specs.code.Yard.{IsStop}
use Rattle.site_yard.proofs.KeptLemmas.{KeepsSizes, Makes, failed, keeps, sized_failed, told_all}
use Rattle.site_yard.proofs.LoanLemmas.{HasBookLaws, failed_counted, failed_made, failed_operations}
use Rattle.site_yard.proofs.NextLemmas.{rose_none}
use Rattle.site_yard.proofs.PlacedLemmas.{operations_at, pairs_changes, pairs_operations, placed_as, placed_changes, placed_operations, placed_sizes, one_long}
use Rattle.site_yard.proofs.SettleLemmas.{drafts_many, one_target, open_either, run_targets, stop_cause, stop_shows}
use Rattle.outside.specs.declared.host.HostFault.{HostFault}
use Rattle.site_yard.specs.code.Failures.{AreMore, IsCounted}
use Rattle.site_yard.specs.code.Lending.{IsHostCause}
use Rattle.site_yard.specs.code.Moving.{scratch_cause}
use Rattle.site_yard.proofs.AimLemmas.{IsAimOf, aim_of, failed_at, failed_publishes, length_take, stop_told, stop_true}
use Rattle.std.proofs.Math.Logic.{∥∥₁_elim}
use Rattle.plan_core.specs.Numbers.{has}
use Rattle.storage_simulation.specs.declared.standing.Held.TheVariants.{Reserved, Stored}
use Rattle.storage_simulation.specs.Goods.{good_size}
use Rattle.site_yard.proofs.SizedLemmas.{sized_arrive, sized_end, sized_stop}
use Rattle.site_yard.proofs.StoredLemmas.{no_prop}
use Rattle.site_yard.proofs.SuitsLemmas.{run_makes}

-- the told drafts of a Run: what publishing the first k of them comes to
module _ (p : Plan) (t : ℕ) (run : is_run p t ≡ true) (s : Store) (ds : List DraftState) (sizes : List ℕ) (k : ℕ) (drafts : AreDrafts (Some s) (targets p t) ds) (are : map draft_size ds ≡ sizes) where
  aims : targets p t ≡ map (pair_target p) (writes p t)
  aims = run_targets p t (kind p t) refl run

  over_pairs : AreDrafts (Some s) (map (pair_target p) (writes p t)) ds
  over_pairs = subst (λ l. AreDrafts (Some s) l ds) aims drafts

  pub run_operations : map operation (placings (take k ds)) ≡ published_at p (writes p t) (take k sizes)
  run_operations =
      placed_operations s (map (pair_target p) (writes p t)) ds k over_pairs
      ∙ ap (λ l. operations_at (map (pair_target p) (writes p t)) (take k l)) are
      ∙ pairs_operations p (writes p t) (take k sizes)

  pub run_changes : (c : ℕ → ℕ → Option (List ℕ)) → map draft_bytes ds ≡ map (λ (x : Aim). c t x.file) (targets p t) → placings (take k ds) ≡ map (publishes p c t) (take k (writes p t))
  run_changes c is =
      placed_changes s c t (map (pair_target p) (writes p t)) ds k over_pairs (is ∙ ap (map (λ (x : Aim). c t x.file)) aims)
      ∙ pairs_changes p c t (writes p t) k

  pub run_sizes : (c : ℕ → ℕ → Option (List ℕ)) → map draft_bytes ds ≡ map (λ (x : Aim). c t x.file) (targets p t) → map (λ q. option_map length (c t (pair_file p q))) (take k (writes p t)) ≡ map Some (take k sizes)
  run_sizes c is =
      placed_sizes s p c t (writes p t) ds k over_pairs (is ∙ ap (map (λ (x : Aim). c t x.file)) aims)
      ∙ ap (λ l. map Some (take k l)) are

take_whole : {A : Type 0} (xs : List A) (n : ℕ) → n ≡ length xs → take n xs ≡ xs
take_whole [] zero e = refl
take_whole [] (suc n) e = refl
take_whole (x ∷ xs) zero e = absurd (omega (arith, e))
take_whole (x ∷ xs) (suc n) e = ap (λ l. x ∷ l) (take_whole xs n (omega (arith, e)))

-- what an open Run writes isn't stored
not_stored : (b : Book) (w t : ℕ) → HasBookLaws b → IsOpen (state_at b) w t → is_run b.plan t ≡ true → (g n : ℕ) → has (writes b.plan t) g ≡ true → (state_at b).held g ≡ Stored n → ⊥
not_stored b w t laws opened_ run g n h is =
    ∥∥₁_elim b.kept.legal no_prop (λ l.
    let r : (state_at b).held g ≡ Reserved (good_size b.plan g) = (laws.records.sound b.history.events l).running_held t g opened_.runs (ap (λ (x : List ℕ). has x g) (run_makes b.plan t run) ∙ h) in
    absurd (let x : Reserved (good_size b.plan g) ≡ Stored n = sym r ∙ is in cc))

-- the conditions of a settling, over a book's plan
module _ (b : Book) (apply : Apply) (k : ℕ) (o mid n : Option Store) (m : Store) (f0 m0 : ℕ) (before now_ : Counts) (w t : ℕ) (rs : List ReadState) (ds : List DraftState) (sizes : List ℕ) (digest : Option (List ℕ)) (can : CanSettle apply b.plan (take k b.history.events) m o t rs ds sizes digest) (begun : k ≤ length b.history.events) (kept : ∥ IsKept apply b.plan (task_numbers b.order.items) (take k b.history.events) (drop k b.history.events) o m f0 m0 before ∥₁) (later : IsLater before now_) (told : mid ≡ o) where
  changed : (count : ℕ) → n ≡ option_map (λ s. changed_by s (placings (take count ds))) mid → n ≡ option_map (λ s. changed_by s (placings (take count ds))) o
  changed count is = is ∙ ap (option_map (λ s. changed_by s (placings (take count ds)))) told

  -- a Run that ends
  end_made : (z : Option Store) → CanSettle apply b.plan (take k b.history.events) m z t rs ds sizes digest → is_run b.plan t ≡ true → Makes apply b.plan (take k b.history.events) m z (End w t sizes) (placings (take (length ds) ds))
  end_made None c run = λ opening. tt
  end_made (Some s) c run = λ opening.
      let carried = (c.carried opening).bytes in
      let cs = carries apply b.plan m in
      let aims_ = run_targets b.plan t (kind b.plan t) refl run in
      let many : length ds ≡ length (writes b.plan t) = drafts_many (Some s) (targets b.plan t) ds c.loan.drafts ∙ ap length aims_ ∙ length-map (writes b.plan t) (pair_target b.plan) in
      let long : length ds ≡ length sizes = sym (length-map ds draft_size) ∙ ap length c.sizes_are in (
        run_changes b.plan t run s ds sizes (length ds) c.loan.drafts c.sizes_are cs carried ∙ ap (map (publishes b.plan cs t)) (take_whole (writes b.plan t) (length ds) many),
        ap (λ j. map (λ q. option_map length (cs t (pair_file b.plan q))) (take j (writes b.plan t))) (sym long) ∙ run_sizes b.plan t run s ds sizes (length ds) c.loan.drafts c.sizes_are cs carried ∙ ap (map Some) (take_whole sizes (length ds) long),
      )

  end_operations : (z : Option Store) → CanSettle apply b.plan (take k b.history.events) m z t rs ds sizes digest → is_run b.plan t ≡ true → IfSome z (λ s. map operation (placings (take (length ds) ds)) ≡ operations_of b.plan (End w t sizes))
  end_operations None c run = tt
  end_operations (Some s) c run =
      let long : length ds ≡ length sizes = sym (length-map ds draft_size) ∙ ap length c.sizes_are in
      run_operations b.plan t run s ds sizes (length ds) c.loan.drafts c.sizes_are ∙ ap (published_at b.plan (writes b.plan t)) (take_whole sizes (length ds) long)

  end_sized : HasBookLaws b → (z : Option Store) → CanSettle apply b.plan (take k b.history.events) m z t rs ds sizes digest → is_run b.plan t ≡ true → IfSome z (λ s. KeepsSizes b.plan (state_at b) (End w t sizes) (placings (take (length ds) ds)))
  end_sized laws None c run = tt
  end_sized laws (Some s) c run = sized_end b.plan b.proper laws.plans (state_at b) w t s ds sizes c.loan.drafts c.sizes_are run

  pub end_keeps : (count : ℕ) → AreMore count 0 0 before now_ → count ≡ length ds → is_run b.plan t ≡ true → n ≡ option_map (λ s. changed_by s (placings (take count ds))) mid → HasBookLaws b
      → ∥ IsKept apply b.plan (task_numbers b.order.items) (take k (b.history.events ++ End w t sizes ∷ [])) (drop k (b.history.events ++ End w t sizes ∷ [])) n m f0 m0 now_ ∥₁
  end_keeps count more all run is laws =
      keeps apply b.plan (task_numbers b.order.items) b.history.events k (End w t sizes) o n m f0 m0 before now_ (placings (take (length ds) ds)) begun kept
      (subst (λ j. n ≡ option_map (λ s. changed_by s (placings (take j ds))) o) all (changed count is))
      (end_operations o can run) (end_made o can run) (end_sized laws o can run) (rose_none o count before now_ (End w t sizes) refl refl more later)

  -- a settling that was stopped
  stop_operations : (z : Option Store) → CanSettle apply b.plan (take k b.history.events) m z t rs ds sizes digest → (again : Bool) (cause : Cause) (count : ℕ) → is_run b.plan t ≡ true → IfSome z (λ s. map operation (placings (take count ds)) ≡ operations_of b.plan (failed again w t cause (take count sizes)))
  stop_operations None c again cause count run = tt
  stop_operations (Some s) c again cause count run = failed_at b.plan again w t cause (take count sizes) (map operation (placings (take count ds))) (run_operations b.plan t run s ds sizes count c.loan.drafts c.sizes_are)

  stop_made : (z : Option Store) → CanSettle apply b.plan (take k b.history.events) m z t rs ds sizes digest → (again : Bool) (cause : Cause) (count : ℕ) → is_run b.plan t ≡ true → IsStop cause → count < length ds → Makes apply b.plan (take k b.history.events) m z (failed again w t cause (take count sizes)) (placings (take count ds))
  stop_made None c again cause count run stop less = λ opening. tt
  stop_made (Some s) c again cause count run stop less = λ opening.
      let carried = (c.carried opening).bytes in
      let cs = carries apply b.plan m in
      let long : length ds ≡ length sizes = sym (length-map ds draft_size) ∙ ap length c.sizes_are in
      let many : length (take count sizes) ≡ count = length_take sizes count (omega (arith, less, long)) in (
        failed_publishes b.plan cs again w t cause (take count sizes) (placings (take count ds)) (run_changes b.plan t run s ds sizes count c.loan.drafts c.sizes_are cs carried ∙ ap (λ j. map (publishes b.plan cs t) (take j (writes b.plan t))) (sym many)),
        stop_true apply (λ pfn. files.get m.replicas pfn) b.plan cs again w t cause (take count sizes) (ap (λ j. map (λ q. option_map length (cs t (pair_file b.plan q))) (take j (writes b.plan t))) many ∙ run_sizes b.plan t run s ds sizes count c.loan.drafts c.sizes_are cs carried) stop,
      )

  stop_sized : HasBookLaws b → IsOpen (state_at b) w t → (z : Option Store) → CanSettle apply b.plan (take k b.history.events) m z t rs ds sizes digest → (again : Bool) (cause : Cause) (count : ℕ) → is_run b.plan t ≡ true → IfSome z (λ s. KeepsSizes b.plan (state_at b) (failed again w t cause (take count sizes)) (placings (take count ds)))
  stop_sized laws opened_ None c again cause count run = tt
  stop_sized laws opened_ (Some s) c again cause count run = sized_stop b.plan b.proper laws.plans (state_at b) w t s ds sizes c.loan.drafts c.sizes_are run again cause (take count sizes) count (not_stored b w t laws opened_ run)

  stop_none : (again : Bool) (cause : Cause) → n ≡ option_map (λ s. changed_by s (placings (take 0 ds))) mid → IsStop cause → IsCounted o before now_ (failed again w t cause [])
      → ∥ IsKept apply b.plan (task_numbers b.order.items) (take k (b.history.events ++ failed again w t cause [] ∷ [])) (drop k (b.history.events ++ failed again w t cause [] ∷ [])) n m f0 m0 now_ ∥₁
  stop_none again cause is stop counted =
      keeps apply b.plan (task_numbers b.order.items) b.history.events k (failed again w t cause []) o n m f0 m0 before now_ [] begun kept (changed 0 is)
      (told_all (map operation [] ≡ operations_of b.plan (failed again w t cause [])) o (failed_operations b.plan again w t cause))
      (failed_made apply b.plan (take k b.history.events) m o again w t cause (λ opening. stop_told apply b.plan m o t cause stop)) (told_all (KeepsSizes b.plan (state_at b) (failed again w t cause []) []) o (sized_failed b.plan (state_at b) again w t cause [])) counted

  stop_by : HasBookLaws b → IsOpen (state_at b) w t → (again : Bool) (cause : Cause) (count : ℕ) → n ≡ option_map (λ s. changed_by s (placings (take count ds))) mid → IsStop cause → count < length ds → IsCounted o before now_ (failed again w t cause (take count sizes)) → (is_run b.plan t ≡ true) ⊎ (is_transfer b.plan t ≡ true)
      → ∥ IsKept apply b.plan (task_numbers b.order.items) (take k (b.history.events ++ failed again w t cause (take count sizes) ∷ [])) (drop k (b.history.events ++ failed again w t cause (take count sizes) ∷ [])) n m f0 m0 now_ ∥₁
  stop_by laws opened_ again cause count is stop less counted (inl run) =
      keeps apply b.plan (task_numbers b.order.items) b.history.events k (failed again w t cause (take count sizes)) o n m f0 m0 before now_ (placings (take count ds)) begun kept (changed count is)
      (stop_operations o can again cause count run) (stop_made o can again cause count run stop less) (stop_sized laws opened_ o can again cause count run) counted
  stop_by laws opened_ again cause count is stop less counted (inr moves) =
      let one : length ds ≡ 1 = drafts_many o (targets b.plan t) ds can.loan.drafts ∙ one_target b.plan b.proper laws.plans t (kind b.plan t) refl moves in
      let none : count ≡ 0 = omega (arith, less, one) in
      subst (λ j. ∥ IsKept apply b.plan (task_numbers b.order.items) (take k (b.history.events ++ failed again w t cause (take j sizes) ∷ [])) (drop k (b.history.events ++ failed again w t cause (take j sizes) ∷ [])) n m f0 m0 now_ ∥₁) (sym none)
      (stop_none again cause (subst (λ j. n ≡ option_map (λ s. changed_by s (placings (take j ds))) mid) none is) stop (subst (λ j. IsCounted o before now_ (failed again w t cause (take j sizes))) none counted))

  pub refused_keeps : HasBookLaws b → IsOpen (state_at b) w t → (count : ℕ) (e : HostFault) (cause : Cause) → cause ≡ scratch_cause e → IsRefused count (length ds) (Some e) → AreMore count (refusal_faults (Some e)) 0 before now_ → n ≡ option_map (λ s. changed_by s (placings (take count ds))) mid
      → ∥ IsKept apply b.plan (task_numbers b.order.items) (take k (b.history.events ++ failure b.plan (state_at b) w t cause (take count sizes) ∷ [])) (drop k (b.history.events ++ failure b.plan (state_at b) w t cause (take count sizes) ∷ [])) n m f0 m0 now_ ∥₁
  refused_keeps laws opened_ count e cause is why more placed =
      let stop = stop_cause count (length ds) before now_ e why more in
      let again : Bool = is_tried_again b.plan (state_at b) t cause in
      stop_by laws opened_ again cause count placed (subst IsStop (sym is) stop.2) stop.0
      (failed_counted o before now_ again w t cause (take count sizes) (stop_shows o count before now_ w t cause (take count sizes) later (subst (IsHostCause (λ f n. AreMore count f n before now_)) (sym is) stop.1)))
      (open_either b w t laws.records opened_)

  -- a Transfer that arrives
  arrive_operations : (z : Option Store) → CanSettle apply b.plan (take k b.history.events) m z t rs ds sizes digest → (size : ℕ) (x : Aim) → IsAimOf b.plan t (kind b.plan t) x → sizes ≡ size ∷ [] → IfSome z (λ s. map operation (placings (take (length ds) ds)) ≡ operations_of b.plan (Arrive w t size))
  arrive_operations None c size x aim one = tt
  arrive_operations (Some s) c size x aim one =
      let long : length ds ≡ length sizes = sym (length-map ds draft_size) ∙ ap length c.sizes_are in
      placed_operations s (x ∷ []) ds (length ds) (subst (λ l. AreDrafts (Some s) l ds) aim.are c.loan.drafts)
      ∙ ap (λ l. operations_at (x ∷ []) (take (length ds) l)) c.sizes_are
      ∙ ap (operations_at (x ∷ [])) (take_whole sizes (length ds) long ∙ one)
      ∙ aim.operation_is size

  arrive_made : (z : Option Store) → CanSettle apply b.plan (take k b.history.events) m z t rs ds sizes digest → (size : ℕ) (x : Aim) → IsAimOf b.plan t (kind b.plan t) x → sizes ≡ size ∷ [] → Makes apply b.plan (take k b.history.events) m z (Arrive w t size) (placings (take (length ds) ds))
  arrive_made None c size x aim one = λ opening. tt
  arrive_made (Some s) c size x aim one = λ opening.
      let carried = c.carried opening in
      let cs = carries apply b.plan m in
      let drafts : AreDrafts (Some s) (x ∷ []) ds = subst (λ l. AreDrafts (Some s) l ds) aim.are c.loan.drafts in
      let bytes : map draft_bytes ds ≡ cs t x.file ∷ [] = carried.bytes ∙ ap (map (λ (y : Aim). cs t y.file)) aim.are in
      let single : length ds ≡ 1 = drafts_many (Some s) (x ∷ []) ds drafts in (
        placed_changes s cs t (x ∷ []) ds (length ds) drafts bytes ∙ ap (λ j. map (placed_as cs t) (take j (x ∷ []))) single
            ∙ aim.change_is (or_nil (cs t x.file)) ∙ ap (λ v. arrival b.plan (kind b.plan t) (or_nil v)) (sym (aim.moved_is (cs t))),
        (ap (option_map length) (aim.moved_is (cs t)) ∙ one_long s cs t x ds size drafts bytes (c.sizes_are ∙ one), carried.sum),
      )

  arrive_sized : HasBookLaws b → (z : Option Store) → CanSettle apply b.plan (take k b.history.events) m z t rs ds sizes digest → is_transfer b.plan t ≡ true → (size : ℕ) → sizes ≡ size ∷ [] → IfSome z (λ s. KeepsSizes b.plan (state_at b) (Arrive w t size) (placings (take (length ds) ds)))
  arrive_sized laws None c moves size one = tt
  arrive_sized laws (Some s) c moves size one = sized_arrive b.plan b.proper laws.plans (state_at b) w t s ds sizes c.loan.drafts c.sizes_are size (kind b.plan t) refl moves one

  pub arrive_keeps : HasBookLaws b → IsOpen (state_at b) w t → is_transfer b.plan t ≡ true → (size : ℕ) → sizes ≡ size ∷ [] → (count : ℕ) → AreMore count 0 0 before now_ → count ≡ length ds → n ≡ option_map (λ s. changed_by s (placings (take count ds))) mid
      → ∥ IsKept apply b.plan (task_numbers b.order.items) (take k (b.history.events ++ Arrive w t size ∷ [])) (drop k (b.history.events ++ Arrive w t size ∷ [])) n m f0 m0 now_ ∥₁
  arrive_keeps laws opened_ moves size one count more all is =
      let aim = aim_of b.plan b.proper laws.plans t (kind b.plan t) refl moves in
      keeps apply b.plan (task_numbers b.order.items) b.history.events k (Arrive w t size) o n m f0 m0 before now_ (placings (take (length ds) ds)) begun kept
      (subst (λ j. n ≡ option_map (λ s. changed_by s (placings (take j ds))) o) all (changed count is))
      (arrive_operations o can size aim.0 aim.1 one) (arrive_made o can size aim.0 aim.1 one) (arrive_sized laws o can moves size one) (rose_none o count before now_ (Arrive w t size) refl refl more later)

-- the host goes on telling
pub tells_by : (o n : Option Store) (g : Store → Store) → n ≡ option_map g o → is_some n ≡ is_some o
tells_by None n g e = ap is_some e
tells_by (Some s) n g e = ap is_some e
