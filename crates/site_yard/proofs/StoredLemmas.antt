-- What an open task reads stands in the store at its recorded size.
use Rattle.std.proofs.Common.{◌≡◌, ℕ, ◌+◌, ◌≤◌, inl, inr, Bool, true, false, cond, ◌||◌, List, [], ◌∷◌, ◌++◌, length, refl, sym, ap, ◌∙◌, subst, nat_eq, arith}
use Rattle.std.specs.Prelude.{Option, Some, None, option_map, is_some, IfSome}
use Rattle.std.specs.List.{list_any}
use Rattle.std.proofs.Math.Logic.{∥∥₁_elim}
use Rattle.values.specs.Apply.{Apply}
use Rattle.outside.specs.declared.counts.Counts.{Counts}
use Rattle.outside.specs.declared.store.Store.{Store}
use Rattle.plan_core.specs.declared.plan.Plan.{Plan}
use Rattle.plan_core.specs.declared.plan.TaskKind.{TaskKind}
use Rattle.plan_core.specs.declared.plan.TaskKind.TheVariants.{Transfer, Run, Clean as CleanTask}
use Rattle.plan_core.specs.declared.plan.Target.TheVariants.{Site as Into, Delivery}
use Rattle.plan_core.specs.Kinds.{kind_writes}
use Rattle.plan_core.specs.Numbers.{has, or_else}
use Rattle.plan_core.specs.Words.{count_pairs, kind, reads, task_numbers, writes}
use Rattle.plan_core.proofs.TestLemmas.{either, or_left, same_number}
use Rattle.storage_simulation.specs.declared.standing.Held.{Held}
use Rattle.storage_simulation.specs.declared.standing.Held.TheVariants.{Stored}
use Rattle.storage_simulation.specs.Goods.{good_size, is_delivery, is_delivery_kind, makes}
use Rattle.storage_simulation.specs.Standings.{sizes}
use Rattle.run_record.specs.Events.{Event, Grant, Arrive, End, Clean, Fail, Again, Regrant}
use Rattle.lease_book.specs.declared.book.Book.{Book}
use Rattle.lease_book.specs.Book.{state_at}
use Rattle.lease_rules.specs.Legal.{IsOpen, Legal}
use Rattle.lease_rules.specs.code.Reading.{ends, frees, held_by, reserves, size_among, stored, stores}
use Rattle.lease_rules.specs.State.{now, opened}
use Rattle.site_yard.specs.code.Kept.{HoldsSizes, IsKept}
use Rattle.site_yard.specs.code.Law.{HasPlanLaws, HasRecordLaws}
use Rattle.site_yard.specs.code.Lending.{IsUnfit, SomeUnfit}
use Rattle.site_yard.specs.code.Loan.{at_pair}
use Rattle.lease_rules.specs.code.Storing.{pair_limit}
use Rattle.plan_core.specs.Names.{pair_file, pair_site}
use Rattle.site_yard.specs.code.Places.{is_swept}
use Rattle.site_yard.proofs.FollowLemmas.{is_read, not_swept, open_after, sound_here}
use Rattle.site_yard.proofs.LoanLemmas.{HasBookLaws}
use Rattle.site_yard.proofs.PlanLemmas.{has_writer, read_below, written_file}
use Rattle.site_yard.proofs.SuitsLemmas.{AllSuit, Suits, declared_long, good_of, legal_suits}

first_size : (b : Bool) (n : ℕ) (o : Option ℕ) → (b ≡ false → is_some o ≡ true) → is_some (cond b (Some n) o) ≡ true
first_size true n o h = refl
first_size false n o h = h refl

size_known : (xs ns : List ℕ) (q : ℕ) → length ns ≡ length xs → has xs q ≡ true → is_some (size_among xs ns q) ≡ true
size_known [] ns q e h = absurd cc
size_known (x ∷ xs) [] q e h = absurd (omega (arith, e))
size_known (x ∷ xs) (n ∷ ns) q e h = first_size (nat_eq x q) n (size_among xs ns q) (λ d. size_known xs ns q (omega (arith, e)) (subst (λ z. (z || has xs q) ≡ true) d h))

-- a written pair is a good of its writer
writes_makes : (p : Plan) → HasPlanLaws p → (t q : ℕ) (k : Option TaskKind) → kind p t ≡ k → has (writes p t) q ≡ true → has (makes p t) q ≡ true
unfolding makes is_delivery
writes_makes p laws t q None e h = ap (λ (o : Option TaskKind). has (cond (is_delivery_kind o) ((count_pairs p + t) ∷ []) (writes p t)) q) e ∙ h
writes_makes p laws t q (Some (Run a js)) e h = ap (λ (o : Option TaskKind). has (cond (is_delivery_kind o) ((count_pairs p + t) ∷ []) (writes p t)) q) e ∙ h
writes_makes p laws t q (Some (CleanTask x)) e h = ap (λ (o : Option TaskKind). has (cond (is_delivery_kind o) ((count_pairs p + t) ∷ []) (writes p t)) q) e ∙ h
writes_makes p laws t q (Some (Transfer g from (Into a))) e h = ap (λ (o : Option TaskKind). has (cond (is_delivery_kind o) ((count_pairs p + t) ∷ []) (writes p t)) q) e ∙ h
writes_makes p laws t q (Some (Transfer g from Delivery)) e h = absurd (let x : false ≡ true = sym (ap (λ (k : Option TaskKind). kind_writes p.jobs k (pair_site p q) (pair_file p q)) e) ∙ written_file p laws t q h in cc)

stores_some : (p : Plan) → HasPlanLaws p → (e : Event) (u q : ℕ) → Suits p e → has (writes p u) q ≡ true → ends u e ≡ true → is_some (stores p q e) ≡ true
stores_some p laws (Grant w t) u q s h d = absurd cc
stores_some p laws (Regrant w t) u q s h d = absurd cc
stores_some p laws (Fail w t c ns) u q s h d = absurd cc
stores_some p laws (Again w t c ns) u q s h d = absurd cc
stores_some p laws (Arrive w t n) u q s h d =
    let mine : has (makes p t) q ≡ true = writes_makes p laws t q (kind p t) refl (subst (λ x. has (writes p x) q ≡ true) (sym (same_number t u d)) h) in
    ap (λ b. is_some (cond b (Some n) None)) mine
stores_some p laws (End w t ns) u q s h d =
    size_known (makes p t) ns q (declared_long p (makes p t) ns s.1) (writes_makes p laws t q (kind p t) refl (subst (λ x. has (writes p x) q ≡ true) (sym (same_number t u d)) h))
stores_some p laws (Clean w t) u q s h d =
    let mine : has (writes p t) q ≡ true = subst (λ x. has (writes p x) q ≡ true) (sym (same_number t u d)) h in
    absurd (let x = sym (laws.cleans_only t q s) ∙ or_left (has (writes p t) q) _ mine in cc)

some_first : (a b : Option ℕ) → is_some a ≡ true → is_some (or_else a b) ≡ true
some_first None b h = absurd cc
some_first (Some x) b h = refl

some_second : (a b : Option ℕ) → is_some b ≡ true → is_some (or_else a b) ≡ true
some_second None b h = h
some_second (Some x) b h = refl

pub stored_some : (p : Plan) → HasPlanLaws p → (r : List Event) (u q : ℕ) → AllSuit p r → has (writes p u) q ≡ true → list_any (ends u) r ≡ true → is_some (stored p r q) ≡ true
stored_some p laws [] u q s h d = absurd cc
stored_some p laws (e ∷ r) u q s h d = elim (either (ends u e) (list_any (ends u) r) d) [
  | inl x ↦ some_first (stores p q e) (stored p r q) (stores_some p laws e u q s.0 h x)
  | inr x ↦ some_second (stores p q e) (stored p r q) (stored_some p laws r u q s.1 h x)
]

pub held_stored : (f : Bool) (o : Option ℕ) (b : Bool) (k : ℕ) → f ≡ false → is_some o ≡ true → (n : ℕ) × (held_by f o b k ≡ Stored n)
held_stored true o b k e h = absurd cc
held_stored false None b k e h = absurd cc
held_stored false (Some n) b k e h = (n, refl)

pub free_of : (p : Plan) (r : List Event) (q : ℕ) → is_swept p r q ≡ false → list_any (frees p q) r ≡ false
unfolding is_swept
free_of p r q h = h

unfit : (limit : ℕ) (o : Option (List ℕ)) (n : ℕ) → option_map length o ≡ Some n → n ≤ limit → IsUnfit limit o → ⊥
unfit limit None n e small bad = absurd cc
unfit limit (Some x) n e small bad = let same : length x ≡ n = ap (number 0) e in absurd (omega (arith, bad, small, same))
  where
    number : ℕ → Option ℕ → ℕ
    number d None = d
    number d (Some y) = y

module _ (p : Plan) (plan_laws : HasPlanLaws p) (order : List ℕ) (laws : HasRecordLaws p order) (r : List Event) (s : Store) (legal : Legal p order r) (sized : HoldsSizes p (now p order r).held s) where
  -- a pair that an open task reads is stored, and within its declared size
  pub read_stored : (w t q : ℕ) → IsOpen (now p order r) w t → has (reads p t) q ≡ true → (n : ℕ) × ((now p order r).held q ≡ Stored n) × (n ≤ pair_limit p q)
  read_stored w t q opened_ h =
      let low = read_below p plan_laws t q h in
      let found = has_writer p plan_laws q low in
      let u : ℕ = found.0 in
      let end = open_after p plan_laws order laws r w t u legal opened_ (plan_laws.readers_after t u q h found.1) in
      let free = free_of p r q (not_swept p plan_laws order laws r w t q legal opened_ h) in
      let is = held_stored (list_any (frees p q) r) (stored p r q) (list_any (reserves p q) r) (good_size p q) free (stored_some p plan_laws r u q (legal_suits p (opened order) r legal) found.1 end) in
      let held = (is_read p plan_laws order laws r legal).held q ∙ is.1 in
      let small = (sound_here p plan_laws order laws r legal).small q in
      (is.0, held, subst (λ z. is.0 ≤ z) (good_of p q low) (of_size ((now p order r).held q) is.0 (good_size p q) held small))
    where
      of_size : (h : Held) (n m : ℕ) → h ≡ Stored n → sizes (λ g. h) 0 ≤ m → n ≤ m
      of_size h n m e l = subst (λ z. sizes (λ g. z) 0 ≤ m) e l

  reads_fit : (w t : ℕ) → IsOpen (now p order r) w t → SomeUnfit p (reads p t) s → ⊥
  reads_fit w t opened_ (q, h, bad) =
      let is = read_stored w t q opened_ h in
      unfit (pair_limit p q) (at_pair p s q) is.0 (sized q is.0 (read_below p plan_laws t q h) is.1) is.2 bad

pub no_prop : (x y : ⊥) → x ≡ y
no_prop x y = absurd x

pub never_unfit : (b : Book) (apply : Apply) (first r : List Event) (o : Option Store) (m : Store) (f0 m0 : ℕ) (before : Counts) (w t : ℕ) → HasBookLaws b → first ++ r ≡ b.history.events → ∥ IsKept apply b.plan (task_numbers b.order.items) first r o m f0 m0 before ∥₁ → IsOpen (state_at b) w t → (s : Store) → o ≡ Some s → SomeUnfit b.plan (reads b.plan t) s → ⊥
never_unfit b apply first r o m f0 m0 before w t laws is kept opened_ s e bad =
    ∥∥₁_elim b.kept.legal no_prop (λ l. ∥∥₁_elim kept no_prop (λ k.
    reads_fit b.plan laws.plans (task_numbers b.order.items) laws.records b.history.events s l
    (subst (λ (x : List Event). HoldsSizes b.plan (now b.plan (task_numbers b.order.items) x).held s) is (here k)) w t opened_ bad))
  where
    here : IsKept apply b.plan (task_numbers b.order.items) first r o m f0 m0 before → HoldsSizes b.plan (now b.plan (task_numbers b.order.items) (first ++ r)).held s
    here k = told o e k.sized
      where
        told : (z : Option Store) → z ≡ Some s → IfSome z (HoldsSizes b.plan (now b.plan (task_numbers b.order.items) (first ++ r)).held) → HoldsSizes b.plan (now b.plan (task_numbers b.order.items) (first ++ r)).held s
        told z e h = subst (λ y. IfSome y (HoldsSizes b.plan (now b.plan (task_numbers b.order.items) (first ++ r)).held)) e h
