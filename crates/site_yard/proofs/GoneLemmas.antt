-- A pair that was swept is gone.
use Rattle.std.proofs.Common.{◌≡◌, ℕ, ◌<◌, inl, inr, Bool, true, false, cond, ◌&&◌, ◌||◌, List, [], ◌∷◌, ◌++◌, map, length, take, refl, ap, ◌∙◌, subst, nat_eq}
use Rattle.std.specs.Prelude.{Option, Some, None}
use Rattle.std.specs.List.{list_any}
use Rattle.values.specs.code.SiteMap.{pair_at}
use Rattle.outside.specs.code.Store.{Removes, changed_by}
use Rattle.values.specs.Apply.{Apply}
use Rattle.outside.specs.declared.store.Store.{Store}
use Rattle.plan_core.specs.declared.plan.Plan.{Plan}
use Rattle.plan_core.specs.declared.plan.TaskKind.{TaskKind}
use Rattle.plan_core.specs.declared.plan.TaskKind.TheVariants.{Transfer, Run, Clean as CleanTask}
use Rattle.plan_core.specs.declared.plan.Target.TheVariants.{Site as Into, Delivery}
use Rattle.plan_core.specs.Numbers.{has}
use Rattle.plan_core.specs.code.Proper.{IsProper}
use Rattle.plan_core.specs.Words.{cleans, count_pairs, is_clean, kind, kind_cleans, reads, writes}
use Rattle.plan_core.proofs.TestLemmas.{both, either, or_left, or_right, same_number}
use Rattle.run_record.specs.Events.{Event, Grant, Arrive, End, Clean, Fail, Again, Regrant}
use Rattle.lease_rules.specs.Legal.{Allowed, IsOpen, Legal, LegalFrom, MayFail}
use Rattle.lease_rules.specs.code.Reading.{ends, frees}
use Rattle.lease_rules.specs.State.{now}
use Rattle.site_yard.specs.code.Changes.{arrival, changes, changes_of, moved, or_nil, publishes, removal}
use Rattle.site_yard.specs.Changes.{carries}
use Rattle.site_yard.specs.code.Law.{HasPlanLaws, HasRecordLaws}
use Rattle.plan_core.specs.Names.{pair_file, pair_file_name, pair_site_name}
use Rattle.site_yard.specs.code.Places.{is_swept}
use Rattle.site_yard.proofs.FollowLemmas.{choice_after, ended_longer, from_next, legal_next, not_true, open_not_ended}
use Rattle.site_yard.proofs.HoldsLemmas.{arrival_is, same_id, swept_below}
use Rattle.site_yard.proofs.PlaceLemmas.{left_append, left_at, left_by, pair_changed, same, same_is, same_self}
use Rattle.site_yard.proofs.PlanLemmas.{has_writer, names_apart, written_below}
use Rattle.site_yard.proofs.SuitsLemmas.{has_take}

both_same : (x y : Bool) → x ≡ true → y ≡ true → (x && y) ≡ true
both_same true y e h = h
both_same false y e h = absurd cc

true_false : (b : Bool) → b ≡ true → b ≡ false → ⊥
true_false b h k = absurd cc

-- who cleans a pair is its Clean
cleaner : (k : Option TaskKind) (q : ℕ) → kind_cleans k q ≡ true → (x : _) × (k ≡ Some (CleanTask x)) × (x.0 ≡ q)
cleaner None q h = absurd cc
cleaner (Some (Transfer g from to)) q h = absurd cc
cleaner (Some (Run s js)) q h = absurd cc
cleaner (Some (CleanTask x)) q h = (x, refl, same_number x.0 q h)

module _ (p : Plan) (proper : IsProper p) (plan_laws : HasPlanLaws p) (order : List ℕ) (laws : HasRecordLaws p order) (c : ℕ → ℕ → Option (List ℕ)) (q t0 : ℕ) (mine : has (writes p t0) q ≡ true) where
  -- the publication of other pairs leaves a pair that isn't there
  put_off : (t x : ℕ) (o : Option (List ℕ)) → has (writes p t) x ≡ true → has (writes p t) q ≡ false → o ≡ None → left_at (pair_site_name p q) (pair_file_name p q) (publishes p c t x) o ≡ None
  put_off t x o w other h = by_name (same (pair_site_name p q) (pair_site_name p x) && same (pair_file_name p q) (pair_file_name p x)) refl
    where
      by_name : (v : Bool) → (same (pair_site_name p q) (pair_site_name p x) && same (pair_file_name p q) (pair_file_name p x)) ≡ v → cond v (Some (or_nil (c t (pair_file p x)))) o ≡ None
      by_name true e =
          let parts = both (same (pair_site_name p q) (pair_site_name p x)) (same (pair_file_name p q) (pair_file_name p x)) e in
          let one : q ≡ x = names_apart p proper plan_laws q x (written_below p plan_laws t0 q mine) (written_below p plan_laws t x w) (same_is (pair_site_name p q) (pair_site_name p x) parts.0) (same_is (pair_file_name p q) (pair_file_name p x) parts.1) in
          absurd (true_false (has (writes p t) q) (ap (has (writes p t)) one ∙ w) other)
      by_name false e = h

  puts_off : (t : ℕ) (qs : List ℕ) (o : Option (List ℕ)) → ((x : ℕ) → has qs x ≡ true → has (writes p t) x ≡ true) → has (writes p t) q ≡ false → o ≡ None → left_by (pair_site_name p q) (pair_file_name p q) (map (publishes p c t) qs) o ≡ None
  puts_off t [] o all other h = h
  puts_off t (y ∷ qs) o all other h = puts_off t qs _ (λ x e. all x (or_right (nat_eq y x) (has qs x) e)) other (put_off t y o (all y (same_id y qs)) other h)

  arrive_off : (t : ℕ) (k : Option TaskKind) (o : Option (List ℕ)) → kind p t ≡ k → has (writes p t) q ≡ false → o ≡ None → left_by (pair_site_name p q) (pair_file_name p q) (arrival p (kind p t) (or_nil (moved (c t) (kind p t)))) o ≡ None
  arrive_off t None o e other h = ap (λ (k : Option TaskKind). left_by (pair_site_name p q) (pair_file_name p q) (arrival p k (or_nil (moved (c t) k))) o) e ∙ h
  arrive_off t (Some (Transfer g from (Into a))) o e other h = ap (λ l. left_by (pair_site_name p q) (pair_file_name p q) l o) (arrival_is p proper plan_laws c t g from a e) ∙ puts_off t (writes p t) o (λ x d. d) other h
  arrive_off t (Some (Transfer g from Delivery)) o e other h = ap (λ (k : Option TaskKind). left_by (pair_site_name p q) (pair_file_name p q) (arrival p k (or_nil (moved (c t) k))) o) e ∙ h
  arrive_off t (Some (Run s js)) o e other h = ap (λ (k : Option TaskKind). left_by (pair_site_name p q) (pair_file_name p q) (arrival p k (or_nil (moved (c t) k))) o) e ∙ h
  arrive_off t (Some (CleanTask x)) o e other h = ap (λ (k : Option TaskKind). left_by (pair_site_name p q) (pair_file_name p q) (arrival p k (or_nil (moved (c t) k))) o) e ∙ h

  sweep_off : (k : Option TaskKind) (o : Option (List ℕ)) → o ≡ None → left_by (pair_site_name p q) (pair_file_name p q) (removal p k) o ≡ None
  sweep_off None o h = h
  sweep_off (Some (Transfer g from to)) o h = h
  sweep_off (Some (Run s js)) o h = h
  sweep_off (Some (CleanTask x)) o h = by_test (same (pair_site_name p q) (pair_site_name p x.0) && same (pair_file_name p q) (pair_file_name p x.0))
    where
      by_test : (v : Bool) → cond v None o ≡ None
      by_test true = refl
      by_test false = h

  -- the writer has ended, so no open task writes the pair, and no Clean does
  open_other : (past : List Event) (w t : ℕ) → Legal p order past → list_any (ends t0) past ≡ true → IsOpen (now p order past) w t → has (writes p t) q ≡ false
  open_other past w t legal end opened_ = not_true (has (writes p t) q) (λ h. true_false (list_any (ends t0) past) end (ap (λ u. list_any (ends u) past) (proper.flow.one_writer t0 t q mine h) ∙ open_not_ended p plan_laws order laws past w t legal opened_))

  clean_other : (t : ℕ) → is_clean p t ≡ true → has (writes p t) q ≡ false
  clean_other t clean = not_true (has (writes p t) q) (λ h. true_false (has (writes p t) q || has (reads p t) q) (or_left (has (writes p t) q) (has (reads p t) q) h) (plan_laws.cleans_only t q clean))

  may_other : (past : List Event) (w t : ℕ) → Legal p order past → list_any (ends t0) past ≡ true → MayFail p (now p order past) w t → has (writes p t) q ≡ false
  may_other past w t legal end (inl opened_) = open_other past w t legal end opened_
  may_other past w t legal end (inr clean) = clean_other t clean.0

  entry_off : (past : List Event) (e : Event) (o : Option (List ℕ)) → Legal p order past → list_any (ends t0) past ≡ true → Allowed p (now p order past) e → o ≡ None → left_by (pair_site_name p q) (pair_file_name p q) (changes_of p c e) o ≡ None
  entry_off past (Grant w t) o legal end a h = h
  entry_off past (Regrant w t) o legal end a h = h
  entry_off past (Arrive w t n) o legal end a h = arrive_off t (kind p t) o refl (open_other past w t legal end a.2) h
  entry_off past (End w t ns) o legal end a h = puts_off t (writes p t) o (λ x e. e) (open_other past w t legal end a.2) h
  entry_off past (Clean w t) o legal end a h = sweep_off (kind p t) o h
  entry_off past (Fail w t cause ns) o legal end a h = puts_off t (take (length ns) (writes p t)) o (λ x e. has_take (length ns) (writes p t) x e) (may_other past w t legal end a.1) h
  entry_off past (Again w t cause ns) o legal end a h = puts_off t (take (length ns) (writes p t)) o (λ x e. has_take (length ns) (writes p t) x e) (may_other past w t legal end a.1) h

  stays_gone : (past r : List Event) (o : Option (List ℕ)) → Legal p order past → list_any (ends t0) past ≡ true → LegalFrom p (now p order past) r → o ≡ None → left_by (pair_site_name p q) (pair_file_name p q) (changes p c r) o ≡ None
  stays_gone past [] o legal end l h = h
  stays_gone past (e ∷ r) o legal end l h =
      left_append (pair_site_name p q) (pair_file_name p q) (changes_of p c e) (changes p c r) o
      ∙ stays_gone (past ++ e ∷ []) r _ (legal_next p plan_laws order laws past e legal l.0) (ended_longer p plan_laws order laws past (e ∷ []) t0 end) (from_next p plan_laws order laws past r e l.1) (entry_off past e o legal end l.0 h)

  removes_it : (k : Option TaskKind) (o : Option (List ℕ)) → kind_cleans k q ≡ true → left_by (pair_site_name p q) (pair_file_name p q) (removal p k) o ≡ None
  removes_it k o h =
      let found = cleaner k q h in
      ap (λ z. left_by (pair_site_name p q) (pair_file_name p q) (removal p z) o) found.1
      ∙ ap (λ n. left_by (pair_site_name p q) (pair_file_name p q) (Removes (pair_site_name p n) (pair_file_name p n) ∷ []) o) found.2
      ∙ ap (λ v. cond v None o) (both_same _ _ (same_self (pair_site_name p q)) (same_self (pair_file_name p q)))

  -- the Clean of the pair: its writer has ended, and the pair is gone
  sweeps_now : (past : List Event) (e : Event) (o : Option (List ℕ)) → Legal p order past → Allowed p (now p order past) e → frees p q e ≡ true → (list_any (ends t0) past ≡ true) × (left_by (pair_site_name p q) (pair_file_name p q) (changes_of p c e) o ≡ None)
  sweeps_now past (Grant w t) o legal a f = absurd cc
  sweeps_now past (Regrant w t) o legal a f = absurd cc
  sweeps_now past (Arrive w t n) o legal a f = absurd cc
  sweeps_now past (End w t ns) o legal a f = absurd cc
  sweeps_now past (Fail w t cause ns) o legal a f = absurd cc
  sweeps_now past (Again w t cause ns) o legal a f = absurd cc
  sweeps_now past (Clean w t) o legal a f = (choice_after p plan_laws order laws past t t0 legal a.2 (plan_laws.cleans_after t t0 q f (or_left (has (writes p t0) q) (has (reads p t0) q) mine)), removes_it (kind p t) o f)

  gone : (past r : List Event) (o : Option (List ℕ)) → Legal p order past → LegalFrom p (now p order past) r → is_swept p r q ≡ true → left_by (pair_site_name p q) (pair_file_name p q) (changes p c r) o ≡ None
  unfolding is_swept
  gone past [] o legal l f = absurd cc
  gone past (e ∷ r) o legal l f = left_append (pair_site_name p q) (pair_file_name p q) (changes_of p c e) (changes p c r) o ∙ elim (either (frees p q e) (list_any (frees p q) r) f) [
    | inl d ↦ stays_gone (past ++ e ∷ []) r _ (legal_next p plan_laws order laws past e legal l.0) (ended_longer p plan_laws order laws past (e ∷ []) t0 (sweeps_now past e o legal l.0 d).0) (from_next p plan_laws order laws past r e l.1) (sweeps_now past e o legal l.0 d).1
    | inr d ↦ gone (past ++ e ∷ []) r _ (legal_next p plan_laws order laws past e legal l.0) (from_next p plan_laws order laws past r e l.1) d
  ]

swept_range : (p : Plan) → HasPlanLaws p → (r : List Event) (q : ℕ) → is_swept p r q ≡ true → q < count_pairs p
unfolding is_swept
swept_range p plan_laws [] q f = absurd cc
swept_range p plan_laws (e ∷ r) q f = elim (either (frees p q e) (list_any (frees p q) r) f) [
  | inl d ↦ by_entry e d
  | inr d ↦ swept_range p plan_laws r q d
]
  where
    by_kind : (t : ℕ) → cleans p t q ≡ true → q < count_pairs p
    by_kind t h = let found = cleaner (kind p t) q h in subst (λ z. z < count_pairs p) found.2 (swept_below p plan_laws t found.0 found.1)

    by_entry : (e : Event) → frees p q e ≡ true → q < count_pairs p
    by_entry (Grant w t) h = absurd cc
    by_entry (Regrant w t) h = absurd cc
    by_entry (Arrive w t n) h = absurd cc
    by_entry (End w t ns) h = absurd cc
    by_entry (Fail w t cause ns) h = absurd cc
    by_entry (Again w t cause ns) h = absurd cc
    by_entry (Clean w t) h = by_kind t h

pub swept_gone : (p : Plan) → IsProper p → HasPlanLaws p → (order : List ℕ) → HasRecordLaws p order → (apply : Apply) (first r : List Event) (s m : Store) → Legal p order first → LegalFrom p (now p order first) r → s ≡ changed_by m (changes p (carries apply p m) r) → (q : ℕ) → is_swept p r q ≡ true → pair_at s.scratch (pair_site_name p q) (pair_file_name p q) ≡ None
swept_gone p proper plan_laws order laws apply first r s m legal from changed q f =
    let writer = has_writer p plan_laws q (swept_range p plan_laws r q f) in
    ap (λ z. pair_at z.scratch (pair_site_name p q) (pair_file_name p q)) changed
    ∙ pair_changed m (changes p (carries apply p m) r) (pair_site_name p q) (pair_file_name p q)
    ∙ gone p proper plan_laws order laws (carries apply p m) q writer.0 writer.1 first r _ legal from f
