-- What stands at a pair's name after a record's changes.
use Rattle.std.proofs.Common.{◌≡◌, ℕ, ◌+◌, ◌≤◌, ◌<◌, inl, inr, Bool, true, false, cond, ◌&&◌, ◌||◌, List, [], ◌∷◌, map, length, take, refl, sym, ap, ◌∙◌, subst, nat_eq, nat_lt, arith}
use Rattle.std.specs.Prelude.{Option, Some, None, option_map}
use Rattle.std.specs.List.{list_any}
use Rattle.values.specs.Apply.{Apply}
use Rattle.outside.specs.code.Store.{Publishes, Removes}
use Rattle.plan_core.specs.declared.plan.Plan.{Plan}
use Rattle.plan_core.specs.declared.plan.TaskKind.{TaskKind}
use Rattle.plan_core.specs.declared.plan.TaskKind.TheVariants.{Transfer, Run, Clean as CleanTask}
use Rattle.plan_core.specs.declared.plan.Source.{Source}
use Rattle.plan_core.specs.declared.plan.Target.TheVariants.{Site as Into, Delivery}
use Rattle.plan_core.specs.Kinds.{kind_writes}
use Rattle.plan_core.specs.Numbers.{has}
use Rattle.plan_core.specs.code.Proper.{IsProper}
use Rattle.plan_core.specs.Words.{count_pairs, declared, kind, kind_cleans, is_transfer_kind, writes}
use Rattle.plan_core.proofs.TestLemmas.{both, either, is_itself, or_left, or_right, same_number}
use Rattle.storage_simulation.specs.Goods.{good_size, is_delivery, is_delivery_kind, makes, or_zero}
use Rattle.run_record.specs.Events.{Event, Grant, Arrive, End, Clean, Fail, Again, Regrant}
use Rattle.lease_rules.specs.Legal.{AreOfFirst}
use Rattle.lease_rules.specs.code.Reading.{frees}
use Rattle.site_yard.specs.code.Changes.{arrival, changes, changes_of, moved, or_nil, publishes, removal}
use Rattle.site_yard.specs.code.Law.{HasPlanLaws}
use Rattle.plan_core.specs.Names.{file_name, pair_file, pair_file_name, pair_site, pair_site_name, site_name}
use Rattle.site_yard.specs.code.Places.{is_published, is_swept, publishes_pair}
use Rattle.site_yard.specs.code.Truthful.{AreSizes, IsLongAs, IsTrue, Truthful}
use Rattle.site_yard.proofs.PlaceLemmas.{left_append, left_at, left_by, same, same_is, same_self}
use Rattle.site_yard.proofs.PlanLemmas.{names_apart, transfer_writes, written_below, written_file}
use Rattle.site_yard.proofs.SuitsLemmas.{AllSuit, Suits, end_writes, fail_writes, good_of, has_take}

pub or_both : (a b : Bool) → (a || b) ≡ false → (a ≡ false) × (b ≡ false)
or_both false b e = (refl, e)
or_both true b e = absurd cc

both_same : (x y : Bool) → x ≡ true → y ≡ true → (x && y) ≡ true
both_same true y e h = h
both_same false y e h = absurd cc

pub same_id : (q : ℕ) (qs : List ℕ) → has (q ∷ qs) q ≡ true
same_id q qs = or_left (nat_eq q q) (has qs q) (is_itself q)

-- what a Transfer publishes at a site is its one pair
pub arrival_is : (p : Plan) → IsProper p → HasPlanLaws p → (c : ℕ → ℕ → Option (List ℕ)) (t : ℕ) (g : _) (from : Source) (a : _) → kind p t ≡ Some (Transfer g from (Into a)) → arrival p (kind p t) (or_nil (moved (c t) (kind p t))) ≡ map (publishes p c t) (writes p t)
arrival_is p proper laws c t g from a e =
    let found = transfer_writes p proper laws t g from a e in
    let s : pair_site p found.0 ≡ a.0 = found.1 in
    let f : pair_file p found.0 ≡ g.0 = found.2 in
    ap (λ (k : Option TaskKind). arrival p k (or_nil (moved (c t) k))) e
    ∙ ap (λ n. Publishes (site_name p n) (file_name p g.0) (or_nil (c t g.0)) ∷ []) (sym s)
    ∙ ap (λ n. Publishes (pair_site_name p found.0) (file_name p n) (or_nil (c t n)) ∷ []) (sym f)
    ∙ sym (ap (map (publishes p c t)) found.3)

-- a delivery writes no pair
pub delivery_writes : (p : Plan) → HasPlanLaws p → (t : ℕ) (g : _) (from : Source) (q : ℕ) → kind p t ≡ Some (Transfer g from Delivery) → has (writes p t) q ≡ true → ⊥
delivery_writes p laws t g from q e h = absurd (let x : false ≡ true = sym (ap (λ (k : Option TaskKind). kind_writes p.jobs k (pair_site p q) (pair_file p q)) e) ∙ written_file p laws t q h in cc)

pub swept_below : (p : Plan) → HasPlanLaws p → (t : ℕ) (x : _) → kind p t ≡ Some (CleanTask x) → x.0 < count_pairs p
swept_below p laws t x e = let h : nat_lt x.0 (count_pairs p) ≡ true = laws.kinds t (CleanTask x) e in grind (arith, h)

module _ (p : Plan) (proper : IsProper p) (laws : HasPlanLaws p) (c : ℕ → ℕ → Option (List ℕ)) (q t0 : ℕ) (b : List ℕ) (mine : has (writes p t0) q ≡ true) (is : c t0 (pair_file p q) ≡ Some b) where
  -- the publication of any pair leaves the pair's bytes
  put_leaves : (t x : ℕ) (o : Option (List ℕ)) → has (writes p t) x ≡ true → o ≡ Some b → left_at (pair_site_name p q) (pair_file_name p q) (publishes p c t x) o ≡ Some b
  put_leaves t x o w h = by_name (same (pair_site_name p q) (pair_site_name p x) && same (pair_file_name p q) (pair_file_name p x)) refl
    where
      bytes_are : q ≡ x → Some (or_nil (c t (pair_file p x))) ≡ Some b
      bytes_are e =
          let one = proper.flow.one_writer t t0 q (subst (λ z. has (writes p t) z ≡ true) (sym e) w) mine in
          ap (λ z. Some (or_nil (c t (pair_file p z)))) (sym e) ∙ ap (λ z. Some (or_nil (c z (pair_file p q)))) one ∙ ap (λ z. Some (or_nil z)) is

      by_name : (v : Bool) → (same (pair_site_name p q) (pair_site_name p x) && same (pair_file_name p q) (pair_file_name p x)) ≡ v → cond v (Some (or_nil (c t (pair_file p x)))) o ≡ Some b
      by_name true e =
          let parts = both (same (pair_site_name p q) (pair_site_name p x)) (same (pair_file_name p q) (pair_file_name p x)) e in
          bytes_are (names_apart p proper laws q x (written_below p laws t0 q mine) (written_below p laws t x w) (same_is (pair_site_name p q) (pair_site_name p x) parts.0) (same_is (pair_file_name p q) (pair_file_name p x) parts.1))
      by_name false e = h

  put_sets : (t : ℕ) (o : Option (List ℕ)) → has (writes p t) q ≡ true → left_at (pair_site_name p q) (pair_file_name p q) (publishes p c t q) o ≡ Some b
  put_sets t o w =
      ap (λ v. cond v (Some (or_nil (c t (pair_file p q)))) o) (both_same _ _ (same_self (pair_site_name p q)) (same_self (pair_file_name p q)))
      ∙ ap (λ z. Some (or_nil (c z (pair_file p q)))) (proper.flow.one_writer t t0 q w mine)
      ∙ ap (λ z. Some (or_nil z)) is

  puts_leave : (t : ℕ) (qs : List ℕ) (o : Option (List ℕ)) → ((x : ℕ) → has qs x ≡ true → has (writes p t) x ≡ true) → o ≡ Some b → left_by (pair_site_name p q) (pair_file_name p q) (map (publishes p c t) qs) o ≡ Some b
  puts_leave t [] o all h = h
  puts_leave t (y ∷ qs) o all h = puts_leave t qs _ (λ x e. all x (or_right (nat_eq y x) (has qs x) e)) (put_leaves t y o (all y (same_id y qs)) h)

  puts_set : (t : ℕ) (qs : List ℕ) (o : Option (List ℕ)) → ((x : ℕ) → has qs x ≡ true → has (writes p t) x ≡ true) → has qs q ≡ true → left_by (pair_site_name p q) (pair_file_name p q) (map (publishes p c t) qs) o ≡ Some b
  puts_set t [] o all h = absurd cc
  puts_set t (y ∷ qs) o all h = elim (either (nat_eq y q) (has qs q) h) [
    | inl e ↦ puts_leave t qs _ (λ x d. all x (or_right (nat_eq y x) (has qs x) d)) (set_by (same_number y q e))
    | inr e ↦ puts_set t qs _ (λ x d. all x (or_right (nat_eq y x) (has qs x) d)) e
  ]
    where
      set_by : y ≡ q → left_at (pair_site_name p q) (pair_file_name p q) (publishes p c t y) o ≡ Some b
      set_by e = ap (λ z. left_at (pair_site_name p q) (pair_file_name p q) (publishes p c t z) o) e ∙ put_sets t o (subst (λ z. has (writes p t) z ≡ true) e (all y (same_id y qs)))

  -- an Arrive
  arrive_leaves : (t : ℕ) (k : Option TaskKind) (o : Option (List ℕ)) → kind p t ≡ k → o ≡ Some b → left_by (pair_site_name p q) (pair_file_name p q) (arrival p (kind p t) (or_nil (moved (c t) (kind p t)))) o ≡ Some b
  arrive_leaves t None o e h = ap (λ (k : Option TaskKind). left_by (pair_site_name p q) (pair_file_name p q) (arrival p k (or_nil (moved (c t) k))) o) e ∙ h
  arrive_leaves t (Some (Transfer g from (Into a))) o e h = ap (λ l. left_by (pair_site_name p q) (pair_file_name p q) l o) (arrival_is p proper laws c t g from a e) ∙ puts_leave t (writes p t) o (λ x d. d) h
  arrive_leaves t (Some (Transfer g from Delivery)) o e h = ap (λ (k : Option TaskKind). left_by (pair_site_name p q) (pair_file_name p q) (arrival p k (or_nil (moved (c t) k))) o) e ∙ h
  arrive_leaves t (Some (Run s js)) o e h = ap (λ (k : Option TaskKind). left_by (pair_site_name p q) (pair_file_name p q) (arrival p k (or_nil (moved (c t) k))) o) e ∙ h
  arrive_leaves t (Some (CleanTask x)) o e h = ap (λ (k : Option TaskKind). left_by (pair_site_name p q) (pair_file_name p q) (arrival p k (or_nil (moved (c t) k))) o) e ∙ h

  arrive_sets : (t : ℕ) (k : Option TaskKind) (o : Option (List ℕ)) → kind p t ≡ k → is_transfer_kind k ≡ true → has (writes p t) q ≡ true → left_by (pair_site_name p q) (pair_file_name p q) (arrival p (kind p t) (or_nil (moved (c t) (kind p t)))) o ≡ Some b
  arrive_sets t None o e s h = absurd cc
  arrive_sets t (Some (Transfer g from (Into a))) o e s h = ap (λ l. left_by (pair_site_name p q) (pair_file_name p q) l o) (arrival_is p proper laws c t g from a e) ∙ puts_set t (writes p t) o (λ x d. d) h
  arrive_sets t (Some (Transfer g from Delivery)) o e s h = absurd (delivery_writes p laws t g from q e h)
  arrive_sets t (Some (Run a js)) o e s h = absurd cc
  arrive_sets t (Some (CleanTask x)) o e s h = absurd cc

  -- a Clean of another pair
  removes_other : (x : ℕ) (o : Option (List ℕ)) → x < count_pairs p → nat_eq x q ≡ false → o ≡ Some b → left_at (pair_site_name p q) (pair_file_name p q) (Removes (pair_site_name p x) (pair_file_name p x)) o ≡ Some b
  removes_other x o l other h = by_name (same (pair_site_name p q) (pair_site_name p x) && same (pair_file_name p q) (pair_file_name p x)) refl
    where
      by_name : (v : Bool) → (same (pair_site_name p q) (pair_site_name p x) && same (pair_file_name p q) (pair_file_name p x)) ≡ v → cond v None o ≡ Some b
      by_name true e =
          let parts = both (same (pair_site_name p q) (pair_site_name p x)) (same (pair_file_name p q) (pair_file_name p x)) e in
          let one : q ≡ x = names_apart p proper laws q x (written_below p laws t0 q mine) l (same_is (pair_site_name p q) (pair_site_name p x) parts.0) (same_is (pair_file_name p q) (pair_file_name p x) parts.1) in
          absurd (let k : false ≡ true = sym other ∙ ap (nat_eq x) one ∙ is_itself x in cc)
      by_name false e = h

  sweep_leaves : (t : ℕ) (k : Option TaskKind) (o : Option (List ℕ)) → kind p t ≡ k → kind_cleans k q ≡ false → o ≡ Some b → left_by (pair_site_name p q) (pair_file_name p q) (removal p (kind p t)) o ≡ Some b
  sweep_leaves t None o e f h = ap (λ (k : Option TaskKind). left_by (pair_site_name p q) (pair_file_name p q) (removal p k) o) e ∙ h
  sweep_leaves t (Some (Transfer g from to)) o e f h = ap (λ (k : Option TaskKind). left_by (pair_site_name p q) (pair_file_name p q) (removal p k) o) e ∙ h
  sweep_leaves t (Some (Run s js)) o e f h = ap (λ (k : Option TaskKind). left_by (pair_site_name p q) (pair_file_name p q) (removal p k) o) e ∙ h
  sweep_leaves t (Some (CleanTask x)) o e f h = ap (λ (k : Option TaskKind). left_by (pair_site_name p q) (pair_file_name p q) (removal p k) o) e ∙ removes_other x.0 o (swept_below p laws t x e) f h

  entry_leaves : (e : Event) (o : Option (List ℕ)) → frees p q e ≡ false → o ≡ Some b → left_by (pair_site_name p q) (pair_file_name p q) (changes_of p c e) o ≡ Some b
  entry_leaves (Grant w t) o f h = h
  entry_leaves (Regrant w t) o f h = h
  entry_leaves (Arrive w t n) o f h = arrive_leaves t (kind p t) o refl h
  entry_leaves (End w t ns) o f h = puts_leave t (writes p t) o (λ x e. e) h
  entry_leaves (Clean w t) o f h = sweep_leaves t (kind p t) o refl f h
  entry_leaves (Fail w t cause ns) o f h = puts_leave t (take (length ns) (writes p t)) o (λ x e. has_take (length ns) (writes p t) x e) h
  entry_leaves (Again w t cause ns) o f h = puts_leave t (take (length ns) (writes p t)) o (λ x e. has_take (length ns) (writes p t) x e) h

  entry_sets : (e : Event) (o : Option (List ℕ)) → Suits p e → publishes_pair p q e ≡ true → left_by (pair_site_name p q) (pair_file_name p q) (changes_of p c e) o ≡ Some b
  entry_sets (Grant w t) o s h = absurd cc
  entry_sets (Regrant w t) o s h = absurd cc
  entry_sets (Arrive w t n) o s h = arrive_sets t (kind p t) o refl s.0 h
  entry_sets (End w t ns) o s h = puts_set t (writes p t) o (λ x e. e) h
  entry_sets (Clean w t) o s h = absurd cc
  entry_sets (Fail w t cause ns) o s h = puts_set t (take (length ns) (writes p t)) o (λ x e. has_take (length ns) (writes p t) x e) h
  entry_sets (Again w t cause ns) o s h = puts_set t (take (length ns) (writes p t)) o (λ x e. has_take (length ns) (writes p t) x e) h

  record_leaves : (r : List Event) (o : Option (List ℕ)) → is_swept p r q ≡ false → o ≡ Some b → left_by (pair_site_name p q) (pair_file_name p q) (changes p c r) o ≡ Some b
  unfolding is_swept
  record_leaves [] o f h = h
  record_leaves (e ∷ r) o f h =
      let parts = or_both (frees p q e) (list_any (frees p q) r) f in
      left_append (pair_site_name p q) (pair_file_name p q) (changes_of p c e) (changes p c r) o ∙ record_leaves r _ parts.1 (entry_leaves e o parts.0 h)

  -- the pair holds what its writer carries, once it was published and before it is swept
  pub record_sets : (r : List Event) (o : Option (List ℕ)) → AllSuit p r → is_swept p r q ≡ false → is_published p r q ≡ true → left_by (pair_site_name p q) (pair_file_name p q) (changes p c r) o ≡ Some b
  unfolding is_swept is_published
  record_sets [] o s f h = absurd cc
  record_sets (e ∷ r) o s f h =
      let parts = or_both (frees p q e) (list_any (frees p q) r) f in
      left_append (pair_site_name p q) (pair_file_name p q) (changes_of p c e) (changes p c r) o ∙ elim (either (publishes_pair p q e) (list_any (publishes_pair p q) r) h) [
        | inl d ↦ record_leaves r _ parts.1 (entry_sets e o s.0 d)
        | inr d ↦ record_sets r _ s.1 parts.1 d
      ]

abbrev pub head_of : {A : Type 0} → A → List A → A
head_of d [] = d
head_of d (x ∷ xs) = x

abbrev pub tail_of : {A : Type 0} → List A → List A
tail_of [] = []
tail_of (x ∷ xs) = xs

-- a size that is known and within the declared one
abbrev pub IsSized : Plan → Option (List ℕ) → ℕ → Type 0
IsSized p o f = (n : ℕ) × (option_map length o ≡ Some n) × (n ≤ or_zero (declared p f))

sizes_at : (p : Plan) (c : ℕ → ℕ → Option (List ℕ)) (t q : ℕ) (qs ns : List ℕ) → map (λ x. option_map length (c t (pair_file p x))) (take (length ns) qs) ≡ map Some ns → AreOfFirst p qs ns → has (take (length ns) qs) q ≡ true → q < count_pairs p → IsSized p (c t (pair_file p q)) (pair_file p q)
sizes_at p c t q [] [] is small h l = absurd cc
sizes_at p c t q [] (n ∷ ns) is small h l = absurd small
sizes_at p c t q (y ∷ qs) [] is small h l = absurd cc
sizes_at p c t q (y ∷ qs) (n ∷ ns) is small h l = elim (either (nat_eq y q) (has (take (length ns) qs) q) h) [
  | inl e ↦ sized (same_number y q e)
  | inr e ↦ sizes_at p c t q qs ns (ap tail_of is) small.1 e l
]
  where
    sized : y ≡ q → IsSized p (c t (pair_file p q)) (pair_file p q)
    sized e = (n, ap (λ z. option_map length (c t (pair_file p z))) (sym e) ∙ ap (head_of None) is, subst (λ z. n ≤ z) (ap (good_size p) e ∙ good_of p q l) small.0)

-- what the writer of a pair carries is known once it was published
abbrev pub IsWritten : Plan → (ℕ → ℕ → Option (List ℕ)) → ℕ → Type 0
IsWritten p c q = (t : ℕ) × (has (writes p t) q ≡ true) × IsSized p (c t (pair_file p q)) (pair_file p q)

module _ (apply : Apply) (told : List ℕ → Option (List ℕ)) (p : Plan) (proper : IsProper p) (laws : HasPlanLaws p) (c : ℕ → ℕ → Option (List ℕ)) (q : ℕ) where
  list_sized : (t : ℕ) (ns : List ℕ) → AreSizes p c t ns → AreOfFirst p (writes p t) ns → has (take (length ns) (writes p t)) q ≡ true → IsWritten p c q
  list_sized t ns is small h = let w = has_take (length ns) (writes p t) q h in (t, w, sizes_at p c t q (writes p t) ns is small h (written_below p laws t q w))

  arrive_sized : (t n : ℕ) (k : Option TaskKind) → kind p t ≡ k → is_transfer_kind k ≡ true → ((g : ℕ) → has (makes p t) g ≡ true → n ≤ good_size p g) → IsLongAs n (moved (c t) (kind p t)) → has (writes p t) q ≡ true → IsWritten p c q
  unfolding makes is_delivery
  arrive_sized t n None e s small is h = absurd cc
  arrive_sized t n (Some (Run a js)) e s small is h = absurd cc
  arrive_sized t n (Some (CleanTask x)) e s small is h = absurd cc
  arrive_sized t n (Some (Transfer g from Delivery)) e s small is h = absurd (delivery_writes p laws t g from q e h)
  arrive_sized t n (Some (Transfer g from (Into a))) e s small is h =
      let found = transfer_writes p proper laws t g from a e in
      let mine : has (found.0 ∷ []) q ≡ true = subst (λ l. has l q ≡ true) found.3 h in
      let one : found.0 ≡ q = grind (arith, mine) in
      let file : pair_file p q ≡ g.0 = ap (pair_file p) (sym one) ∙ found.2 in
      let made : has (makes p t) q ≡ true = ap (λ (o : Option TaskKind). has (cond (is_delivery_kind o) ((count_pairs p + t) ∷ []) (writes p t)) q) e ∙ h in
      let long : option_map length (c t g.0) ≡ Some n = sym (ap (λ (o : Option TaskKind). option_map length (moved (c t) o)) e) ∙ is in
      (t, h, (n, ap (λ z. option_map length (c t z)) file ∙ long, subst (λ z. n ≤ z) (good_of p q (written_below p laws t q h)) (small q made)))

  entry_sized : (e : Event) → Suits p e → IsTrue apply told p c e → publishes_pair p q e ≡ true → IsWritten p c q
  entry_sized (Grant w t) s is h = absurd cc
  entry_sized (Regrant w t) s is h = absurd cc
  entry_sized (Arrive w t n) s is h = arrive_sized t n (kind p t) refl s.0 s.1 is.0 h
  entry_sized (End w t ns) s is h = let all = end_writes p t ns s.0 s.1 in list_sized t ns is all.1 (subst (λ l. has l q ≡ true) (sym all.0) h)
  entry_sized (Clean w t) s is h = absurd cc
  entry_sized (Fail w t cause ns) s is h = list_sized t ns is.0 (fail_writes p t ns s) h
  entry_sized (Again w t cause ns) s is h = list_sized t ns is (fail_writes p t ns s) h

  pub record_sized : (r : List Event) → AllSuit p r → Truthful apply told p c r → is_published p r q ≡ true → IsWritten p c q
  unfolding is_published
  record_sized [] s is h = absurd cc
  record_sized (e ∷ r) s is h = elim (either (publishes_pair p q e) (list_any (publishes_pair p q) r) h) [
    | inl d ↦ entry_sized e s.0 is.0 d
    | inr d ↦ record_sized r s.1 is.1 d
  ]
