-- The delivered files are the marked ones with each delivery that arrived.
use Rattle.std.proofs.Common.{◌≡◌, ℕ, ◌<◌, ◌⊎◌, inl, inr, Bool, true, false, cond, List, [], ◌∷◌, ◌++◌, map, length, take, refl, sym, ap, ◌∙◌, subst, nat_lt, arith}
use Rattle.std.specs.Prelude.{Option, Some, None, option_map}
use Rattle.std.specs.List.{list_any}
use Rattle.std.specs.FinMap as files
use Rattle.std.specs.FinMap.{get-insert}
use Rattle.std.proofs.lemmas.Cmp.{nat_list_cmp_total}
use Rattle.outside.specs.code.Store.{Change, Publishes, Delivers, Removes, changed, changed_by}
use Rattle.values.specs.Apply.{Apply}
use Rattle.outside.specs.declared.store.Store.{Store}
use Rattle.plan_core.specs.declared.plan.Plan.{Plan}
use Rattle.plan_core.specs.declared.plan.TaskKind.{TaskKind}
use Rattle.plan_core.specs.declared.plan.TaskKind.TheVariants.{Transfer, Run, Clean as CleanTask}
use Rattle.plan_core.specs.declared.plan.Target.TheVariants.{Site as Into, Delivery}
use Rattle.plan_core.specs.code.Proper.{IsProper}
use Rattle.plan_core.specs.Words.{delivers, kind, kind_delivers, writes}
use Rattle.plan_core.proofs.TestLemmas.{both, either, is_itself, or_left, or_right, same_number}
use Rattle.run_record.specs.Events.{Event, Grant, Arrive, End, Clean, Fail, Again, Regrant}
use Rattle.site_yard.specs.code.Changes.{arrival, changes, changes_of, moved, or_nil, publishes, removal}
use Rattle.site_yard.specs.Changes.{carries}
use Rattle.site_yard.specs.code.Kept.{IsTruthful}
use Rattle.site_yard.specs.code.Law.{HasPlanLaws}
use Rattle.plan_core.specs.Names.{file_name}
use Rattle.site_yard.specs.code.Places.{IsUndelivered, delivers_file, is_delivered}
use Rattle.site_yard.specs.code.Truthful.{IsTrue, Truthful}
use Rattle.site_yard.proofs.PlaceLemmas.{same, same_is, same_self}
use Rattle.site_yard.proofs.PlanLemmas.{one_file}
use Rattle.site_yard.proofs.SourceLemmas.{known}

-- what a change leaves of a delivered name
abbrev taken : List ℕ → Change → Option (List ℕ) → Option (List ℕ)
taken n (Publishes site name bytes) x = x
taken n (Delivers name bytes) x = cond (same n name) (Some bytes) x
taken n (Removes site name) x = x

abbrev taken_by : List ℕ → List Change → Option (List ℕ) → Option (List ℕ)
taken_by n [] x = x
taken_by n (c ∷ cs) x = taken_by n cs (taken n c x)

delivered_changed : (st : Store) (cs : List Change) (n : List ℕ) → files.get (changed_by st cs).delivered n ≡ taken_by n cs (files.get st.delivered n)
delivered_changed st [] n = refl
delivered_changed st (Publishes site name bytes ∷ cs) n = delivered_changed (changed st (Publishes site name bytes)) cs n
delivered_changed st (Delivers name bytes ∷ cs) n = delivered_changed (changed st (Delivers name bytes)) cs n ∙ ap (taken_by n cs) (get-insert nat_list_cmp_total st.delivered name bytes n)
delivered_changed st (Removes site name ∷ cs) n = delivered_changed (changed st (Removes site name)) cs n

taken_append : (n : List ℕ) (xs ys : List Change) (x : Option (List ℕ)) → taken_by n (xs ++ ys) x ≡ taken_by n ys (taken_by n xs x)
taken_append n [] ys x = refl
taken_append n (c ∷ xs) ys x = taken_append n xs ys (taken n c x)

taken_puts : (p : Plan) (c : ℕ → ℕ → Option (List ℕ)) (n : List ℕ) (t : ℕ) (qs : List ℕ) (x : Option (List ℕ)) → taken_by n (map (publishes p c t) qs) x ≡ x
taken_puts p c n t [] x = refl
taken_puts p c n t (q ∷ qs) x = taken_puts p c n t qs x

taken_removal : (p : Plan) (n : List ℕ) (k : Option TaskKind) (x : Option (List ℕ)) → taken_by n (removal p k) x ≡ x
taken_removal p n None x = refl
taken_removal p n (Some (Transfer g from to)) x = refl
taken_removal p n (Some (Run s js)) x = refl
taken_removal p n (Some (CleanTask q)) x = refl

-- an entry that delivers no file of this name
arrive_off : (p : Plan) (v : ℕ → Option (List ℕ)) (n : List ℕ) (k : Option TaskKind) (x : Option (List ℕ)) → ((f : ℕ) → kind_delivers k f ≡ true → file_name p f ≡ n → ⊥) → taken_by n (arrival p k (or_nil (moved v k))) x ≡ x
arrive_off p v n None x h = refl
arrive_off p v n (Some (Run s js)) x h = refl
arrive_off p v n (Some (CleanTask q)) x h = refl
arrive_off p v n (Some (Transfer g from (Into a))) x h = refl
arrive_off p v n (Some (Transfer g from Delivery)) x h = by_name (same n (file_name p g.0)) refl
  where
    by_name : (b : Bool) → same n (file_name p g.0) ≡ b → cond b (Some (or_nil (v g.0))) x ≡ x
    by_name true e = absurd (h g.0 (is_itself g.0) (sym (same_is n (file_name p g.0) e)))
    by_name false e = refl

entry_off : (p : Plan) (c : ℕ → ℕ → Option (List ℕ)) (n : List ℕ) (e : Event) (x : Option (List ℕ)) → ((f : ℕ) → delivers_file p f e ≡ true → file_name p f ≡ n → ⊥) → taken_by n (changes_of p c e) x ≡ x
entry_off p c n (Grant w t) x h = refl
entry_off p c n (Regrant w t) x h = refl
entry_off p c n (Arrive w t k) x h = arrive_off p (c t) n (kind p t) x h
entry_off p c n (End w t ns) x h = taken_puts p c n t (writes p t) x
entry_off p c n (Clean w t) x h = taken_removal p n (kind p t) x
entry_off p c n (Fail w t cause ns) x h = taken_puts p c n t (take (length ns) (writes p t)) x
entry_off p c n (Again w t cause ns) x h = taken_puts p c n t (take (length ns) (writes p t)) x

record_off : (p : Plan) (c : ℕ → ℕ → Option (List ℕ)) (n : List ℕ) (r : List Event) (x : Option (List ℕ)) → IsUndelivered p r n → taken_by n (changes p c r) x ≡ x
unfolding is_delivered
record_off p c n [] x h = refl
record_off p c n (e ∷ r) x h =
    taken_append n (changes_of p c e) (changes p c r) x
    ∙ record_off p c n r _ (λ f d. h f (or_right (delivers_file p f e) (list_any (delivers_file p f) r) d))
    ∙ entry_off p c n e x (λ f d. h f (or_left (delivers_file p f e) (list_any (delivers_file p f) r) d))

pub undelivered_kept : (p : Plan) (apply : Apply) (r : List Event) (s m : Store) → s ≡ changed_by m (changes p (carries apply p m) r) → (name : List ℕ) → IsUndelivered p r name → files.get s.delivered name ≡ files.get m.delivered name
undelivered_kept p apply r s m changed_ name h =
    ap (λ z. files.get z.delivered name) changed_ ∙ delivered_changed m (changes p (carries apply p m) r) name ∙ record_off p (carries apply p m) name r _ h

deliverer : (k : Option TaskKind) (f : ℕ) → kind_delivers k f ≡ true → (g : _) × (from : _) × (k ≡ Some (Transfer g from Delivery)) × (g.0 ≡ f)
deliverer None f h = absurd cc
deliverer (Some (Run s js)) f h = absurd cc
deliverer (Some (CleanTask q)) f h = absurd cc
deliverer (Some (Transfer g from (Into a))) f h = absurd cc
deliverer (Some (Transfer g from Delivery)) f h = (g, from, refl, same_number g.0 f h)

module _ (p : Plan) (proper : IsProper p) (plan_laws : HasPlanLaws p) (c : ℕ → ℕ → Option (List ℕ)) (t0 f : ℕ) (b : List ℕ) (mine : delivers p t0 f ≡ true) (is : c t0 f ≡ Some b) where
  in_files : (t g : ℕ) → delivers p t g ≡ true → g < length p.files
  in_files t g h =
      let found = deliverer (kind p t) g h in
      let x = plan_laws.kinds t (Transfer found.0 found.1 Delivery) found.2 in
      let low = (both (nat_lt found.0.0 (length p.files)) _ x).0 in
      let l : found.0.0 < length p.files = grind (arith, low) in
      subst (λ z. z < length p.files) found.3 l

  -- an Arrive leaves or sets what was delivered
  arrive_sets : (t : ℕ) (k : Option TaskKind) (x : Option (List ℕ)) → kind p t ≡ k → (x ≡ Some b) ⊎ (kind_delivers k f ≡ true) → taken_by (file_name p f) (arrival p k (or_nil (moved (c t) k))) x ≡ Some b
  arrive_sets t None x e (inl h) = h
  arrive_sets t None x e (inr h) = absurd cc
  arrive_sets t (Some (Run s js)) x e (inl h) = h
  arrive_sets t (Some (Run s js)) x e (inr h) = absurd cc
  arrive_sets t (Some (CleanTask q)) x e (inl h) = h
  arrive_sets t (Some (CleanTask q)) x e (inr h) = absurd cc
  arrive_sets t (Some (Transfer g from (Into a))) x e (inl h) = h
  arrive_sets t (Some (Transfer g from (Into a))) x e (inr h) = absurd cc
  arrive_sets t (Some (Transfer g from Delivery)) x e h = by_name (same (file_name p f) (file_name p g.0)) refl
    where
      it : delivers p t g.0 ≡ true
      it = ap (λ (k : Option TaskKind). kind_delivers k g.0) e ∙ is_itself g.0

      bytes_are : f ≡ g.0 → Some (or_nil (c t g.0)) ≡ Some b
      bytes_are d =
          let one = proper.flow.one_delivery t t0 f (subst (λ z. delivers p t z ≡ true) (sym d) it) mine in
          ap (λ z. Some (or_nil (c t z))) (sym d) ∙ ap (λ z. Some (or_nil (c z f))) one ∙ ap (λ z. Some (or_nil z)) is

      other : (x ≡ Some b) ⊎ (kind_delivers (Some (Transfer g from Delivery)) f ≡ true) → same (file_name p f) (file_name p g.0) ≡ false → x ≡ Some b
      other (inl k) d = k
      other (inr k) d = absurd (let y : true ≡ false = sym (same_self (file_name p f)) ∙ ap (λ z. same (file_name p f) (file_name p z)) (sym (same_number g.0 f k)) ∙ d in cc)

      by_name : (v : Bool) → same (file_name p f) (file_name p g.0) ≡ v → cond v (Some (or_nil (c t g.0))) x ≡ Some b
      by_name true d = bytes_are (one_file p proper f g.0 (in_files t0 f mine) (in_files t g.0 it) (same_is (file_name p f) (file_name p g.0) d))
      by_name false d = other h d

  entry_sets : (e : Event) (x : Option (List ℕ)) → (x ≡ Some b) ⊎ (delivers_file p f e ≡ true) → taken_by (file_name p f) (changes_of p c e) x ≡ Some b
  entry_sets (Grant w t) x (inl h) = h
  entry_sets (Grant w t) x (inr h) = absurd cc
  entry_sets (Regrant w t) x (inl h) = h
  entry_sets (Regrant w t) x (inr h) = absurd cc
  entry_sets (Arrive w t n) x h = arrive_sets t (kind p t) x refl h
  entry_sets (End w t ns) x (inl h) = taken_puts p c (file_name p f) t (writes p t) x ∙ h
  entry_sets (End w t ns) x (inr h) = absurd cc
  entry_sets (Clean w t) x (inl h) = taken_removal p (file_name p f) (kind p t) x ∙ h
  entry_sets (Clean w t) x (inr h) = absurd cc
  entry_sets (Fail w t cause ns) x (inl h) = taken_puts p c (file_name p f) t (take (length ns) (writes p t)) x ∙ h
  entry_sets (Fail w t cause ns) x (inr h) = absurd cc
  entry_sets (Again w t cause ns) x (inl h) = taken_puts p c (file_name p f) t (take (length ns) (writes p t)) x ∙ h
  entry_sets (Again w t cause ns) x (inr h) = absurd cc

  record_leaves : (r : List Event) (x : Option (List ℕ)) → x ≡ Some b → taken_by (file_name p f) (changes p c r) x ≡ Some b
  record_leaves [] x h = h
  record_leaves (e ∷ r) x h = taken_append (file_name p f) (changes_of p c e) (changes p c r) x ∙ record_leaves r _ (entry_sets e x (inl h))

  record_sets : (r : List Event) (x : Option (List ℕ)) → is_delivered p r f ≡ true → taken_by (file_name p f) (changes p c r) x ≡ Some b
  unfolding is_delivered
  record_sets [] x h = absurd cc
  record_sets (e ∷ r) x h = taken_append (file_name p f) (changes_of p c e) (changes p c r) x ∙ elim (either (delivers_file p f e) (list_any (delivers_file p f) r) h) [
    | inl d ↦ record_leaves r _ (entry_sets e x (inr d))
    | inr d ↦ record_sets r _ d
  ]

-- the task that has delivered a file carries it
delivery_sized : (apply : Apply) (told : List ℕ → Option (List ℕ)) (p : Plan) (c : ℕ → ℕ → Option (List ℕ)) (e : Event) (f : ℕ) → IsTrue apply told p c e → delivers_file p f e ≡ true → (t : ℕ) × (n : ℕ) × (delivers p t f ≡ true) × (option_map length (c t f) ≡ Some n)
delivery_sized apply told p c (Grant w t) f is h = absurd cc
delivery_sized apply told p c (Regrant w t) f is h = absurd cc
delivery_sized apply told p c (End w t ns) f is h = absurd cc
delivery_sized apply told p c (Clean w t) f is h = absurd cc
delivery_sized apply told p c (Fail w t cause ns) f is h = absurd cc
delivery_sized apply told p c (Again w t cause ns) f is h = absurd cc
delivery_sized apply told p c (Arrive w t n) f is h =
    let found = deliverer (kind p t) f h in
    (t, n, h, ap (λ z. option_map length (c t z)) (sym found.3) ∙ sym (ap (λ (k : Option TaskKind). option_map length (moved (c t) k)) found.2) ∙ is.0)

record_delivers : (apply : Apply) (told : List ℕ → Option (List ℕ)) (p : Plan) (c : ℕ → ℕ → Option (List ℕ)) (r : List Event) (f : ℕ) → Truthful apply told p c r → is_delivered p r f ≡ true → (t : ℕ) × (n : ℕ) × (delivers p t f ≡ true) × (option_map length (c t f) ≡ Some n)
unfolding is_delivered
record_delivers apply told p c [] f is h = absurd cc
record_delivers apply told p c (e ∷ r) f is h = elim (either (delivers_file p f e) (list_any (delivers_file p f) r) h) [
  | inl d ↦ delivery_sized apply told p c e f is.0 d
  | inr d ↦ record_delivers apply told p c r f is.1 d
]

-- a file that was delivered is what its delivery carries
pub delivered_kept : (p : Plan) → IsProper p → HasPlanLaws p → (apply : Apply) (r : List Event) (s m : Store) → s ≡ changed_by m (changes p (carries apply p m) r) → IsTruthful apply p m r → (f : ℕ) → is_delivered p r f ≡ true
    → (t : ℕ) × (n : ℕ) × (delivers p t f ≡ true) × (files.get s.delivered (file_name p f) ≡ carries apply p m t f) × (option_map length (carries apply p m t f) ≡ Some n)
delivered_kept p proper plan_laws apply r s m changed_ truthful f h =
    let c : ℕ → ℕ → Option (List ℕ) = carries apply p m in
    let found = record_delivers apply (λ pfn. files.get m.replicas pfn) p c r f truthful h in
    let t : ℕ = found.0 in
    let is = known (c t f) found.1 found.3 in (
      t,
      found.1,
      found.2,
      ap (λ z. files.get z.delivered (file_name p f)) changed_ ∙ delivered_changed m (changes p c r) (file_name p f) ∙ record_sets p proper plan_laws c t f (or_nil (c t f)) found.2 is r _ h ∙ sym is,
      found.3,
    )
