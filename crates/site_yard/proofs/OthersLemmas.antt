-- A name that no entry has published or swept is as it was marked.
use Rattle.std.proofs.Common.{◌≡◌, ℕ, Bool, true, false, cond, ◌&&◌, ◌||◌, List, [], ◌∷◌, map, length, take, refl, sym, ap, ◌∙◌, nat_eq}
use Rattle.std.specs.Prelude.{Option, Some, None}
use Rattle.std.specs.List.{list_any}
use Rattle.values.specs.code.SiteMap.{pair_at}
use Rattle.values.specs.Apply.{Apply}
use Rattle.outside.specs.code.Store.{changed_by}
use Rattle.outside.specs.declared.store.Store.{Store}
use Rattle.plan_core.specs.declared.plan.Plan.{Plan}
use Rattle.plan_core.specs.declared.plan.TaskKind.{TaskKind}
use Rattle.plan_core.specs.declared.plan.TaskKind.TheVariants.{Transfer, Run, Clean as CleanTask}
use Rattle.plan_core.specs.declared.plan.Target.TheVariants.{Site as Into, Delivery}
use Rattle.plan_core.specs.Numbers.{has}
use Rattle.plan_core.specs.code.Proper.{IsProper}
use Rattle.plan_core.specs.Words.{kind, kind_cleans, writes}
use Rattle.plan_core.proofs.TestLemmas.{both, is_itself, or_left, or_right}
use Rattle.run_record.specs.Events.{Event, Grant, Arrive, End, Clean, Fail, Again, Regrant}
use Rattle.lease_rules.specs.code.Reading.{frees}
use Rattle.site_yard.specs.code.Changes.{arrival, changes, changes_of, moved, or_nil, publishes, removal}
use Rattle.site_yard.specs.Changes.{carries}
use Rattle.site_yard.specs.code.Law.{HasPlanLaws}
use Rattle.plan_core.specs.Names.{pair_file_name, pair_site_name}
use Rattle.site_yard.specs.code.Places.{IsUntouched, is_published, is_swept, publishes_pair}
use Rattle.site_yard.proofs.HoldsLemmas.{arrival_is, same_id}
use Rattle.site_yard.proofs.PlaceLemmas.{left_append, left_by, pair_changed, same, same_is}

-- no pair that the entry publishes or sweeps has this name
abbrev IsApart : Plan → Event → List ℕ → List ℕ → Type 0
IsApart p e s n = (q : ℕ) → (publishes_pair p q e || frees p q e) ≡ true → pair_site_name p q ≡ s → pair_file_name p q ≡ n → ⊥

module _ (p : Plan) (proper : IsProper p) (plan_laws : HasPlanLaws p) (c : ℕ → ℕ → Option (List ℕ)) (s n : List ℕ) where
  off : (q : ℕ) → (pair_site_name p q ≡ s → pair_file_name p q ≡ n → ⊥) → (v : Bool) → (same s (pair_site_name p q) && same n (pair_file_name p q)) ≡ v → (x y : Option (List ℕ)) → cond v x y ≡ y
  off q apart true e x y = let parts = both (same s (pair_site_name p q)) (same n (pair_file_name p q)) e in absurd (apart (sym (same_is s (pair_site_name p q) parts.0)) (sym (same_is n (pair_file_name p q) parts.1)))
  off q apart false e x y = refl

  puts_off : (t : ℕ) (qs : List ℕ) → ((q : ℕ) → has qs q ≡ true → pair_site_name p q ≡ s → pair_file_name p q ≡ n → ⊥) → (x : Option (List ℕ)) → left_by s n (map (publishes p c t) qs) x ≡ x
  puts_off t [] apart x = refl
  puts_off t (q ∷ qs) apart x = puts_off t qs (λ y h. apart y (or_right (nat_eq q y) (has qs y) h)) _ ∙ off q (apart q (same_id q qs)) (same s (pair_site_name p q) && same n (pair_file_name p q)) refl _ x

  arrive_off : (t : ℕ) (k : Option TaskKind) → kind p t ≡ k → ((q : ℕ) → has (writes p t) q ≡ true → pair_site_name p q ≡ s → pair_file_name p q ≡ n → ⊥) → (x : Option (List ℕ)) → left_by s n (arrival p (kind p t) (or_nil (moved (c t) (kind p t)))) x ≡ x
  arrive_off t None e apart x = ap (λ (k : Option TaskKind). left_by s n (arrival p k (or_nil (moved (c t) k))) x) e
  arrive_off t (Some (Transfer g from (Into a))) e apart x = ap (λ l. left_by s n l x) (arrival_is p proper plan_laws c t g from a e) ∙ puts_off t (writes p t) apart x
  arrive_off t (Some (Transfer g from Delivery)) e apart x = ap (λ (k : Option TaskKind). left_by s n (arrival p k (or_nil (moved (c t) k))) x) e
  arrive_off t (Some (Run a js)) e apart x = ap (λ (k : Option TaskKind). left_by s n (arrival p k (or_nil (moved (c t) k))) x) e
  arrive_off t (Some (CleanTask q)) e apart x = ap (λ (k : Option TaskKind). left_by s n (arrival p k (or_nil (moved (c t) k))) x) e

  sweep_off : (t : ℕ) (k : Option TaskKind) → kind p t ≡ k → ((q : ℕ) → kind_cleans k q ≡ true → pair_site_name p q ≡ s → pair_file_name p q ≡ n → ⊥) → (x : Option (List ℕ)) → left_by s n (removal p k) x ≡ x
  sweep_off t None e apart x = refl
  sweep_off t (Some (Transfer g from to)) e apart x = refl
  sweep_off t (Some (Run a js)) e apart x = refl
  sweep_off t (Some (CleanTask q)) e apart x = off q.0 (apart q.0 (is_itself q.0)) (same s (pair_site_name p q.0) && same n (pair_file_name p q.0)) refl None x

  entry_off : (e : Event) → IsApart p e s n → (x : Option (List ℕ)) → left_by s n (changes_of p c e) x ≡ x
  entry_off (Grant w t) apart x = refl
  entry_off (Regrant w t) apart x = refl
  entry_off (Arrive w t k) apart x = arrive_off t (kind p t) refl (λ q h. apart q (or_left (has (writes p t) q) false h)) x
  entry_off (End w t ns) apart x = puts_off t (writes p t) (λ q h. apart q (or_left (has (writes p t) q) false h)) x
  entry_off (Clean w t) apart x = sweep_off t (kind p t) refl (λ q h. apart q h) x
  entry_off (Fail w t cause ns) apart x = puts_off t (take (length ns) (writes p t)) (λ q h. apart q (or_left (has (take (length ns) (writes p t)) q) false h)) x
  entry_off (Again w t cause ns) apart x = puts_off t (take (length ns) (writes p t)) (λ q h. apart q (or_left (has (take (length ns) (writes p t)) q) false h)) x

  first_of : (a b x y : Bool) → (a || b) ≡ true → ((a || x) || (b || y)) ≡ true
  first_of true b x y h = refl
  first_of false true x y h = or_right x true refl
  first_of false false x y h = absurd cc

  rest_of : (a b x y : Bool) → (x || y) ≡ true → ((a || x) || (b || y)) ≡ true
  rest_of true b x y h = refl
  rest_of false b true y h = refl
  rest_of false true false true h = refl
  rest_of false false false true h = refl
  rest_of false b false false h = absurd cc

  pub record_off : (r : List Event) → IsUntouched p r s n → (x : Option (List ℕ)) → left_by s n (changes p c r) x ≡ x
  unfolding is_published is_swept
  record_off [] apart x = refl
  record_off (e ∷ r) apart x =
      left_append s n (changes_of p c e) (changes p c r) x
      ∙ record_off r (λ q h. apart q (rest_of (publishes_pair p q e) (frees p q e) (list_any (publishes_pair p q) r) (list_any (frees p q) r) h)) _
      ∙ entry_off e (λ q h. apart q (first_of (publishes_pair p q e) (frees p q e) (list_any (publishes_pair p q) r) (list_any (frees p q) r) h)) x

pub others_kept : (p : Plan) → IsProper p → HasPlanLaws p → (apply : Apply) (r : List Event) (s m : Store) → s ≡ changed_by m (changes p (carries apply p m) r) → (site name : List ℕ) → IsUntouched p r site name → pair_at s.scratch site name ≡ pair_at m.scratch site name
others_kept p proper plan_laws apply r s m changed site name apart =
    ap (λ z. pair_at z.scratch site name) changed ∙ pair_changed m (changes p (carries apply p m) r) site name ∙ record_off p proper plan_laws (carries apply p m) site name r apart _
