-- A pair whose writer has ended and that wasn't swept holds what the writer carries: it was published since the opening,
-- or the premise says so and it is untouched since.
use Rattle.std.proofs.Common.{◌≡◌, ℕ, ◌<◌, inl, inr, Bool, true, false, ◌||◌, List, [], ◌∷◌, ◌++◌, length, refl, sym, ap, ◌∙◌, subst}
use Rattle.std.specs.Prelude.{Option, Some, None, option_map}
use Rattle.std.specs.List.{list_any}
use Rattle.std.specs.FinMap as files
use Rattle.std.proofs.lemmas.List.Folds.{list_any-append}
use Rattle.values.specs.code.SiteMap.{pair_at}
use Rattle.values.specs.Apply.{Apply}
use Rattle.outside.specs.declared.counts.Counts.{Counts}
use Rattle.outside.specs.declared.store.Store.{Store}
use Rattle.plan_core.specs.declared.plan.Plan.{Plan}
use Rattle.plan_core.specs.declared.plan.TaskKind.{TaskKind}
use Rattle.plan_core.specs.declared.plan.TaskKind.TheVariants.{Transfer, Run, Clean as CleanTask}
use Rattle.plan_core.specs.Numbers.{has}
use Rattle.plan_core.specs.code.Proper.{IsProper}
use Rattle.plan_core.specs.Words.{count_pairs, kind, kind_cleans, writes}
use Rattle.plan_core.proofs.TestLemmas.{either, same_number}
use Rattle.run_record.specs.Events.{Event, Grant, Arrive, End, Clean, Fail, Again, Regrant}
use Rattle.lease_rules.specs.Legal.{Legal}
use Rattle.lease_rules.specs.code.Reading.{ends, frees}
use Rattle.lease_rules.specs.State.{opened}
use Rattle.site_yard.specs.Changes.{carries}
use Rattle.site_yard.specs.code.Changes.{changes, or_nil}
use Rattle.site_yard.specs.code.Kept.{IsKept, IsOpening}
use Rattle.site_yard.specs.code.Law.{HasPlanLaws, HasRecordLaws}
use Rattle.site_yard.specs.code.Loan.{at_pair}
use Rattle.plan_core.specs.Names.{pair_file, pair_file_name, pair_site_name}
use Rattle.site_yard.specs.code.Places.{is_published, is_swept, publishes_pair}
use Rattle.site_yard.proofs.HoldsLemmas.{or_both, record_sets, record_sized, swept_below}
use Rattle.site_yard.proofs.OthersLemmas.{record_off}
use Rattle.site_yard.proofs.PlaceLemmas.{left_by, pair_changed}
use Rattle.site_yard.proofs.PlanLemmas.{names_apart, written_below}
use Rattle.site_yard.proofs.SuitsLemmas.{AllSuit, ended_published, has_take, legal_suits}

cleaner : (k : Option TaskKind) (q : ℕ) → kind_cleans k q ≡ true → (x : _) × (k ≡ Some (CleanTask x)) × (x.0 ≡ q)
cleaner None q h = absurd cc
cleaner (Some (Transfer g from to)) q h = absurd cc
cleaner (Some (Run s js)) q h = absurd cc
cleaner (Some (CleanTask x)) q h = (x, refl, same_number x.0 q h)

-- a pair that was published or swept is one of the plan
swept_at : (p : Plan) → HasPlanLaws p → (q : ℕ) (e : Event) → frees p q e ≡ true → q < count_pairs p
swept_at p laws q (Grant w t) h = absurd cc
swept_at p laws q (Regrant w t) h = absurd cc
swept_at p laws q (Arrive w t n) h = absurd cc
swept_at p laws q (End w t ns) h = absurd cc
swept_at p laws q (Fail w t cause ns) h = absurd cc
swept_at p laws q (Again w t cause ns) h = absurd cc
swept_at p laws q (Clean w t) h = let found = cleaner (kind p t) q h in subst (λ z. z < count_pairs p) found.2 (swept_below p laws t found.0 found.1)

published_at_entry : (p : Plan) → HasPlanLaws p → (q : ℕ) (e : Event) → publishes_pair p q e ≡ true → q < count_pairs p
published_at_entry p laws q (Grant w t) h = absurd cc
published_at_entry p laws q (Regrant w t) h = absurd cc
published_at_entry p laws q (Arrive w t n) h = written_below p laws t q h
published_at_entry p laws q (End w t ns) h = written_below p laws t q h
published_at_entry p laws q (Fail w t cause ns) h = written_below p laws t q (has_take (length ns) (writes p t) q h)
published_at_entry p laws q (Again w t cause ns) h = written_below p laws t q (has_take (length ns) (writes p t) q h)
published_at_entry p laws q (Clean w t) h = absurd cc

some_entry : (p : Plan) (q : ℕ) (test : Event → Bool) → ((e : Event) → test e ≡ true → q < count_pairs p) → (r : List Event) → list_any test r ≡ true → q < count_pairs p
some_entry p q test at [] h = absurd cc
some_entry p q test at (e ∷ r) h = elim (either (test e) (list_any test r) h) [
  | inl d ↦ at e d
  | inr d ↦ some_entry p q test at r d
]

touched_below : (p : Plan) → HasPlanLaws p → (r : List Event) (q : ℕ) → (is_published p r q || is_swept p r q) ≡ true → q < count_pairs p
unfolding is_published is_swept
touched_below p laws r q h = elim (either (list_any (publishes_pair p q) r) (list_any (frees p q) r) h) [
  | inl d ↦ some_entry p q (publishes_pair p q) (published_at_entry p laws q) r d
  | inr d ↦ some_entry p q (frees p q) (swept_at p laws q) r d
]

swept_parts : (p : Plan) (first r : List Event) (q : ℕ) → is_swept p (first ++ r) q ≡ false → (is_swept p first q ≡ false) × (is_swept p r q ≡ false)
unfolding is_swept
swept_parts p first r q h = or_both (list_any (frees p q) first) (list_any (frees p q) r) (sym (list_any-append (frees p q) first r) ∙ h)

suits_since : (p : Plan) (first r : List Event) → AllSuit p (first ++ r) → AllSuit p r
suits_since p [] r h = h
suits_since p (e ∷ first) r h = suits_since p first r h.1

known : (o : Option (List ℕ)) (n : ℕ) → option_map length o ≡ Some n → o ≡ Some (or_nil o)
known None n e = absurd cc
known (Some b) n e = refl

module _ (p : Plan) (proper : IsProper p) (laws : HasPlanLaws p) (c : ℕ → ℕ → Option (List ℕ)) (t q : ℕ) (b : List ℕ) (h : has (writes p t) q ≡ true) (mine : c t (pair_file p q) ≡ Some b) (first r : List Event) (x : Option (List ℕ)) (suits : AllSuit p r) (end : list_any (ends t) (first ++ r) ≡ true) (free : is_swept p r q ≡ false) (stored : list_any (ends t) first ≡ true → x ≡ c t (pair_file p q)) where
  ended_before : is_published p r q ≡ false → list_any (ends t) first ≡ true
  ended_before off = elim (either (list_any (ends t) first) (list_any (ends t) r) (sym (list_any-append (ends t) first r) ∙ end)) [
    | inl d ↦ d
    | inr d ↦ absurd (let y : true ≡ false = sym (ended_published p laws r t q suits h d) ∙ off in cc)
  ]

  untouched : is_published p r q ≡ false → (y : ℕ) → (is_published p r y || is_swept p r y) ≡ true → pair_site_name p y ≡ pair_site_name p q → pair_file_name p y ≡ pair_file_name p q → ⊥
  untouched off y touched site name =
      let one : y ≡ q = names_apart p proper laws y q (touched_below p laws r y touched) (written_below p laws t q h) site name in
      let none : (is_published p r q || is_swept p r q) ≡ false = ap (λ v. v || is_swept p r q) off ∙ free in
      absurd (let z : true ≡ false = sym touched ∙ ap (λ v. is_published p r v || is_swept p r v) one ∙ none in cc)

  stands_by : (v : Bool) → is_published p r q ≡ v → left_by (pair_site_name p q) (pair_file_name p q) (changes p c r) x ≡ c t (pair_file p q)
  stands_by true put = record_sets p proper laws c q t b h mine r x suits free put ∙ sym mine
  stands_by false off = record_off p proper laws c (pair_site_name p q) (pair_file_name p q) r (untouched off) x ∙ stored (ended_before off)

pub pair_stands : (p : Plan) → IsProper p → HasPlanLaws p → (order : List ℕ) → HasRecordLaws p order → (apply : Apply) (first r : List Event) (s m : Store) (f0 m0 : ℕ) (c : Counts) → Legal p order (first ++ r) → IsKept apply p order first r (Some s) m f0 m0 c → IsOpening apply p first m
    → (t q : ℕ) → has (writes p t) q ≡ true → list_any (ends t) (first ++ r) ≡ true → is_swept p (first ++ r) q ≡ false → at_pair p s q ≡ carries apply p m t (pair_file p q)
pair_stands p proper plan_laws order laws apply first r s m f0 m0 c legal kept opening t q h e free =
    let cs : ℕ → ℕ → Option (List ℕ) = carries apply p m in
    let suits = legal_suits p (opened order) (first ++ r) legal in
    let put = ended_published p plan_laws (first ++ r) t q suits h e in
    let written = record_sized apply (λ pfn. files.get m.replicas pfn) p proper plan_laws cs q (first ++ r) suits (kept.truthful opening) put in
    let u : ℕ = written.0 in
    let is = known (cs u (pair_file p q)) written.2.0 written.2.1 in
    let one : u ≡ t = proper.flow.one_writer u t q written.1 h in
    let mine : cs t (pair_file p q) ≡ Some (or_nil (cs u (pair_file p q))) = ap (λ z. cs z (pair_file p q)) (sym one) ∙ is in
    let parts = swept_parts p first r q free in
    ap (λ z. pair_at z.scratch (pair_site_name p q) (pair_file_name p q)) kept.become.is
    ∙ pair_changed m kept.become.made (pair_site_name p q) (pair_file_name p q)
    ∙ ap (λ l. left_by (pair_site_name p q) (pair_file_name p q) l (pair_at m.scratch (pair_site_name p q) (pair_file_name p q))) (kept.become.are opening)
    ∙ stands_by p proper plan_laws cs t q (or_nil (cs u (pair_file p q))) h mine first r (pair_at m.scratch (pair_site_name p q) (pair_file_name p q)) (suits_since p first r suits) e parts.1 (λ before. opening.stored t q h before parts.0) (is_published p r q) refl
