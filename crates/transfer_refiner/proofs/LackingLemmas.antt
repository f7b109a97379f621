-- What a file lacks.
use Rattle.std.proofs.Common.{◌≡◌, ℕ, ◌<◌, Bool, true, false, not, ◌||◌, ◌&&◌, List, [], ◌∷◌, refl, sym, ap, ◌∙◌, nat_eq, ◌⊎◌, inl, inr}
use Rattle.std.specs.Prelude.{Option, Some, None, is_some, option_map}
use Rattle.values.specs.declared.numbers.JobId.{JobId}
use Rattle.values.specs.declared.numbers.SiteId.{SiteId}
use Rattle.plan_core.specs.Numbers.{has, below}
use Rattle.workflow_core.specs.Requested.{is_requested}
use Rattle.replica_catalog.specs.Lookup.{is_registered}
use Rattle.transfer_refiner.specs.Draft.{Draft, part_uses, part_makes, part_needs, site_of, made_at, needed_at, stands, home, draft_file_name, declared_of}
use Rattle.transfer_refiner.specs.code.Draft.{is_empty}
use Rattle.transfer_refiner.specs.code.Tasks.{used, is_made, lacks_replica, lacks_size}
use Rattle.transfer_refiner.specs.Tasks.{count_files}
use Rattle.plan_core.proofs.TestLemmas.{is_itself, both, and_both, either, or_left, or_right, by_bool}
use Rattle.plan_core.proofs.NumbersLemmas.{below_has, has_below}
use Rattle.transfer_refiner.proofs.SliceLemmas.{any_at_place, place_of_any}
use Rattle.transfer_refiner.proofs.StandingLemmas.{part_at, at_part, made_stands, needed_stands}
use Rattle.transfer_refiner.proofs.MakersLemmas.{made_is_some}

stands_there : (d : Draft) (s f : ℕ) → stands d s f ≡ true → (used d f || is_made d f) ≡ true
unfolding stands
stands_there d s f h = by (either (made_at d s f) (needed_at d s f) h)
  where
    by : (made_at d s f ≡ true) ⊎ (needed_at d s f ≡ true) → (used d f || is_made d f) ≡ true
    by (inl k) = let part = part_at d s (λ js. part_makes d js f) k in or_right (used d f) (is_made d f) (any_at_place (λ (js : List JobId). part_makes d js f) d.parts part.c part.js part.at part.passes)
    by (inr k) = let part = part_at d s (λ js. part_needs d js f) k in or_left (used d f) (is_made d f) (any_at_place (λ (js : List JobId). part_uses d js f) d.parts part.c part.js part.at (both (part_uses d part.js f) (not (part_makes d part.js f)) part.passes).0)

there_stands : (d : Draft) (f : ℕ) → (used d f || is_made d f) ≡ true → (s : ℕ) × (stands d s f ≡ true)
there_stands d f h = by (either (used d f) (is_made d f) h)
  where
    by : (used d f ≡ true) ⊎ (is_made d f ≡ true) → (s : ℕ) × (stands d s f ≡ true)
    by (inr k) = let found = place_of_any (λ (js : List JobId). part_makes d js f) d.parts k in
        (site_of d found.1, made_stands d (site_of d found.1) f (at_part d (site_of d found.1) (λ js. part_makes d js f) found.0 found.1 found.2 (is_itself (site_of d found.1)) found.3))
    by (inl k) = let found = place_of_any (λ (js : List JobId). part_uses d js f) d.parts k in by_bool (part_makes d found.1 f)
        (λ m. (site_of d found.1, made_stands d (site_of d found.1) f (at_part d (site_of d found.1) (λ js. part_makes d js f) found.0 found.1 found.2 (is_itself (site_of d found.1)) m)))
        (λ m. (site_of d found.1, needed_stands d (site_of d found.1) f (at_part d (site_of d found.1) (λ js. part_needs d js f) found.0 found.1 found.2 (is_itself (site_of d found.1)) (and_both (part_uses d found.1 f) (not (part_makes d found.1 f)) found.3 (ap not m)))))

pub there_is : (d : Draft) (f : ℕ) (xs : List ℕ) → ((s : ℕ) → has xs s ≡ stands d s f) → not (is_empty xs) ≡ (used d f || is_made d f)
there_is d f [] are = by_bool (used d f || is_made d f) (λ h. absurd (let s = there_stands d f h in let x : false ≡ true = are s.0 ∙ s.1 in cc)) (λ h. sym h)
there_is d f (x ∷ xs) are = sym (stands_there d x f (sym (are x) ∙ or_left (nat_eq x x) (has xs x) (is_itself x)))

pub asked_is : (d : Draft) (f : ℕ) (xs : List ℕ) → f < count_files d → xs ≡ below (count_files d) (is_requested d.workflow) → has xs f ≡ is_requested d.workflow f
asked_is d f xs low is = ap (λ (ns : List ℕ). has ns f) is ∙ by_bool (is_requested d.workflow f) (λ h. has_below (count_files d) (is_requested d.workflow) f low h ∙ sym h) (λ h. none h)
  where
    none : is_requested d.workflow f ≡ false → has (below (count_files d) (is_requested d.workflow)) f ≡ is_requested d.workflow f
    none h = by_bool (has (below (count_files d) (is_requested d.workflow)) f) (λ k. absurd (let x : false ≡ true = sym h ∙ (below_has (count_files d) (is_requested d.workflow) f k).1 in cc)) (λ k. k ∙ sym h)

pub replica_lacks : (d : Draft) (f : ℕ) (result there made registered : Bool) → result ≡ (there && (not made && not registered)) → there ≡ (used d f || is_made d f) → made ≡ is_some (home d f) → registered ≡ is_registered d.replicas (draft_file_name d f) → result ≡ lacks_replica d f
unfolding lacks_replica
replica_lacks d f result there made registered is t m r =
    is ∙ ap (λ (b : Bool). b && (not made && not registered)) t ∙ ap (λ (b : Bool). (used d f || is_made d f) && (not b && not registered)) (m ∙ made_is_some d f)
    ∙ ap (λ (b : Bool). (used d f || is_made d f) && (not (is_made d f) && not b)) r ∙ turn (used d f) (is_made d f) (not (is_registered d.replicas (draft_file_name d f)))
  where
    turn : (u m e : Bool) → ((u || m) && (not m && e)) ≡ (u && (not m && e))
    turn true m e = refl
    turn false true e = refl
    turn false false e = refl

pub size_lacks : (d : Draft) (f : ℕ) (result there asked known : Bool) → result ≡ ((there || asked) && not known) → there ≡ (used d f || is_made d f) → asked ≡ is_requested d.workflow f → known ≡ is_some (declared_of d f) → result ≡ lacks_size d f
unfolding lacks_size
size_lacks d f result there asked known is t a k =
    is ∙ ap (λ (b : Bool). (b || asked) && not known) t ∙ ap (λ (b : Bool). ((used d f || is_made d f) || b) && not known) a ∙ ap (λ (b : Bool). ((used d f || is_made d f) || is_requested d.workflow f) && not b) k
    ∙ ap (λ (b : Bool). b && not (is_some (declared_of d f))) (turn (used d f) (is_made d f) (is_requested d.workflow f))
  where
    turn : (a b c : Bool) → ((a || b) || c) ≡ (a || (b || c))
    turn true b c = refl
    turn false b c = refl

pub is_some_map : (o : Option SiteId) (r : Option ℕ) → option_map (λ (s : SiteId). s.0) o ≡ r → is_some o ≡ is_some r
is_some_map None r e = ap is_some e
is_some_map (Some s) r e = ap is_some e
