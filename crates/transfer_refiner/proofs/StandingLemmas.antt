-- Where files stand, and where they are made.
use Rattle.std.proofs.Common.{◌≡◌, ℕ, ◌<◌, Bool, true, false, cond, not, ◌||◌, ◌&&◌, List, [], ◌∷◌, length, refl, ap, ◌∙◌, nat_eq, arith, ◌⊎◌, inl, inr}
use Rattle.std.specs.Prelude.{Some, None, slice_get, slice_index_or}
use Rattle.std.specs.List.{list_any}
use Rattle.std.proofs.lemmas.Option.{get_or_from_slice_get, slice_get_within}
use Rattle.values.specs.declared.numbers.JobId.{JobId}
use Rattle.plan_core.proofs.TestLemmas.{same_number, is_itself, both, and_both, either, or_left, or_right, not_true}
use Rattle.transfer_refiner.specs.Draft.{Draft, part_uses, part_makes, part_needs, site_of, made_at, needed_at, moves, stands, home, home_among}
use Rattle.transfer_refiner.specs.Tasks.{count_files, count_execution_sites}
use Rattle.transfer_refiner.specs.code.Conditions.{IsDraft}
use Rattle.transfer_refiner.proofs.SliceLemmas.{place_of_any, any_at_place}
use Rattle.transfer_refiner.proofs.JobsLemmas.{used_below, made_below}

-- a file at a site, both in range
pub record IsWithin (d : Draft) (s f : ℕ) : Type 0 where
  pub file : f < count_files d
  pub site : s < count_execution_sites d

pub site_in_range : (d : Draft) → IsDraft d → (c s : ℕ) (js : List JobId) → slice_get d.parts c ≡ Some js → site_of d js ≡ s → s < count_execution_sites d
site_in_range d draft c s js e h =
    let is : slice_index_or d.parts c [] ≡ js = get_or_from_slice_get d.parts c js [] e in
    let low : site_of d (slice_index_or d.parts c []) < length d.request.execute = draft.site_below c (slice_get_within d.parts c js e) in
    let same : site_of d (slice_index_or d.parts c []) ≡ s = ap (site_of d) is ∙ h in
    omega (arith, low, same)

-- a part that makes, that needs the file at the site
pub record Part (d : Draft) (s : ℕ) (test : List JobId → Bool) : Type 0 where
  pub c : ℕ
  pub js : List JobId
  pub at : slice_get d.parts c ≡ Some js
  pub site : site_of d js ≡ s
  pub passes : test js ≡ true

pub part_at : (d : Draft) (s : ℕ) (test : List JobId → Bool) → list_any (λ (js : List JobId). nat_eq (site_of d js) s && test js) d.parts ≡ true → Part d s test
part_at d s test h =
    let found = place_of_any (λ (js : List JobId). nat_eq (site_of d js) s && test js) d.parts h in
    let parts = both (nat_eq (site_of d found.1) s) (test found.1) found.3 in
    record { c = found.0; js = found.1; at = found.2; site = same_number (site_of d found.1) s parts.0; passes = parts.1 }

pub at_part : (d : Draft) (s : ℕ) (test : List JobId → Bool) (c : ℕ) (js : List JobId) → slice_get d.parts c ≡ Some js → nat_eq (site_of d js) s ≡ true → test js ≡ true → list_any (λ (js : List JobId). nat_eq (site_of d js) s && test js) d.parts ≡ true
at_part d s test c js e h k = any_at_place (λ (js : List JobId). nat_eq (site_of d js) s && test js) d.parts c js e (and_both (nat_eq (site_of d js) s) (test js) h k)

pub made_within : (d : Draft) → IsDraft d → (s f : ℕ) → made_at d s f ≡ true → IsWithin d s f
made_within d draft s f h = let part = part_at d s (λ js. part_makes d js f) h in record { file = made_below d draft part.js f part.passes; site = site_in_range d draft part.c s part.js part.at part.site }

pub needed_within : (d : Draft) → IsDraft d → (s f : ℕ) → needed_at d s f ≡ true → IsWithin d s f
needed_within d draft s f h = let part = part_at d s (λ js. part_needs d js f) h in record { file = used_below d draft part.js f (both (part_uses d part.js f) (not (part_makes d part.js f)) part.passes).0; site = site_in_range d draft part.c s part.js part.at part.site }

pub stands_within : (d : Draft) → IsDraft d → (s f : ℕ) → stands d s f ≡ true → IsWithin d s f
unfolding stands
stands_within d draft s f h = by (either (made_at d s f) (needed_at d s f) h)
  where
    by : (made_at d s f ≡ true) ⊎ (needed_at d s f ≡ true) → IsWithin d s f
    by (inl k) = made_within d draft s f k
    by (inr k) = needed_within d draft s f k

pub made_stands : (d : Draft) (s f : ℕ) → made_at d s f ≡ true → stands d s f ≡ true
unfolding stands
made_stands d s f h = or_left (made_at d s f) (needed_at d s f) h

pub needed_stands : (d : Draft) (s f : ℕ) → needed_at d s f ≡ true → stands d s f ≡ true
unfolding stands
needed_stands d s f h = or_right (made_at d s f) (needed_at d s f) h

pub moved_needed : (d : Draft) (f s : ℕ) → moves d f s ≡ true → (needed_at d s f ≡ true) × (made_at d s f ≡ false)
unfolding moves
moved_needed d f s h = let parts = both (needed_at d s f) (not (made_at d s f)) h in (parts.0, not_true (made_at d s f) parts.1)

-- where the file is made
home_at : (d : Draft) (parts : List (List JobId)) (f a : ℕ) → home_among d parts f ≡ Some a → list_any (λ (js : List JobId). nat_eq (site_of d js) a && part_makes d js f) parts ≡ true
home_at d [] f a h = absurd cc
home_at d (js ∷ parts) f a h = by (part_makes d js f) refl h (λ k. home_at d parts f a k)
  where
    by : (b : Bool) → part_makes d js f ≡ b → cond b (Some (site_of d js)) (home_among d parts f) ≡ Some a → (home_among d parts f ≡ Some a → list_any (λ (js : List JobId). nat_eq (site_of d js) a && part_makes d js f) parts ≡ true) → ((nat_eq (site_of d js) a && part_makes d js f) || list_any (λ (js : List JobId). nat_eq (site_of d js) a && part_makes d js f) parts) ≡ true
    by true e k rest =
        let same : site_of d js ≡ a = cc in
        or_left (nat_eq (site_of d js) a && part_makes d js f) (list_any (λ (js : List JobId). nat_eq (site_of d js) a && part_makes d js f) parts) (and_both (nat_eq (site_of d js) a) (part_makes d js f) (ap (λ (n : ℕ). nat_eq n a) same ∙ is_itself a) e)
    by false e k rest = or_right (nat_eq (site_of d js) a && part_makes d js f) (list_any (λ (js : List JobId). nat_eq (site_of d js) a && part_makes d js f) parts) (rest k)

pub home_made : (d : Draft) (f a : ℕ) → home d f ≡ Some a → made_at d a f ≡ true
unfolding home
home_made d f a h = home_at d d.parts f a h

home_none_at : (d : Draft) (parts : List (List JobId)) (f : ℕ) → home_among d parts f ≡ None → list_any (λ (js : List JobId). part_makes d js f) parts ≡ false
home_none_at d [] f h = refl
home_none_at d (js ∷ parts) f h = by (part_makes d js f) refl h (λ k. home_none_at d parts f k)
  where
    by : (b : Bool) → part_makes d js f ≡ b → cond b (Some (site_of d js)) (home_among d parts f) ≡ None → (home_among d parts f ≡ None → list_any (λ (js : List JobId). part_makes d js f) parts ≡ false) → (b || list_any (λ (js : List JobId). part_makes d js f) parts) ≡ false
    by true e k rest = absurd cc
    by false e k rest = rest k

pub home_none : (d : Draft) (f : ℕ) → home d f ≡ None → list_any (λ (js : List JobId). part_makes d js f) d.parts ≡ false
unfolding home
home_none d f h = home_none_at d d.parts f h
