-- The part that makes a file, and the site at which it is made.
use Rattle.std.proofs.Common.{◌≡◌, ℕ, zero, suc, ◌<◌, ◌≤◌, Bool, true, false, cond, ◌||◌, List, [], ◌∷◌, length, refl, sym, ap, ◌∙◌, nat_eq, arith}
use Rattle.std.specs.Prelude.{Option, Some, None, is_some, slice_get, slice_index_or}
use Rattle.std.specs.List.{list_any}
use Rattle.std.proofs.lemmas.Option.{get_or_from_slice_get}
use Rattle.values.specs.declared.numbers.JobId.{JobId}
use Rattle.dependency_graph.specs.Edges.{makers, written_by}
use Rattle.dependency_graph.proofs.EdgesLemmas.{makes as makers_are}
use Rattle.plan_core.specs.Numbers.{has}
use Rattle.plan_core.specs.Words.{job_numbers}
use Rattle.plan_core.proofs.TestLemmas.{same_number, is_itself, or_left, or_right, by_bool}
use Rattle.transfer_refiner.proofs.SliceLemmas.{any_at_place, place_of_any}
use Rattle.transfer_refiner.proofs.JobsLemmas.{made_below}
use Rattle.transfer_refiner.proofs.StandingLemmas.{part_at, home_made, home_none}
use Rattle.transfer_refiner.specs.Draft.{Draft, part_makes, site_of, made_at, home, home_among}
use Rattle.transfer_refiner.specs.Tasks.{count_files, part_of}
use Rattle.transfer_refiner.specs.code.Tasks.{is_made}
use Rattle.transfer_refiner.specs.code.Conditions.{IsDraft}
use Rattle.transfer_refiner.specs.code.Listing.{is_at, first_site_of}

-- a job of some that passes is one of their numbers
pub job_of_any : (test : ℕ → Bool) (js : List JobId) → list_any (λ (j : JobId). test j.0) js ≡ true → (j : ℕ) × (has (job_numbers js) j ≡ true) × (test j ≡ true)
job_of_any test [] h = absurd cc
job_of_any test (x ∷ js) h = by (test x.0) refl h (λ k. job_of_any test js k)
  where
    by : (b : Bool) → test x.0 ≡ b → (b || list_any (λ (j : JobId). test j.0) js) ≡ true → (list_any (λ (j : JobId). test j.0) js ≡ true → (j : ℕ) × (has (job_numbers js) j ≡ true) × (test j ≡ true)) → (j : ℕ) × (has (job_numbers (x ∷ js)) j ≡ true) × (test j ≡ true)
    by true e k rest = (x.0, or_left (nat_eq x.0 x.0) (has (job_numbers js) x.0) (is_itself x.0), e)
    by false e k rest = let found = rest k in (found.0, or_right (nat_eq x.0 found.0) (has (job_numbers js) found.0) found.1, found.2)

one_of_one : (ns : List ℕ) (a b : ℕ) → length ns ≤ 1 → has ns a ≡ true → has ns b ≡ true → a ≡ b
one_of_one [] a b h e f = absurd cc
one_of_one (n ∷ []) a b h e f = sym (first a e) ∙ first b f
  where
    first : (x : ℕ) → (nat_eq n x || false) ≡ true → n ≡ x
    first x k = by_bool (nat_eq n x) (λ t. same_number n x t) (λ t. absurd (let z : false ≡ true = sym (ap (λ (c : Bool). c || false) t) ∙ k in cc))
one_of_one (n ∷ m ∷ ns) a b h e f = absurd (omega arith)

-- two jobs that make a file are one
pub one_maker : (d : Draft) → IsDraft d → (a b f : ℕ) → f < count_files d → has (written_by d.workflow a) f ≡ true → has (written_by d.workflow b) f ≡ true → a ≡ b
one_maker d draft a b f l h k = one_of_one (makers d.workflow f) a b (draft.sound.one_producer f l) (makers_are d.workflow f a ∙ h) (makers_are d.workflow f b ∙ k)

pub in_part : (d : Draft) (c : ℕ) (js : List JobId) → slice_get d.parts c ≡ Some js → part_of d c ≡ job_numbers js
in_part d c js e = ap job_numbers (get_or_from_slice_get d.parts c js [] e)

-- two parts that make a file are one
pub one_part : (d : Draft) → IsDraft d → (a b f : ℕ) (js ks : List JobId) → slice_get d.parts a ≡ Some js → slice_get d.parts b ≡ Some ks → part_makes d js f ≡ true → part_makes d ks f ≡ true → a ≡ b
one_part d draft a b f js ks at bt h k =
    let one = job_of_any (λ j. has (written_by d.workflow j) f) js h in
    let two = job_of_any (λ j. has (written_by d.workflow j) f) ks k in
    let same : one.0 ≡ two.0 = one_maker d draft one.0 two.0 f (made_below d draft js f h) one.2 two.2 in
    draft.one_part a b one.0 (ap (λ (ns : List ℕ). has ns one.0) (in_part d a js at) ∙ one.1) (ap (has (part_of d b)) same ∙ ap (λ (ns : List ℕ). has ns two.0) (in_part d b ks bt) ∙ two.1)

-- the site of a part that makes the file is where it is made
pub home_from : (d : Draft) → IsDraft d → (c f : ℕ) (js : List JobId) → f < count_files d → slice_get d.parts c ≡ Some js → part_makes d js f ≡ true → home d f ≡ Some (site_of d js)
home_from d draft c f js low at makes_it = by (home d f) refl
  where
    by : (o : Option ℕ) → home d f ≡ o → home d f ≡ Some (site_of d js)
    by None e = absurd (let z : true ≡ false = sym (any_at_place (λ (xs : List JobId). part_makes d xs f) d.parts c js at makes_it) ∙ home_none d f e in cc)
    by (Some a) e =
        let found = part_at d a (λ xs. part_makes d xs f) (home_made d f a e) in
        let same : found.c ≡ c = one_part d draft found.c c f found.js js found.at at found.passes makes_it in
        let here : Some found.js ≡ Some js = sym found.at ∙ ap (slice_get d.parts) same ∙ at in
        let one : found.js ≡ js = cc in
        e ∙ ap Some (sym found.site ∙ ap (site_of d) one)

-- a file is made at a site where that is its home
pub made_home : (d : Draft) → IsDraft d → (s f : ℕ) → f < count_files d → made_at d s f ≡ is_at (home d f) s
made_home d draft s f low = by_bool (made_at d s f) made_there (λ e. e ∙ sym (not_there (home d f) refl e))
  where
    made_there : made_at d s f ≡ true → made_at d s f ≡ is_at (home d f) s
    made_there e =
        let found = part_at d s (λ xs. part_makes d xs f) e in
        e ∙ sym (ap (λ (o : Option ℕ). is_at o s) (home_from d draft found.c f found.js low found.at found.passes) ∙ ap (λ (n : ℕ). nat_eq n s) found.site ∙ is_itself s)

    not_there : (o : Option ℕ) → home d f ≡ o → made_at d s f ≡ false → is_at (home d f) s ≡ false
    not_there None h e = ap (λ (o : Option ℕ). is_at o s) h
    not_there (Some a) h e = ap (λ (o : Option ℕ). is_at o s) h ∙ by_bool (nat_eq a s) (λ k. absurd (let x : true ≡ false = sym (home_made d f s (h ∙ ap Some (same_number a s k))) ∙ e in cc)) (λ k. k)

-- whether a file is made at all
home_there : (d : Draft) (parts : List (List JobId)) (f : ℕ) → is_some (home_among d parts f) ≡ list_any (λ (js : List JobId). part_makes d js f) parts
home_there d [] f = refl
home_there d (js ∷ parts) f = by (part_makes d js f) (home_there d parts f)
  where
    by : (b : Bool) → is_some (home_among d parts f) ≡ list_any (λ (js : List JobId). part_makes d js f) parts → is_some (cond b (Some (site_of d js)) (home_among d parts f)) ≡ (b || list_any (λ (js : List JobId). part_makes d js f) parts)
    by true rest = refl
    by false rest = rest

pub made_is_some : (d : Draft) (f : ℕ) → is_some (home d f) ≡ is_made d f
unfolding home
made_is_some d f = home_there d d.parts f

pub any_number : (test : ℕ → Bool) (js : List JobId) (j : ℕ) → has (job_numbers js) j ≡ true → test j ≡ true → list_any (λ (x : JobId). test x.0) js ≡ true
any_number test [] j h e = absurd cc
any_number test (x ∷ js) j h e = by (nat_eq x.0 j) refl h (λ k. any_number test js j k e)
  where
    by : (b : Bool) → nat_eq x.0 j ≡ b → (b || has (job_numbers js) j) ≡ true → (has (job_numbers js) j ≡ true → list_any (λ (x : JobId). test x.0) js ≡ true) → (test x.0 || list_any (λ (x : JobId). test x.0) js) ≡ true
    by true s k rest = or_left (test x.0) (list_any (λ (y : JobId). test y.0) js) (ap test (same_number x.0 j s) ∙ e)
    by false s k rest = or_right (test x.0) (list_any (λ (y : JobId). test y.0) js) (rest k)

no_home : (d : Draft) (f : ℕ) → is_made d f ≡ false → home d f ≡ None
no_home d f e = by (home d f) refl
  where
    by : (o : Option ℕ) → home d f ≡ o → home d f ≡ None
    by None h = h
    by (Some a) h = absurd (let x : true ≡ false = sym (ap is_some h) ∙ made_is_some d f ∙ e in cc)

-- a part that stands at a place, with its jobs
part_there : (d : Draft) (c j : ℕ) → has (part_of d c) j ≡ true → (js : List JobId) × (slice_get d.parts c ≡ Some js) × (has (job_numbers js) j ≡ true)
part_there d c j h = at d.parts c h
  where
    at : (ps : List (List JobId)) (c : ℕ) → has (job_numbers (slice_index_or ps c [])) j ≡ true → (js : List JobId) × (slice_get ps c ≡ Some js) × (has (job_numbers js) j ≡ true)
    at [] c h = absurd cc
    at (p ∷ ps) zero h = (p, refl, h)
    at (p ∷ ps) (suc c) h = at ps c h

pub home_of_parts : (d : Draft) → IsDraft d → (f j : ℕ) (cs : List ℕ) → f < count_files d → makers d.workflow f ≡ j ∷ [] → ((c : ℕ) → has cs c ≡ has (part_of d c) j) → first_site_of d cs ≡ home d f
home_of_parts d draft f j [] low only held = sym (no_home d f (by_bool (is_made d f) (λ h. absurd (none h)) (λ h. h)))
  where
    none : is_made d f ≡ true → ⊥
    none h =
        let found = place_of_any (λ (js : List JobId). part_makes d js f) d.parts h in
        let job = job_of_any (λ a. has (written_by d.workflow a) f) found.1 found.3 in
        let is : has (makers d.workflow f) job.0 ≡ true = makers_are d.workflow f job.0 ∙ job.2 in
        let same : j ≡ job.0 = one_of_one (j ∷ []) j job.0 (omega arith) (or_left (nat_eq j j) false (is_itself j)) (ap (λ (ns : List ℕ). has ns job.0) (sym only) ∙ is) in
        let x : false ≡ true = held found.0 ∙ ap (has (part_of d found.0)) same ∙ ap (λ (ns : List ℕ). has ns job.0) (in_part d found.0 found.1 found.2) ∙ job.1 in cc
home_of_parts d draft f j (c ∷ cs) low only held =
    let there = part_there d c j (sym (held c) ∙ or_left (nat_eq c c) (has cs c) (is_itself c)) in
    let writes_it : has (written_by d.workflow j) f ≡ true = sym (makers_are d.workflow f j) ∙ ap (λ (ns : List ℕ). has ns j) only ∙ or_left (nat_eq j j) false (is_itself j) in
    let makes_it : part_makes d there.0 f ≡ true = any_number (λ a. has (written_by d.workflow a) f) there.0 j there.2 writes_it in
    ap (λ (js : List JobId). Some (site_of d js)) (get_or_from_slice_get d.parts c there.0 [] there.1) ∙ sym (home_from d draft c f there.0 low there.1 makes_it)

pub home_unmade : (d : Draft) (f : ℕ) → makers d.workflow f ≡ [] → home d f ≡ None
home_unmade d f made_none = no_home d f (by_bool (is_made d f) (λ h. absurd (none h)) (λ h. h))
  where
    none : is_made d f ≡ true → ⊥
    none h =
        let found = place_of_any (λ (js : List JobId). part_makes d js f) d.parts h in
        let job = job_of_any (λ a. has (written_by d.workflow a) f) found.1 found.3 in
        let is : has (makers d.workflow f) job.0 ≡ true = makers_are d.workflow f job.0 ∙ job.2 in
        let x : false ≡ true = ap (λ (ns : List ℕ). has ns job.0) (sym made_none) ∙ is in cc
