-- What tasks read and write are the plan's pairs, and each pair has a writer.
use Rattle.std.proofs.Common.{◌≡◌, ℕ, Bool, true, false, not, ◌||◌, ◌&&◌, List, refl, sym, ap, ◌∙◌, nat_eq}
use Rattle.std.specs.Prelude.{Option, Some, None, slice_get}
use Rattle.plan_core.specs.declared.plan.Plan.{Plan}
use Rattle.plan_core.specs.declared.plan.Pair.{Pair}
use Rattle.plan_core.specs.declared.plan.PlanJob.{PlanJob}
use Rattle.plan_core.specs.declared.plan.TaskKind.{TaskKind}
use Rattle.plan_core.specs.declared.plan.TaskKind.TheVariants.{Transfer}
use Rattle.plan_core.specs.declared.plan.Target.{Target}
use Rattle.transfer_refiner.specs.Tasks.{grid}
use Rattle.plan_core.specs.Words.{kind}
use Rattle.plan_core.specs.code.Words.{is_pair, pair_at}
use Rattle.plan_core.specs.Kinds as kinds
use Rattle.plan_core.specs.Kinds.{kind_reads, kind_writes, reads_file, writes_file}
use Rattle.plan_core.proofs.TestLemmas.{same_number, is_itself, both, and_both, by_bool}
use Rattle.transfer_refiner.specs.Draft.{Draft, part_makes, part_needs, site_of, made_at, needed_at, moves, stands, home, pfns_of, chosen, first_pfn}
use Rattle.transfer_refiner.specs.Tasks.{count_files, count_execution_sites, source, run, transfer, delivery, pair_of, pairs_of}
use Rattle.transfer_refiner.specs.code.Conditions.{IsDraft}
use Rattle.transfer_refiner.specs.Refined.{IsRefined}
use Rattle.transfer_refiner.proofs.SliceLemmas.{place_map, map_place, grid_place, place_grid}
use Rattle.transfer_refiner.proofs.SortLemmas.{Sort, a_run, a_transfer, a_delivery, the_run, the_transfer}
use Rattle.transfer_refiner.proofs.PlanJobsLemmas.{makes_are, needs_are}
use Rattle.transfer_refiner.proofs.StandingLemmas.{part_at, at_part, made_stands, needed_stands, moved_needed, home_made, stands_within, needed_within}

-- what a Transfer reads is made there
pub moved_from : (d : Draft) (jobs : List PlanJob) (g : ℕ) (x : List ℕ) (to : Target) (s f : ℕ) → kind_reads jobs (Some (Transfer (record { 0 = g }) (source (home d g) x) to)) s f ≡ true → (g ≡ f) × (home d f ≡ Some s)
moved_from d jobs g x to s f h = by (home d g) refl h
  where
    by : (o : Option ℕ) → home d g ≡ o → kind_reads jobs (Some (Transfer (record { 0 = g }) (source o x) to)) s f ≡ true → (g ≡ f) × (home d f ≡ Some s)
    by None e k = absurd cc
    by (Some a) e k =
        let parts = both (nat_eq a s) (nat_eq g f) k in
        (same_number g f parts.1, ap (home d) (sym (same_number g f parts.1)) ∙ e ∙ ap Some (same_number a s parts.0))

-- what a task reads, or writes, stands
pub read_is : (d : Draft) (p : Plan) → IsDraft d → IsRefined d p → (t : ℕ) (k : TaskKind) → Sort d t k → (s f : ℕ) → kind_reads p.jobs (Some k) s f ≡ true → stands d s f ≡ true
read_is d p draft refined t k (a_run js at is) s f h =
    let reads_it : kind_reads p.jobs (Some (run d js)) s f ≡ true = ap (λ (x : TaskKind). kind_reads p.jobs (Some x) s f) is ∙ h in
    let parts = both (nat_eq (site_of d js) s) (kinds.jobs_use p.jobs js f && not (kinds.jobs_make p.jobs js f)) reads_it in
    needed_stands d s f (at_part d s (λ js. part_needs d js f) t js at parts.0 (sym (needs_are d p draft refined js f) ∙ parts.1))
read_is d p draft refined t k (a_transfer g a i l m moved is at place) s f h =
    let from = moved_from d p.jobs g (chosen d g a) _ s f (ap (λ (x : TaskKind). kind_reads p.jobs (Some x) s f) is ∙ h) in
    made_stands d s f (home_made d f s from.1)
read_is d p draft refined t k (a_delivery g n l asked is at placed) s f h =
    let from = moved_from d p.jobs g (first_pfn (pfns_of d g)) _ s f (ap (λ (x : TaskKind). kind_reads p.jobs (Some x) s f) is ∙ h) in
    made_stands d s f (home_made d f s from.1)

pub written_is : (d : Draft) (p : Plan) → IsDraft d → IsRefined d p → (t : ℕ) (k : TaskKind) → Sort d t k → (s f : ℕ) → kind_writes p.jobs (Some k) s f ≡ true → stands d s f ≡ true
written_is d p draft refined t k (a_run js at is) s f h =
    let writes_it : kind_writes p.jobs (Some (run d js)) s f ≡ true = ap (λ (x : TaskKind). kind_writes p.jobs (Some x) s f) is ∙ h in
    let parts = both (nat_eq (site_of d js) s) (kinds.jobs_make p.jobs js f) writes_it in
    made_stands d s f (at_part d s (λ js. part_makes d js f) t js at parts.0 (sym (makes_are d p draft refined js f) ∙ parts.1))
written_is d p draft refined t k (a_transfer g a i l m moved is at place) s f h =
    let writes_it : kind_writes p.jobs (Some (transfer d (g, a))) s f ≡ true = ap (λ (x : TaskKind). kind_writes p.jobs (Some x) s f) is ∙ h in
    let parts = both (nat_eq a s) (nat_eq g f) writes_it in
    let here : moves d f s ≡ true = ap (moves d f) (sym (same_number a s parts.0)) ∙ ap (λ (n : ℕ). moves d n a) (sym (same_number g f parts.1)) ∙ moved in
    needed_stands d s f (moved_needed d f s here).0
written_is d p draft refined t k (a_delivery g n l asked is at placed) s f h =
    let writes_it : kind_writes p.jobs (Some (delivery d g)) s f ≡ true = ap (λ (x : TaskKind). kind_writes p.jobs (Some x) s f) is ∙ h in absurd cc

-- a task with a number that passes has a kind
pub has_kind : (p : Plan) (t : ℕ) (test : Option TaskKind → Bool) → test (kind p t) ≡ true → test None ≡ false → (k : TaskKind) × (kind p t ≡ Some k) × (test (Some k) ≡ true)
has_kind p t test h none = by (kind p t) refl
  where
    by : (o : Option TaskKind) → kind p t ≡ o → (k : TaskKind) × (kind p t ≡ Some k) × (test (Some k) ≡ true)
    by None e = absurd (let x : false ≡ true = sym none ∙ sym (ap test e) ∙ h in cc)
    by (Some k) e = (k, e, sym (ap test e) ∙ h)

-- pairs
pub pair_stands : (d : Draft) (p : Plan) → IsDraft d → IsRefined d p → (s f : ℕ) → stands d s f ≡ true → (q : ℕ) × (is_pair p q s f ≡ true)
unfolding is_pair pairs_of
pair_stands d p draft refined s f h =
    let within = stands_within d draft s f h in
    let found = place_grid (count_execution_sites d) (count_files d) (stands d) s f within.site within.file h in
    let at : slice_get p.pairs found.0 ≡ Some (pair_of (s, f)) = ap (λ (qs : List Pair). slice_get qs found.0) refined.pairs ∙ map_place pair_of (grid (count_execution_sites d) (count_files d) (stands d)) found.0 (s, f) found.1 in
    (found.0, ap (λ (o : Option Pair). pair_at o s f) at ∙ and_both (nat_eq s s) (nat_eq f f) (is_itself s) (is_itself f))

pub stands_pair : (d : Draft) (p : Plan) → IsRefined d p → (q s f : ℕ) → is_pair p q s f ≡ true → stands d s f ≡ true
unfolding is_pair pairs_of
stands_pair d p refined q s f h = by (slice_get (pairs_of d) q) refl (ap (λ (qs : List Pair). pair_at (slice_get qs q) s f) (sym refined.pairs) ∙ h)
  where
    by : (o : Option Pair) → slice_get (pairs_of d) q ≡ o → pair_at o s f ≡ true → stands d s f ≡ true
    by None e k = absurd cc
    by (Some x) e k =
        let found = place_map pair_of (grid (count_execution_sites d) (count_files d) (stands d)) q x e in
        let is = grid_place (count_execution_sites d) (count_files d) (stands d) q found.0 found.1 in
        let parts = both (nat_eq x.site.0 s) (nat_eq x.file.0 f) k in
        let one : found.0.0 ≡ s = ap (λ (y : Pair). y.site.0) found.2 ∙ same_number x.site.0 s parts.0 in
        let two : found.0.1 ≡ f = ap (λ (y : Pair). y.file.0) found.2 ∙ same_number x.file.0 f parts.1 in
        ap (λ (n : ℕ). stands d n f) (sym one) ∙ ap (stands d found.0.0) (sym two) ∙ is.2

pub has_writer : (d : Draft) (p : Plan) → IsDraft d → IsRefined d p → (s f : ℕ) → stands d s f ≡ true → (t : ℕ) × (writes_file p t s f ≡ true)
unfolding stands moves
has_writer d p draft refined s f h = by_bool (made_at d s f) made_there moved_there
  where
    made_there : made_at d s f ≡ true → (t : ℕ) × (writes_file p t s f ≡ true)
    made_there k =
        let part = part_at d s (λ js. part_makes d js f) k in (
          part.c,
          ap (λ (o : Option TaskKind). kind_writes p.jobs o s f) (the_run d p refined part.c part.js part.at)
              ∙ and_both (nat_eq (site_of d part.js) s) (kinds.jobs_make p.jobs part.js f) (ap (λ (n : ℕ). nat_eq n s) part.site ∙ is_itself s) (makes_are d p draft refined part.js f ∙ part.passes),
        )

    moved_there : made_at d s f ≡ false → (t : ℕ) × (writes_file p t s f ≡ true)
    moved_there k =
        let needed : needed_at d s f ≡ true = sym (ap (λ (b : Bool). b || needed_at d s f) k) ∙ h in
        let within = needed_within d draft s f needed in
        let found = the_transfer d p refined f s within.file within.site (and_both (needed_at d s f) (not (made_at d s f)) needed (ap not k)) in
        (found.0, ap (λ (o : Option TaskKind). kind_writes p.jobs o s f) found.1 ∙ and_both (nat_eq s s) (nat_eq f f) (is_itself s) (is_itself f))
