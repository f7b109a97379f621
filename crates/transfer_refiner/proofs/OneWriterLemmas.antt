-- A file at a site has one writer.
use Rattle.std.proofs.Common.{◌≡◌, ℕ, true, false, List, refl, sym, ap, ◌∙◌, nat_eq, arith}
use Rattle.std.specs.Prelude.{Some, slice_get}
use Rattle.values.specs.declared.numbers.JobId.{JobId}
use Rattle.plan_core.specs.declared.plan.Plan.{Plan}
use Rattle.plan_core.specs.declared.plan.TaskKind.{TaskKind}
use Rattle.transfer_refiner.specs.Tasks.{grid}
use Rattle.plan_core.specs.Kinds as kinds
use Rattle.plan_core.specs.Kinds.{kind_writes, writes_file}
use Rattle.plan_core.proofs.TestLemmas.{same_number, both}
use Rattle.transfer_refiner.specs.Draft.{Draft, part_makes, site_of, made_at, moves}
use Rattle.transfer_refiner.specs.Tasks.{count_files, count_execution_sites, run, transfer, delivery}
use Rattle.transfer_refiner.specs.code.Conditions.{IsDraft}
use Rattle.transfer_refiner.specs.Refined.{IsRefined}
use Rattle.transfer_refiner.proofs.SortLemmas.{Sort, a_run, a_transfer, a_delivery, sorted}
use Rattle.transfer_refiner.proofs.PlanJobsLemmas.{makes_are}
use Rattle.transfer_refiner.proofs.PlanPairsLemmas.{has_kind}
use Rattle.transfer_refiner.proofs.StandingLemmas.{moved_needed, at_part}
use Rattle.transfer_refiner.proofs.MakersLemmas.{one_part}
use Rattle.transfer_refiner.proofs.OnceLemmas.{grid_once}

pub run_makes : (d : Draft) (p : Plan) → IsDraft d → IsRefined d p → (js : List JobId) (k : TaskKind) (s f : ℕ) → run d js ≡ k → kind_writes p.jobs (Some k) s f ≡ true → (nat_eq (site_of d js) s ≡ true) × (part_makes d js f ≡ true)
run_makes d p draft refined js k s f is h =
    let parts = both (nat_eq (site_of d js) s) (kinds.jobs_make p.jobs js f) (ap (λ (x : TaskKind). kind_writes p.jobs (Some x) s f) is ∙ h) in
    (parts.0, sym (makes_are d p draft refined js f) ∙ parts.1)

pub moves_it : (d : Draft) (p : Plan) (g a : ℕ) (k : TaskKind) (s f : ℕ) → transfer d (g, a) ≡ k → kind_writes p.jobs (Some k) s f ≡ true → (a ≡ s) × (g ≡ f)
moves_it d p g a k s f is h =
    let parts = both (nat_eq a s) (nat_eq g f) (ap (λ (x : TaskKind). kind_writes p.jobs (Some x) s f) is ∙ h) in
    (same_number a s parts.0, same_number g f parts.1)

pub delivers_none : (d : Draft) (p : Plan) (g : ℕ) (k : TaskKind) (s f : ℕ) → delivery d g ≡ k → kind_writes p.jobs (Some k) s f ≡ true → ⊥
delivers_none d p g k s f is h = let x : kind_writes p.jobs (Some (delivery d g)) s f ≡ true = ap (λ (x : TaskKind). kind_writes p.jobs (Some x) s f) is ∙ h in let y : false ≡ true = x in cc

apart : (d : Draft) (t s f g a : ℕ) (js : List JobId) → slice_get d.parts t ≡ Some js → nat_eq (site_of d js) s ≡ true → part_makes d js f ≡ true → moves d g a ≡ true → a ≡ s → g ≡ f → ⊥
apart d t s f g a js at here makes_it moved same_site same_file =
    let there : moves d f s ≡ true = ap (moves d f) (sym same_site) ∙ ap (λ (n : ℕ). moves d n a) (sym same_file) ∙ moved in
    let none : made_at d s f ≡ false = (moved_needed d f s there).1 in
    let some : made_at d s f ≡ true = at_part d s (λ (js : List JobId). part_makes d js f) t js at here makes_it in
    let x : false ≡ true = sym none ∙ some in cc

one_sort : (d : Draft) (p : Plan) → IsDraft d → IsRefined d p → (t u s f : ℕ) (k l : TaskKind) → Sort d t k → Sort d u l → kind_writes p.jobs (Some k) s f ≡ true → kind_writes p.jobs (Some l) s f ≡ true → t ≡ u
one_sort d p draft refined t u s f k l (a_run js at is) (a_run ks bt its) h g =
    one_part d draft t u f js ks at bt (run_makes d p draft refined js k s f is h).1 (run_makes d p draft refined ks l s f its g).1
one_sort d p draft refined t u s f k l (a_run js at is) (a_transfer y b j m n moved its bt place) h g =
    let one = run_makes d p draft refined js k s f is h in let two = moves_it d p y b l s f its g in absurd (apart d t s f y b js at one.0 one.1 moved two.0 two.1)
one_sort d p draft refined t u s f k l (a_transfer x a i o q moved is at place) (a_run ks bt its) h g =
    let one = run_makes d p draft refined ks l s f its g in let two = moves_it d p x a k s f is h in absurd (apart d u s f x a ks bt one.0 one.1 moved two.0 two.1)
one_sort d p draft refined t u s f k l (a_transfer x a i o q moved is at place) (a_transfer y b j m n moved_too its bt place_too) h g =
    let one = moves_it d p x a k s f is h in
    let two = moves_it d p y b l s f its g in
    let here : slice_get (grid (count_files d) (count_execution_sites d) (moves d)) i ≡ Some (f, s) = place ∙ ap (λ (n : ℕ). Some (n, a)) one.1 ∙ ap (λ (n : ℕ). Some (f, n)) one.0 in
    let there : slice_get (grid (count_files d) (count_execution_sites d) (moves d)) j ≡ Some (f, s) = place_too ∙ ap (λ (n : ℕ). Some (n, b)) two.1 ∙ ap (λ (n : ℕ). Some (f, n)) two.0 in
    let same : i ≡ j = grid_once (count_files d) (count_execution_sites d) (moves d) i j (f, s) here there in
    omega (arith, same, at, bt)
one_sort d p draft refined t u s f k l (a_delivery x w o q is at placed) other h g = absurd (delivers_none d p x k s f is h)
one_sort d p draft refined t u s f k l one (a_delivery x w o q is at placed) h g = absurd (delivers_none d p x l s f is g)

pub one_writer : (d : Draft) (p : Plan) → IsDraft d → IsRefined d p → (t u s f : ℕ) → writes_file p t s f ≡ true → writes_file p u s f ≡ true → t ≡ u
one_writer d p draft refined t u s f h g =
    let one = has_kind p t (λ o. kind_writes p.jobs o s f) h refl in
    let two = has_kind p u (λ o. kind_writes p.jobs o s f) g refl in
    one_sort d p draft refined t u s f one.0 two.0 (sorted d p refined t one.0 one.1) (sorted d p refined u two.0 two.1) one.2 two.2
