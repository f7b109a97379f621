-- The plan of a draft is small.
use Rattle.std.proofs.Common.{◌≡◌, ℕ, zero, suc, ◌^◌, ◌≤◌, Bool, true, false, cond, List, [], ◌∷◌, length, map, sym, ap, subst, ◌∙◌, arith}
use Rattle.std.specs.Prelude.{Option, Some, None, slice_get, slice_index_or}
use Rattle.std.specs.List.{AllByRecursion}
use Rattle.std.specs.Map.{lookup}
use Rattle.std.specs.Option.{option_or}
use Rattle.std.specs.Str.{bytes_eq}
use Rattle.std.proofs.lemmas.List.{length-map}
use Rattle.workflow_core.specs.code.WellFormed.{IsSmallSize}
use Rattle.plan_request.specs.code.Limits.{IsSmallDefault, IsWithinLimits}
use Rattle.plan_request.specs.FileSizes.{declared_size, declared_sizes, named_size}
use Rattle.plan_request.specs.declared.request.PlanRequest.{PlanRequest}
use Rattle.plan_request.specs.declared.request.SizeOf.{SizeOf}
use Rattle.plan_core.specs.declared.plan.Plan.{Plan}
use Rattle.plan_core.specs.declared.plan.PlanFile.{PlanFile}
use Rattle.plan_core.specs.Numbers.{below}
use Rattle.plan_core.specs.Words.{declared, declared_in, is_clean, kind}
use Rattle.transfer_refiner.specs.Draft.{Draft}
use Rattle.transfer_refiner.specs.code.Conditions.{IsDraft}
use Rattle.transfer_refiner.specs.Tasks.{count_files, planned_file, planned_site}
use Rattle.transfer_refiner.specs.Refined.{IsRefined}
use Rattle.transfer_refiner.proofs.TogetherLemmas.{below_short, no_cleans}

pub no_clean : (d : Draft) (p : Plan) → IsRefined d p → (t : ℕ) → is_clean p t ≡ false
unfolding kind
no_clean d p is t = no_cleans d p.tasks is.kinds t

pub few_sites : (d : Draft) (p : Plan) → IsDraft d → IsRefined d p → length p.sites ≤ 64
few_sites d p draft is =
    let long = ap length is.sites ∙ length-map d.request.execute planned_site in
    let few = draft.few_sites in
    omega (arith, long, few)

pub few_files : (d : Draft) (p : Plan) → IsDraft d → IsRefined d p → length p.files ≤ 50000
few_files d p draft is =
    let long = ap length is.files ∙ length-map (below (count_files d) (λ f. true)) (planned_file d) in
    let most = below_short (count_files d) (λ f. true) in
    let few = draft.formed.few_files in
    omega (arith, long, most, few)

-- ---- declared sizes

small_or : (a b : Option ℕ) → IsSmallSize a → IsSmallSize b → IsSmallSize (option_or a b)
small_or None b h k = k
small_or (Some n) b h k = h

small_entry : (sizes : List SizeOf) (lfn : List ℕ) → AllByRecursion (λ (s : SizeOf). s.size ≤ 2 ^ 40) sizes → IsSmallSize (lookup (bytes_eq lfn) (map named_size sizes))
small_entry [] lfn h = tt
small_entry (s ∷ sizes) lfn h = by (bytes_eq lfn s.lfn) h.0 (small_entry sizes lfn h.1)
  where
    by : (b : Bool) → s.size ≤ 2 ^ 40 → IsSmallSize (lookup (bytes_eq lfn) (map named_size sizes)) → IsSmallSize (cond b (Some s.size) (lookup (bytes_eq lfn) (map named_size sizes)))
    by true here later = here
    by false here later = later

small_default : (d : Option ℕ) → IsSmallDefault d → IsSmallSize d
small_default None h = tt
small_default (Some n) h = h

small_declared : (r : PlanRequest) → IsWithinLimits r → (lfn : List ℕ) (stated : Option ℕ) → IsSmallSize stated → IsSmallSize (declared_size r lfn stated)
small_declared r limits lfn stated h = small_or (lookup (bytes_eq lfn) (map named_size r.sizes)) (option_or stated r.default_size) (small_entry r.sizes lfn limits.sizes) (small_or stated r.default_size h (small_default r.default_size limits.default_size))

small_at : (r : PlanRequest) → IsWithinLimits r → (files : List (List ℕ)) (stated : List (Option ℕ)) → AllByRecursion IsSmallSize stated → (f : ℕ) → IsSmallSize (slice_index_or (declared_sizes r files stated) f None)
small_at r limits [] stated h f = tt
small_at r limits (n ∷ files) [] h f = tt
small_at r limits (n ∷ files) (s ∷ stated) h zero = small_declared r limits n s h.0
small_at r limits (n ∷ files) (s ∷ stated) h (suc f) = small_at r limits files stated h.1 f

small_of : (o : Option ℕ) (n : ℕ) → IsSmallSize o → o ≡ Some n → n ≤ 2 ^ 40
small_of None n h e = absurd cc
small_of (Some m) n h e = let same : m ≡ n = cc in subst (λ (k : ℕ). k ≤ 2 ^ 40) same h

-- a file of the plan is one of the draft's
file_size : (d : Draft) → IsDraft d → IsWithinLimits d.request → (fs : List ℕ) (f : ℕ) → IsSmallSize (declared_in (slice_get (map (planned_file d) fs) f))
file_size d draft limits [] f = tt
file_size d draft limits (g ∷ fs) zero = small_at d.request limits d.workflow.files d.workflow.sizes draft.formed.small_sizes g
file_size d draft limits (g ∷ fs) (suc f) = file_size d draft limits fs f

pub small_sizes : (d : Draft) (p : Plan) → IsDraft d → IsWithinLimits d.request → IsRefined d p → (f n : ℕ) → declared p f ≡ Some n → n ≤ 2 ^ 40
unfolding declared
small_sizes d p draft limits is f n e = small_of (declared_in (slice_get p.files f)) n (subst (λ (fs : List PlanFile). IsSmallSize (declared_in (slice_get fs f))) (sym is.files) (file_size d draft limits (below (count_files d) (λ f. true)) f)) e
