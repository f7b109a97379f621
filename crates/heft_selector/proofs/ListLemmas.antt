-- The lists of a well-formed workflow are as the moves want them.
use Rattle.std.proofs.Common.{◌≡◌, ℕ, zero, suc, ◌*◌, ◌<◌, ◌≤◌, ◌||◌, ◌⊎◌, inl, inr, Bool, true, false, cond, List, [], ◌∷◌, length, map, refl, sym, ap, subst, ◌∙◌, arith}
use Rattle.std.specs.Prelude.{◌^◌, slice_index_or, unwrap_or, Option, Some, None, MatchOption}
use Rattle.std.specs.List.{AllByRecursion}
use Rattle.std.specs.Map.{lookup}
use Rattle.std.specs.Option.{option_or}
use Rattle.std.specs.Str.{bytes_eq}
use Rattle.std.proofs.lemmas.List.{length-map}
use Rattle.std.proofs.lemmas.Bool.{eq-eqb, cases_order}
use Rattle.values.specs.declared.numbers.FileId.{FileId}
use Rattle.values.specs.declared.numbers.JobId.{JobId}
use Rattle.workflow_core.specs.declared.workflow.Workflow.{Workflow}
use Rattle.workflow_core.specs.declared.workflow.Job.{Job}
use Rattle.workflow_core.specs.WellFormed.{inputs_of, outputs_of}
use Rattle.workflow_core.specs.code.WellFormed.{IsSmallSize, IsWellFormed}
use Rattle.plan_request.specs.declared.request.PlanRequest.{PlanRequest}
use Rattle.plan_request.specs.declared.request.SizeOf.{SizeOf}
use Rattle.plan_request.specs.FileSizes.{declared_sizes, named_size}
use Rattle.plan_request.specs.code.Limits.{IsSmallDefault, IsWithinLimits}
use Rattle.dependency_graph.specs.Edges.{is_among, makers, written_by}
use Rattle.dependency_graph.specs.Graph.{IsGraphOf, Links, producer_of_file, numbers}
use Rattle.dependency_graph.proofs.EdgesLemmas.{makes}
use Rattle.dependency_graph.proofs.LevelsLemmas.{parents_in}
use Rattle.heft_selector.specs.Costs.{size_at}
use Rattle.heft_selector.specs.code.Carried.{carried, AreLists}
use Rattle.heft_selector.proofs.MoveLemmas.{made_few, once_distinct}
use Rattle.list_schedule.proofs.WalkLemmas.{once_short}
use Rattle.heft_selector.proofs.BridgeLemmas.{job_over, low_file}

-- ---- sizes

size_small : (sizes : List (Option ℕ)) (f : ℕ) → AllByRecursion IsSmallSize sizes → size_at sizes f ≤ 2 ^ 40
size_small [] zero small = omega arith
size_small [] (suc f) small = omega arith
size_small (o ∷ sizes) zero small = by o small.0
  where
    by : (o : Option ℕ) → IsSmallSize o → unwrap_or o 0 ≤ 2 ^ 40
    by None h = omega arith
    by (Some n) h = h
size_small (o ∷ sizes) (suc f) small = size_small sizes f small.1

carried_few : (producers : List (Option JobId)) (sizes : List (Option ℕ)) (a : ℕ) (fs : List FileId) → AllByRecursion IsSmallSize sizes → carried producers sizes a fs ≤ length fs * 2 ^ 40
carried_few producers sizes a [] small = omega arith
carried_few producers sizes a (f ∷ fs) small =
    let here = made_few (producer_of_file producers f.0) a (size_at sizes f.0) (2 ^ 40) (size_small sizes f.0 small) in
    let rest = carried_few producers sizes a fs small in
    omega (arith, here, rest)

small_or : (a b : Option ℕ) → IsSmallSize a → IsSmallSize b → IsSmallSize (option_or a b)
small_or None b h k = k
small_or (Some n) b h k = h

small_entry : (sizes : List SizeOf) (lfn : List ℕ) → AllByRecursion (λ (s : SizeOf). s.size ≤ 2 ^ 40) sizes → IsSmallSize (lookup (bytes_eq lfn) (map named_size sizes))
small_entry [] lfn h = tt
small_entry (s ∷ sizes) lfn h = by (bytes_eq lfn s.lfn) h.0 (small_entry sizes lfn h.1)
  where
    by : (b : Bool) → s.size ≤ 2 ^ 40 → IsSmallSize (lookup (bytes_eq lfn) (map named_size sizes)) → IsSmallSize (cond b (Some s.size) (lookup (bytes_eq lfn) (map named_size sizes)))
    by true here later = here
    by false here later = later

small_default : (d : Option ℕ) → IsSmallDefault d → IsSmallSize d
small_default None h = tt
small_default (Some n) h = h

pub declared_small : (r : PlanRequest) (files : List (List ℕ)) (stated : List (Option ℕ)) → IsWithinLimits r → AllByRecursion IsSmallSize stated → AllByRecursion IsSmallSize (declared_sizes r files stated)
declared_small r [] stated limits small = tt
declared_small r (f ∷ files) [] limits small = tt
declared_small r (f ∷ files) (o ∷ stated) limits small = (
  small_or (lookup (bytes_eq f) (map named_size r.sizes)) (option_or o r.default_size) (small_entry r.sizes f limits.sizes) (small_or o r.default_size small.0 (small_default r.default_size limits.default_size)),
  declared_small r files stated limits small.1,
)

-- ---- files and their makers

all_files : (n : ℕ) (fs : List FileId) → AllByRecursion (λ f. f < n) (map (λ (f : FileId). f.0) fs) → (k : ℕ) (d : FileId) → k < length fs → (slice_index_or fs k d).0 < n
all_files n [] all k d l = absurd (omega (arith, l))
all_files n (f ∷ fs) all zero d l = all.0
all_files n (f ∷ fs) all (suc k) d l = all_files n fs all.1 k d (omega (arith, l))

none_past : (producers : List (Option JobId)) (f : ℕ) → length producers ≤ f → producer_of_file producers f ≡ None
none_past [] zero past = refl
none_past [] (suc f) past = refl
none_past (p ∷ producers) zero past = absurd (omega (arith, past))
none_past (p ∷ producers) (suc f) past = none_past producers f (omega (arith, past))

nothing_past : (js : List Job) (a : ℕ) → length js ≤ a → slice_index_or (map outputs_of js) a [] ≡ []
nothing_past [] zero past = refl
nothing_past [] (suc a) past = refl
nothing_past (j ∷ js) zero past = absurd (omega (arith, past))
nothing_past (j ∷ js) (suc a) past = nothing_past js a (omega (arith, past))

maker_low : (w : Workflow) (g : Links) → IsGraphOf w g → (f : ℕ) (j : JobId) → producer_of_file g.producers f ≡ Some j → j.0 < length w.jobs
maker_low w g graph f j is = at (cases_order f (length w.files))
  where
    nowhere : length w.files ≤ f → ⊥
    nowhere past = absurd (let none = none_past g.producers f (let l = graph.files in omega (arith, past, l)) in let clash = sym none ∙ is in cc)

    of_some : (o : Option JobId) → o ≡ Some j → MatchOption o (makers w f ≡ []) (λ (k : JobId). makers w f ≡ k.0 ∷ []) → makers w f ≡ j.0 ∷ []
    of_some None e h = absurd cc
    of_some (Some k) e h = let same : k ≡ j = cc in subst (λ (i : JobId). makers w f ≡ i.0 ∷ []) same h

    within : f < length w.files → j.0 < length w.jobs
    within low = by (cases_order j.0 (length w.jobs))
      where
        made : makers w f ≡ j.0 ∷ []
        made = of_some (producer_of_file g.producers f) is (graph.producer f low)

        writes : is_among f (written_by w j.0) ≡ true
        writes = sym (makes w f j.0) ∙ ap (is_among j.0) made ∙ ap (λ (t : Bool). t || false) (eq-eqb j.0 j.0 refl)

        no : length w.jobs ≤ j.0 → ⊥
        no past = absurd (let none = ap (is_among f) (nothing_past w.jobs j.0 past) in let clash = sym writes ∙ none in cc)

        by : ((j.0 ≡ length w.jobs) ⊎ ((j.0 < length w.jobs) ⊎ (length w.jobs < j.0))) → j.0 < length w.jobs
        by (inl e) = absurd (no (omega (arith, e)))
        by (inr (inl less)) = less
        by (inr (inr more)) = absurd (no (omega (arith, more)))

    at : ((f ≡ length w.files) ⊎ ((f < length w.files) ⊎ (length w.files < f))) → j.0 < length w.jobs
    at (inl e) = absurd (nowhere (omega (arith, e)))
    at (inr (inl low)) = within low
    at (inr (inr more)) = absurd (nowhere (omega (arith, more)))

few_inputs : (w : Workflow) → IsWellFormed w → (a : ℕ) (j : Job) → a < length w.jobs → slice_index_or w.jobs a j ≡ j → length j.inputs ≤ 50000
few_inputs w formed a j low at =
    let over = job_over (length w.files) w.jobs a j formed.jobs low at in
    let short = once_short (length w.files) (inputs_of j) (once_distinct (inputs_of j) over.inputs_once) (low_file (length w.files) (inputs_of j) over.inputs) in
    let long = length-map j.inputs (λ (f : FileId). f.0) in
    let few = formed.few_files in
    omega (arith, short, long, few)

pub lists_are : (w : Workflow) (g : Links) (sizes : List (Option ℕ)) → IsWellFormed w → IsGraphOf w g → AllByRecursion IsSmallSize sizes → AreLists g w.jobs sizes
lists_are w g sizes formed graph small = record {
  parents = sym (length-map g.parents numbers) ∙ graph.parents.long;
  few_jobs = formed.few_jobs;
  made = λ a j low at. (let over = job_over (length w.files) w.jobs a j formed.jobs low at in record {
    below = λ k d l. (let inside = all_files (length w.files) j.inputs over.inputs k d l in let files = graph.files in omega (arith, inside, files));
    makers = maker_low w g graph;
  });
  few = few_inputs w formed;
  in_range = parents_in w g graph;
  small = λ a b j low at. (let all = carried_few g.producers sizes a j.inputs small in let few = few_inputs w formed b j low at in omega (arith, all, few));
}
