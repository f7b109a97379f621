-- A workflow passes the tests exactly where it is well formed.
use Rattle.std.proofs.Common.{◌≡◌, ℕ, ◌<◌, ◌≤◌, Bool, true, ◌&&◌, List, [], ◌∷◌, length, refl, nat_eq, nat_lt, nat_le, arith}
use Rattle.std.specs.Prelude.{◌↔◌, ◌^◌, Option, Some, None}
use Rattle.std.specs.List.{list_all, AllByRecursion}
use Rattle.values.specs.declared.numbers.JobId.{JobId}
use Rattle.workflow_core.specs.declared.workflow.Workflow.{Workflow}
use Rattle.workflow_core.specs.declared.workflow.Job.{Job}
use Rattle.workflow_core.specs.code.WellFormed.{are_distinct, IsJobOver, IsSmallSize, IsWellFormed}
use Rattle.workflow_core.specs.WellFormed.{inputs_of, outputs_of, parent_of, child_of}
use Rattle.workflow_core.specs.code.Checking.{are_files, is_job_over, is_pair_of, is_small_size, are_sized, are_few, are_named, are_numbered, passes}
use Rattle.std.proofs.lemmas.Bool.{and_from, and_parts}

-- a test at each element
all_of : {A : Type 0} (p : A → Bool) (P : A → Type 0) → ((x : A) → p x ≡ true → P x) → (xs : List A) → list_all p xs ≡ true → AllByRecursion P xs
all_of p P so [] h = tt
all_of p P so (x ∷ xs) h = (so x (and_parts (p x) (list_all p xs) h).0, all_of p P so xs (and_parts (p x) (list_all p xs) h).1)

each_of : {A : Type 0} (p : A → Bool) (P : A → Type 0) → ((x : A) → P x → p x ≡ true) → (xs : List A) → AllByRecursion P xs → list_all p xs ≡ true
each_of p P so [] h = refl
each_of p P so (x ∷ xs) h = and_from (p x) (list_all p xs) (so x h.0) (each_of p P so xs h.1)

below : (f n : ℕ) → nat_lt f n ≡ true → f < n
below f n h = grind arith

is_below : (f n : ℕ) → f < n → nat_lt f n ≡ true
is_below f n h = grind arith

at_most : (a b : ℕ) → nat_le a b ≡ true → a ≤ b
at_most a b h = grind arith

le_test : (a b : ℕ) → a ≤ b → nat_le a b ≡ true
le_test a b h = grind arith

same : (a b : ℕ) → nat_eq a b ≡ true → a ≡ b
same a b h = grind arith

eq_test : (a b : ℕ) → a ≡ b → nat_eq a b ≡ true
eq_test a b h = grind arith

files_below : (n : ℕ) (fs : List ℕ) → are_files n fs ≡ true → AllByRecursion (λ f. f < n) fs
files_below n fs h = all_of (λ f. nat_lt f n) (λ f. f < n) (λ f. below f n) fs (and_parts _ _ h).0

below_files : (n : ℕ) (fs : List ℕ) → AllByRecursion (λ f. f < n) fs → are_distinct nat_eq fs ≡ true → are_files n fs ≡ true
below_files n fs h once = and_from _ _ (each_of (λ f. nat_lt f n) (λ f. f < n) (λ f. is_below f n) fs h) once

job_passes : (n : ℕ) (j : Job) → is_job_over n j ≡ true → IsJobOver n j
job_passes n j h =
    let ins = (and_parts (are_files n (inputs_of j)) (are_files n (outputs_of j)) h).0 in
    let outs = (and_parts (are_files n (inputs_of j)) (are_files n (outputs_of j)) h).1 in
    record {
      inputs = files_below n (inputs_of j) ins;
      outputs = files_below n (outputs_of j) outs;
      inputs_once = (and_parts _ _ ins).1;
      outputs_once = (and_parts _ _ outs).1;
    }

passes_job : (n : ℕ) (j : Job) → IsJobOver n j → is_job_over n j ≡ true
passes_job n j h = and_from _ _ (below_files n (inputs_of j) h.inputs h.inputs_once) (below_files n (outputs_of j) h.outputs h.outputs_once)

abbrev IsPairOf : ℕ → JobId × JobId → Type 0
IsPairOf n p = (parent_of p < n) × (child_of p < n)

pair_passes : (n : ℕ) (p : JobId × JobId) → is_pair_of n p ≡ true → IsPairOf n p
pair_passes n p h = (below (parent_of p) n (and_parts _ _ h).0, below (child_of p) n (and_parts _ _ h).1)

passes_pair : (n : ℕ) (p : JobId × JobId) → IsPairOf n p → is_pair_of n p ≡ true
passes_pair n p h = and_from _ _ (is_below (parent_of p) n h.0) (is_below (child_of p) n h.1)

size_passes : (o : Option ℕ) → is_small_size o ≡ true → IsSmallSize o
size_passes None h = tt
size_passes (Some n) h = at_most n (2 ^ 40) h

passes_size : (o : Option ℕ) → IsSmallSize o → is_small_size o ≡ true
passes_size None h = refl
passes_size (Some n) h = le_test n (2 ^ 40) h

passed : (w : Workflow) → passes w ≡ true → IsWellFormed w
passed w h =
    let few = (and_parts (are_few w) (are_named w && are_numbered w) h).0 in
    let rest = (and_parts (are_few w) (are_named w && are_numbered w) h).1 in
    let named = (and_parts (are_named w) (are_numbered w) rest).0 in
    let numbered = (and_parts (are_named w) (are_numbered w) rest).1 in
    let files = (and_parts (nat_le (length w.jobs) 10000) (nat_le (length w.files) 50000 && are_sized w) few).1 in
    let sized = (and_parts (nat_le (length w.files) 50000) (are_sized w) files).1 in
    let sizes = and_parts (nat_eq (length w.sizes) (length w.files)) (list_all is_small_size w.sizes) sized in
    record {
      few_jobs = at_most (length w.jobs) 10000 (and_parts _ _ few).0;
      few_files = at_most (length w.files) 50000 (and_parts (nat_le (length w.files) 50000) (are_sized w) files).0;
      sizes = same (length w.sizes) (length w.files) sizes.0;
      small_sizes = all_of is_small_size IsSmallSize size_passes w.sizes sizes.1;
      ids = (and_parts _ _ named).0;
      names = (and_parts _ _ named).1;
      jobs = all_of (is_job_over (length w.files)) (IsJobOver (length w.files)) (job_passes (length w.files)) w.jobs (and_parts _ _ numbered).0;
      pairs = all_of (is_pair_of (length w.jobs)) (IsPairOf (length w.jobs)) (pair_passes (length w.jobs)) w.pairs (and_parts _ _ numbered).1;
    }

has_passed : (w : Workflow) → IsWellFormed w → passes w ≡ true
has_passed w h =
    and_from (are_few w) (are_named w && are_numbered w)
    (and_from _ _ (le_test (length w.jobs) 10000 h.few_jobs) (and_from _ _ (le_test (length w.files) 50000 h.few_files) (and_from _ _ (eq_test (length w.sizes) (length w.files) h.sizes) (each_of is_small_size IsSmallSize passes_size w.sizes h.small_sizes))))
    (and_from (are_named w) (are_numbered w)
    (and_from _ _ h.ids h.names)
    (and_from _ _
    (each_of (is_job_over (length w.files)) (IsJobOver (length w.files)) (passes_job (length w.files)) w.jobs h.jobs)
    (each_of (is_pair_of (length w.jobs)) (IsPairOf (length w.jobs)) (passes_pair (length w.jobs)) w.pairs h.pairs)))

pub passing : (w : Workflow) → passes w ≡ true ↔ IsWellFormed w
passing w = (passed w, has_passed w)
