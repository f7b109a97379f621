-- Files of jobs, and tests over lists.
use Rattle.std.proofs.Common.{◌≡◌, ℕ, zero, suc, ◌<◌, Bool, true, false, ◌||◌, List, [], ◌∷◌, length, map, refl, sym, ap, ◌∙◌, nat_eq, arith}
use Rattle.std.specs.Prelude.{slice_index_or}
use Rattle.std.specs.List.{list_any, AllByRecursion}
use Rattle.values.specs.declared.numbers.JobId.{JobId}
use Rattle.workflow_core.specs.declared.workflow.Job.{Job}
use Rattle.workflow_core.specs.WellFormed.{inputs_of, outputs_of}
use Rattle.workflow_core.specs.code.WellFormed.{IsJobOver}
use Rattle.dependency_graph.specs.Edges.{read_by, written_by}
use Rattle.plan_core.specs.Numbers.{has}
use Rattle.plan_core.proofs.TestLemmas.{same_number, by_bool}
use Rattle.transfer_refiner.specs.Draft.{Draft, part_uses, part_makes}
use Rattle.transfer_refiner.specs.code.Conditions.{IsDraft}

pub any_same : {A : Type 0} (test other : A → Bool) (xs : List A) → ((x : A) → test x ≡ other x) → list_any test xs ≡ list_any other xs
any_same test other [] h = refl
any_same test other (x ∷ xs) h = ap (λ (b : Bool). b || list_any test xs) (h x) ∙ ap (λ (b : Bool). other x || b) (any_same test other xs h)

-- files of jobs are in range
among_below : (n f : ℕ) (fs : List ℕ) → AllByRecursion (λ g. g < n) fs → has fs f ≡ true → f < n
among_below n f [] all h = absurd cc
among_below n f (g ∷ fs) all h = by (nat_eq g f) refl h (λ k. among_below n f fs all.1 k)
  where
    by : (t : Bool) → nat_eq g f ≡ t → (t || has fs f) ≡ true → (has fs f ≡ true → f < n) → f < n
    by true e k rest = let same : g ≡ f = same_number g f e in let below : g < n = all.0 in omega (arith, same, below)
    by false e k rest = rest k

read_below : (n : ℕ) (js : List Job) → AllByRecursion (IsJobOver n) js → (j f : ℕ) → has (slice_index_or (map inputs_of js) j []) f ≡ true → f < n
read_below n [] all j f h = absurd cc
read_below n (x ∷ js) all zero f h = among_below n f (inputs_of x) all.0.inputs h
read_below n (x ∷ js) all (suc j) f h = read_below n js all.1 j f h

pub written_below : (n : ℕ) (js : List Job) → AllByRecursion (IsJobOver n) js → (j f : ℕ) → has (slice_index_or (map outputs_of js) j []) f ≡ true → f < n
written_below n [] all j f h = absurd cc
written_below n (x ∷ js) all zero f h = among_below n f (outputs_of x) all.0.outputs h
written_below n (x ∷ js) all (suc j) f h = written_below n js all.1 j f h

pub used_below : (d : Draft) → IsDraft d → (js : List JobId) (f : ℕ) → part_uses d js f ≡ true → f < length d.workflow.files
used_below d draft [] f h = absurd cc
used_below d draft (j ∷ js) f h = by_bool (has (read_by d.workflow j.0) f) (λ e. read_below (length d.workflow.files) d.workflow.jobs draft.formed.jobs j.0 f e) (λ e. used_below d draft js f (sym (ap (λ (b : Bool). b || part_uses d js f) e) ∙ h))

pub made_below : (d : Draft) → IsDraft d → (js : List JobId) (f : ℕ) → part_makes d js f ≡ true → f < length d.workflow.files
made_below d draft [] f h = absurd cc
made_below d draft (j ∷ js) f h = by_bool (has (written_by d.workflow j.0) f) (λ e. written_below (length d.workflow.files) d.workflow.jobs draft.formed.jobs j.0 f e) (λ e. made_below d draft js f (sym (ap (λ (b : Bool). b || part_makes d js f) e) ∙ h))
