-- Who makes a file, among lists of jobs put together.
use Rattle.std.proofs.Common.{◌≡◌, ℕ, ◌+◌, ◌<◌, ◌≤◌, Bool, true, false, cond, ◌||◌, List, [], ◌∷◌, ◌++◌, map, refl, ap, ◌∙◌, ◌⊎◌}
use Rattle.std.specs.Prelude.{Option, Some, None, option_map}
use Rattle.std.specs.List.{AllByRecursion, list_any}
use Rattle.std.specs.Option.{option_or}
use Rattle.workflow_core.specs.declared.workflow.Job.{Job}
use Rattle.workflow_core.specs.Requested.{requests}
use Rattle.workflow_core.specs.WellFormed.{outputs_of}
use Rattle.dependency_graph.specs.Edges.{has_output, producer}
use Rattle.dependency_graph.specs.Value.{tool_for}
use Rattle.ensemble.specs.Jobs.{job_of}
use Rattle.ensemble.proofs.DistinctLemmas.{any_mapped}
use Rattle.ensemble.proofs.JobsLemmas.{AreWithin, makes_after, not_among, not_requested, requests_after}

pub producer_joined : (xs ys : List Job) (f : ℕ) → producer (xs ++ ys) f ≡ option_or (producer xs f) (producer ys f)
producer_joined [] ys f = refl
producer_joined (x ∷ xs) ys f = by (has_output f x) (producer_joined xs ys f)
  where
    by : (t : Bool) → producer (xs ++ ys) f ≡ option_or (producer xs f) (producer ys f) → cond t (Some x) (producer (xs ++ ys) f) ≡ option_or (cond t (Some x) (producer xs f)) (producer ys f)
    by true h = refl
    by false h = h

pub producer_after : (m : List ℕ) (k f : ℕ) (js : List Job) → producer (map (job_of m k) js) (k + f) ≡ option_map (job_of m k) (producer js f)
producer_after m k f [] = refl
producer_after m k f (j ∷ js) =
    ap (λ (t : Bool). cond t (Some (job_of m k j)) (producer (map (job_of m k) js) (k + f))) (makes_after m k f j)
    ∙ by (has_output f j) (producer_after m k f js)
  where
    by : (t : Bool) → producer (map (job_of m k) js) (k + f) ≡ option_map (job_of m k) (producer js f) → cond t (Some (job_of m k j)) (producer (map (job_of m k) js) (k + f)) ≡ option_map (job_of m k) (cond t (Some j) (producer js f))
    by true h = refl
    by false h = h

-- the jobs make files from one number on and below another
abbrev pub MakeWithin : ℕ → ℕ → List Job → Type 0
MakeWithin low high js = AllByRecursion (λ (j : Job). AreWithin low high (outputs_of j)) js

pub none_makes : (low high f : ℕ) (js : List Job) → MakeWithin low high js → (f < low) ⊎ (high ≤ f) → producer js f ≡ None
none_makes low high f [] all out = refl
none_makes low high f (j ∷ js) all out = ap (λ (t : Bool). cond t (Some j) (producer js f)) (not_among low high f (outputs_of j) all.0 out) ∙ none_makes low high f js all.1 out

pub none_requests : (low high f : ℕ) (js : List Job) → MakeWithin low high js → (f < low) ⊎ (high ≤ f) → list_any (requests f) js ≡ false
none_requests low high f [] all out = refl
none_requests low high f (j ∷ js) all out = ap (λ (t : Bool). t || list_any (requests f) js) (not_requested f j (not_among low high f (outputs_of j) all.0 out)) ∙ none_requests low high f js all.1 out

pub requested_after : (m : List ℕ) (k f : ℕ) (js : List Job) → list_any (requests (k + f)) (map (job_of m k) js) ≡ list_any (requests f) js
requested_after m k f js = any_mapped (requests (k + f)) (requests f) (job_of m k) (requests_after m k f) js

-- what a function says of a file's producer
abbrev pub said : (Job → List ℕ) → Option Job → List ℕ
said g None = []
said g (Some j) = g j

pub tool_said : (g : Job → List ℕ) (js : List Job) (f : ℕ) → tool_for js (map g js) f ≡ said g (producer js f)
tool_said g [] f = refl
tool_said g (j ∷ js) f = by (has_output f j) (tool_said g js f)
  where
    by : (t : Bool) → tool_for js (map g js) f ≡ said g (producer js f) → cond t (g j) (tool_for js (map g js) f) ≡ said g (cond t (Some j) (producer js f))
    by true h = refl
    by false h = h
