-- What a job makes of its inputs, with its files under other numbers.
use Rattle.std.proofs.Common.{◌≡◌, ℕ, ◌+◌, Bool, cond, List, [], ◌∷◌, map, refl, ap, ◌∙◌, nat_eq}
use Rattle.std.specs.Prelude.{Option, Some, None, option_and_then}
use Rattle.std.proofs.lemmas.List.{length-map}
use Rattle.values.specs.Apply.{Apply, all_of, part}
use Rattle.workflow_core.specs.declared.workflow.Job.{Job}
use Rattle.workflow_core.specs.WellFormed.{inputs_of, outputs_of}
use Rattle.dependency_graph.specs.Value.{Basis, made_for, run_of, tool_for}
use Rattle.ensemble.specs.Jobs.{job_of, output_after}
use Rattle.ensemble.proofs.JobsLemmas.{inputs_after, outputs_after, same_after}

part_after : (n f : ℕ) (os : List ℕ) (vs : List (List ℕ)) → part (n + f) (map (λ o. n + o) os) vs ≡ part f os vs
part_after n f [] vs = refl
part_after n f (o ∷ os) [] = refl
part_after n f (o ∷ os) (v ∷ vs) =
    ap (λ (t : Bool). cond t (Some v) (part (n + f) (map (λ p. n + p) os) vs)) (same_after n o f)
    ∙ ap (λ (x : Option (List ℕ)). cond (nat_eq o f) (Some v) x) (part_after n f os vs)

parts_after : (n f : ℕ) (os : List ℕ) (made : Option (List (List ℕ))) → option_and_then (part (n + f) (map (λ o. n + o) os)) made ≡ option_and_then (part f os) made
parts_after n f os None = refl
parts_after n f os (Some vs) = part_after n f os vs

values_after : (n : ℕ) (v : ℕ → Option (List ℕ)) (fs : List ℕ) → map v (map (λ f. n + f) fs) ≡ map (λ f. v (n + f)) fs
values_after n v [] = refl
values_after n v (f ∷ fs) = ap (λ (xs : List (Option (List ℕ))). v (n + f) ∷ xs) (values_after n v fs)

-- the same tool makes the same of the same values
pub made_after : (m : List ℕ) (n f : ℕ) (one two : Basis) (many few : List Job) (v : ℕ → Option (List ℕ)) (j : Job) → one.apply ≡ two.apply
    → tool_for many one.tools (n + f) ≡ tool_for few two.tools f
    → made_for one many v (n + f) (job_of m n j) ≡ made_for two few (λ g. v (n + g)) f j
made_after m n f one two many few v j apply tool =
    ap (λ (os : List ℕ). option_and_then (part (n + f) os) (run_of one.apply (tool_for many one.tools (n + f)) (job_of m n j) (all_of (map v (inputs_of (job_of m n j)))))) (outputs_after m n j)
    ∙ parts_after n f (outputs_of j) (run_of one.apply (tool_for many one.tools (n + f)) (job_of m n j) (all_of (map v (inputs_of (job_of m n j)))))
    ∙ ap (λ (is : List ℕ). option_and_then (part f (outputs_of j)) (run_of one.apply (tool_for many one.tools (n + f)) (job_of m n j) (all_of (map v is)))) (inputs_after m n j)
    ∙ ap (λ (xs : List (Option (List ℕ))). option_and_then (part f (outputs_of j)) (run_of one.apply (tool_for many one.tools (n + f)) (job_of m n j) (all_of xs))) (values_after n v (inputs_of j))
    ∙ ap (λ (outs : ℕ). option_and_then (part f (outputs_of j)) (option_and_then (λ vs. one.apply (tool_for many one.tools (n + f)) j.arguments vs outs) (all_of (map (λ g. v (n + g)) (inputs_of j))))) (length-map j.outputs (output_after n))
    ∙ ap (λ (t : List ℕ). option_and_then (part f (outputs_of j)) (run_of one.apply t j (all_of (map (λ g. v (n + g)) (inputs_of j))))) tool
    ∙ ap (λ (a : Apply). option_and_then (part f (outputs_of j)) (run_of a (tool_for few two.tools f) j (all_of (map (λ g. v (n + g)) (inputs_of j))))) apply
