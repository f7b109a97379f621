-- The plan's table of jobs says what the workflow says.
use Rattle.std.proofs.Common.{◌≡◌, ℕ, zero, suc, Bool, not, ◌&&◌, List, [], ◌∷◌, length, map, refl, ap, ◌∙◌, arith}
use Rattle.std.specs.Prelude.{Option, slice_get, slice_index_or}
use Rattle.values.specs.declared.numbers.JobId.{JobId}
use Rattle.values.specs.declared.numbers.SiteId.{SiteId}
use Rattle.workflow_core.specs.declared.workflow.Job.{Job}
use Rattle.workflow_core.specs.declared.workflow.Output.{Output}
use Rattle.workflow_core.specs.WellFormed.{inputs_of, outputs_of}
use Rattle.dependency_graph.specs.Edges.{read_by, written_by}
use Rattle.plan_request.specs.declared.request.ToolOf.{ToolOf}
use Rattle.plan_core.specs.declared.plan.Plan.{Plan}
use Rattle.plan_core.specs.declared.plan.PlanJob.{PlanJob}
use Rattle.plan_core.specs.Numbers.{has}
use Rattle.plan_core.specs.Words.{file_numbers, inputs_in, outputs_in, inputs, outputs}
use Rattle.plan_core.specs.Kinds as kinds
use Rattle.transfer_refiner.specs.Draft.{Draft, part_uses, part_makes, part_needs}
use Rattle.transfer_refiner.specs.Tasks.{jobs_of}
use Rattle.transfer_refiner.specs.Refined.{IsRefined}
use Rattle.transfer_refiner.specs.code.Conditions.{IsDraft}
use Rattle.transfer_refiner.proofs.JobsLemmas.{any_same}

outputs_map : (os : List Output) → file_numbers (map (λ (o : Output). o.file) os) ≡ map (λ (o : Output). o.file.0) os
outputs_map [] = refl
outputs_map (o ∷ os) = ap (λ (xs : List ℕ). o.file.0 ∷ xs) (outputs_map os)

inputs_same : (tools : List ToolOf) (js : List Job) (ss : List (Option SiteId)) → length ss ≡ length js → (j : ℕ) → inputs_in (slice_get (jobs_of tools js ss) j) ≡ slice_index_or (map inputs_of js) j []
inputs_same tools [] ss h j = refl
inputs_same tools (x ∷ js) [] h j = absurd (omega arith)
inputs_same tools (x ∷ js) (s ∷ ss) h zero = refl
inputs_same tools (x ∷ js) (s ∷ ss) h (suc j) = inputs_same tools js ss (omega arith) j

outputs_same : (tools : List ToolOf) (js : List Job) (ss : List (Option SiteId)) → length ss ≡ length js → (j : ℕ) → outputs_in (slice_get (jobs_of tools js ss) j) ≡ slice_index_or (map outputs_of js) j []
outputs_same tools [] ss h j = refl
outputs_same tools (x ∷ js) [] h j = absurd (omega arith)
outputs_same tools (x ∷ js) (s ∷ ss) h zero = outputs_map x.outputs
outputs_same tools (x ∷ js) (s ∷ ss) h (suc j) = outputs_same tools js ss (omega arith) j

pub inputs_are : (d : Draft) (p : Plan) → IsDraft d → IsRefined d p → (j : ℕ) → inputs p.jobs j ≡ read_by d.workflow j
unfolding inputs
inputs_are d p draft refined j = ap (λ (js : List PlanJob). inputs_in (slice_get js j)) refined.jobs ∙ inputs_same d.request.tools d.workflow.jobs d.sites draft.jobs_placed j

pub outputs_are : (d : Draft) (p : Plan) → IsDraft d → IsRefined d p → (j : ℕ) → outputs p.jobs j ≡ written_by d.workflow j
unfolding outputs
outputs_are d p draft refined j = ap (λ (js : List PlanJob). outputs_in (slice_get js j)) refined.jobs ∙ outputs_same d.request.tools d.workflow.jobs d.sites draft.jobs_placed j

pub uses_are : (d : Draft) (p : Plan) → IsDraft d → IsRefined d p → (js : List JobId) (f : ℕ) → kinds.jobs_use p.jobs js f ≡ part_uses d js f
uses_are d p draft refined js f = any_same (λ (j : JobId). has (inputs p.jobs j.0) f) (λ (j : JobId). has (read_by d.workflow j.0) f) js (λ j. ap (λ (xs : List ℕ). has xs f) (inputs_are d p draft refined j.0))

pub makes_are : (d : Draft) (p : Plan) → IsDraft d → IsRefined d p → (js : List JobId) (f : ℕ) → kinds.jobs_make p.jobs js f ≡ part_makes d js f
makes_are d p draft refined js f = any_same (λ (j : JobId). has (outputs p.jobs j.0) f) (λ (j : JobId). has (written_by d.workflow j.0) f) js (λ j. ap (λ (xs : List ℕ). has xs f) (outputs_are d p draft refined j.0))

pub needs_are : (d : Draft) (p : Plan) → IsDraft d → IsRefined d p → (js : List JobId) (f : ℕ) → (kinds.jobs_use p.jobs js f && not (kinds.jobs_make p.jobs js f)) ≡ part_needs d js f
needs_are d p draft refined js f = ap (λ (b : Bool). b && not (kinds.jobs_make p.jobs js f)) (uses_are d p draft refined js f) ∙ ap (λ (b : Bool). part_uses d js f && not b) (makes_are d p draft refined js f)
