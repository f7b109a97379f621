-- What a plan's files are worth, and where that can be had.
use Rattle.std.specs.Prelude.{◌≡◌, ℕ, true, false, List, map, Option, Some, option_and_then, slice_get}
use Rattle.std.specs.List.{AllByRecursion}
use Rattle.values.specs.Apply.{Apply, all_of, part}
use Rattle.workflow_core.specs.declared.workflow.Job.{Job}
use Rattle.workflow_core.specs.declared.workflow.Workflow.{Workflow}
use Rattle.workflow_core.specs.Requested.{is_requested}
use Rattle.workflow_core.specs.WellFormed.{inputs_of, outputs_of}
use Rattle.replica_catalog.specs.declared.catalog.Pfn.{Pfn}
use Rattle.replica_catalog.specs.Lookup.{is_registered}
use Rattle.plan_request.specs.declared.request.ToolOf.{ToolOf}
use Rattle.plan_request.specs.JobTools.{tool_of}
use Rattle.dependency_graph.specs.Edges.{has_output}
use Rattle.dependency_graph.specs.Value.{run_of}
use Rattle.transfer_refiner.specs.Draft.{Draft, draft_file_name, pfns_of}
use Rattle.transfer_refiner.specs.code.Tasks.{is_made}

-- what a job makes for one of its outputs, where v stands at its inputs
abbrev pub made_of : Apply → List ToolOf → (ℕ → Option (List ℕ)) → Job → ℕ → Option (List ℕ)
made_of apply tools v j f = option_and_then (part f (outputs_of j))
    (run_of apply (tool_of tools j.transformation.name) j (all_of (map v (inputs_of j))))

-- each output of each job is worth what the job makes of the values of its inputs
abbrev pub AreValues : Apply → List ToolOf → Workflow → (ℕ → Option (List ℕ)) → Type 0
AreValues apply tools w v = (a f : ℕ) (j : Job) → slice_get w.jobs a ≡ Some j → has_output f j ≡ true
    → v f ≡ made_of apply tools v j f

-- each registered copy holds its file's value; `told` are the bytes at each pfn
abbrev pub AreHeld : Draft → (List ℕ → Option (List ℕ)) → (ℕ → Option (List ℕ)) → Type 0
AreHeld d told v = (f : ℕ) → AllByRecursion (λ (x : Pfn). told x.pfn ≡ v f) (pfns_of d f)

-- a requested file that no part makes is registered
abbrev pub AreAtHand : Draft → Type 0
AreAtHand d = (f : ℕ) → is_requested d.workflow f ≡ true → is_made d f ≡ false
    → is_registered d.replicas (draft_file_name d f) ≡ true
