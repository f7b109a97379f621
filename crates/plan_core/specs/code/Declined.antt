-- The job on whose inputs a tool makes nothing, if there is one.
use Rattle.std.specs.Prelude.{ℕ, List, [], ◌∷◌, map, Option, Some, None, option_and_then}
use Rattle.values.specs.Apply.{Apply, all_of}
use Rattle.values.specs.declared.numbers.JobId.{JobId}
use Rattle.plan_core.specs.declared.plan.Plan.{Plan}
use Rattle.plan_core.specs.declared.plan.PlanJob.{PlanJob}
use Rattle.plan_core.specs.declared.plan.TaskKind.{TaskKind}
use Rattle.plan_core.specs.declared.plan.TaskKind.TheVariants.{Run}
use Rattle.plan_core.specs.Carried.{after_job, read}
use Rattle.plan_core.specs.Words.{inputs, kind, tool_outputs}

-- the first of the jobs on whose inputs the tool makes nothing, where v stands at the files before them
abbrev pub next_declined : ℕ → Option (List (List ℕ)) → Option ℕ → Option ℕ
next_declined j None later = Some j
next_declined j (Some outs) later = later

abbrev pub declined_among : Apply → List PlanJob → List JobId → (ℕ → Option (List ℕ)) → Option ℕ
declined_among apply jobs [] v = None
declined_among apply jobs (j ∷ js) v = next_declined j.0
    (option_and_then (tool_outputs apply jobs j.0) (all_of (map v (inputs jobs j.0))))
    (declined_among apply jobs js (after_job apply jobs j.0 v))

abbrev pub declined_in : Apply → Plan → (ℕ → ℕ → Option (List ℕ)) → Option TaskKind → Option ℕ
declined_in apply p at (Some (Run s js)) = declined_among apply p.jobs js (at s.0)
declined_in apply p at _ = None

-- the first job of a Run on whose inputs the tool makes nothing
abbrev pub declined : Apply → Plan → (ℕ → ℕ → Option (List ℕ)) → ℕ → Option ℕ
declined apply p c t = declined_in apply p (λ s f. read p c t s f) (kind p t)
