-- Beside `specs/Meaning.antt`: what the code's own contracts say.
use Rattle.std.specs.Prelude.{◌≡◌, ℕ, true}
use Rattle.values.specs.Apply.{Apply}
use Rattle.plan_request.specs.declared.request.PlanRequest.{PlanRequest}
use Rattle.plan_core.specs.declared.plan.Plan.{Plan}
use Rattle.plan_core.specs.Carried.{carried}
use Rattle.plan_core.specs.code.Kinds.{carries}
use Rattle.planner.specs.declared.inputs.Survey.{Survey}
use Rattle.planner.specs.Meaning.{Told, value_of, AreHonest}

-- Where the replicas are honest, each task of the plan carries the values of its files, one undefined where the other is.
abbrev pub MeansWorkflow : PlanRequest → Survey → Plan → Type 0
MeansWorkflow r s p = (apply : Apply) (told : Told) → AreHonest apply told r s → (t f : ℕ)
    → carries p t f ≡ true → carried apply told p t f ≡ value_of apply told r s f
