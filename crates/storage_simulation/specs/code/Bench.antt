-- A bench for the orders of a plan.
use Rattle.plan_core.specs.declared.plan.Plan.{Plan}
use Rattle.storage_simulation.specs.declared.bench.Bench.{Bench}
use Rattle.storage_simulation.specs.code.Front.{IsFrontFor}
use Rattle.storage_simulation.specs.code.Index.{IsIndexFor}

-- front and index are made for the plan
pub record IsFor (p : Plan) (b : Bench) : Type 0 where
  pub front : IsFrontFor p b.front
  pub index : IsIndexFor p b.index
