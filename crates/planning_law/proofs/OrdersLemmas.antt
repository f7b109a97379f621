-- An order from the start fits, and has all tasks.
use Rattle.std.proofs.Common.{ℕ, List, []}
use Rattle.plan_core.specs.declared.plan.Plan.{Plan}
use Rattle.storage_simulation.specs.Fitting.{Fits}
use Rattle.storage_simulation.specs.code.Law.{KeepsGoods}
use Rattle.storage_simulation.specs.code.Ordering.{IsOrder}
use Rattle.storage_simulation.specs.Ordering.{Progress, at_start, size}
use Rattle.storage_simulation.specs.Usage.{IsWithin}
use Rattle.storage_simulation.proofs.StartLemmas.{start_within}
use Rattle.lease_rules.specs.code.Law.{FitsFromStart}

-- an order fits a standing that is within the bounds
abbrev pub OrdersFit : Type 0
OrdersFit = (p : Plan) (st : Progress) (ts : List ℕ) → KeepsGoods p → IsWithin p (size st) [] → IsOrder p st ts → Fits p st.phase st.held ts

pub order_fits_from_start : (law : OrdersFit) (p : Plan) (order : List ℕ) → KeepsGoods p → IsOrder p at_start order → FitsFromStart p order
order_fits_from_start law p order keeps is = record { fits = law p at_start order keeps (start_within p) is; all = is.all }
