-- What the entries of a record change in the store, with the bytes that tasks carry: c t f is what task t carries for file f.
use Rattle.std.specs.Prelude.{ℕ, List, Option}
use Rattle.std.specs.FinMap as files
use Rattle.values.specs.Apply.{Apply}
use Rattle.outside.specs.declared.store.Store.{Store}
use Rattle.plan_core.specs.declared.plan.Plan.{Plan}
use Rattle.plan_core.specs.Carried.{carried}

-- what the tasks carry over the replicas of a store
abbrev pub carries : Apply → Plan → Store → ℕ → ℕ → Option (List ℕ)
carries apply p s = carried apply (λ pfn. files.get s.replicas pfn) p
