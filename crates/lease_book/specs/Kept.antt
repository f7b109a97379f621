-- What every book keeps.
use Rattle.std.specs.Prelude.{ℕ, suc, ◌≤◌, List, [], ◌∷◌, Option, Some, None}
use Rattle.std.specs.Coded.{×_prop, Unit-prop, le_prop}
use Rattle.std.proofs.Props.{props}
use Rattle.plan_core.specs.declared.plan.Plan.{Plan}
use Rattle.plan_core.specs.code.Numbers.{RisesFrom}
use Rattle.plan_core.specs.Words.{retries}
use Rattle.storage_simulation.specs.code.Goods.{IsWithinLimits}
use Rattle.run_record.specs.code.Events.{Log}
use Rattle.lease_rules.specs.State.{now}
use Rattle.lease_rules.specs.Legal.{Legal}
use Rattle.lease_rules.specs.code.Law.{FitsFromStart, HasStorageLaws, IsConsistent}
use Rattle.lease_rules.specs.code.Room.{entries_room, sizes_room}
use Rattle.place_peaks.specs.Links.{IsCleaner}
use Rattle.lease_book.specs.declared.state.RunState.{RunState}
use Rattle.lease_book.specs.RunState.{HasPeaks, HasRoom, IsSame, state_of}

-- A book's record is Legal, its arrays show the state after it, and there is room for all entries that may come.
pub record IsBook (p : Plan) (order : List ℕ) (history : Log) (s : RunState) : Type 0 where
  pub limits : IsWithinLimits p
  pub laws : HasStorageLaws p
  pub few : retries p ≤ 10
  pub fits : FitsFromStart p order
  pub room : HasRoom p s
  pub peaks : HasPeaks p s
  pub consistent : IsConsistent p (state_of s)
  pub legal : ∥ Legal p order history.events ∥₁
  pub same : IsSame (state_of s) (now p order history.events)
  pub entries : entries_room p (state_of s) ≤ history.room
  pub sizes : sizes_room p (state_of s) ≤ history.sizes_room

-- Two of them of one book are the same.
rises-prop : (b : ℕ) (xs : List ℕ) → IsProp (RisesFrom b xs)
rises-prop b [] = Unit-prop
rises-prop b (x ∷ xs) = ×_prop le_prop (rises-prop (suc x) xs)

cleaner-prop : (p : Plan) (g : ℕ) (o : Option ℕ) → IsProp (IsCleaner p g o)
cleaner-prop p g None = Prim.hlevel props
cleaner-prop p g (Some c) = Prim.hlevel props

pub IsBook-prop : (p : Plan) (order : List ℕ) (history : Log) (s : RunState)
    → IsProp (IsBook p order history s)
IsBook-prop p order history s = Prim.hlevel (props, rises-prop, cleaner-prop)
