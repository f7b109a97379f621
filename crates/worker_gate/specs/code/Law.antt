-- What lease_book promises of a proper plan.
use Rattle.std.specs.Prelude.{◌≡◌, ℕ, ◌+◌, ◌≤◌}
use Rattle.plan_core.specs.declared.plan.Plan.{Plan}
use Rattle.run_record.specs.Events.{Event}
use Rattle.lease_rules.specs.Choice.{IsChoice}
use Rattle.lease_rules.specs.code.Law.{IsConsistent}
use Rattle.lease_rules.specs.Legal.{Allowed}
use Rattle.lease_rules.specs.code.Room.{entries_room}
use Rattle.lease_rules.specs.State.{State, after}

-- the laws of records that the workers' proofs rest on
pub record HasLeaseLaws (p : Plan) : Type 0 where
  pub one_choice : (s : State) (t u : ℕ) → IsChoice p s t → IsChoice p s u → t ≡ u
  pub room_falls : (s : State) (e : Event) → IsConsistent p s → Allowed p s e
      → entries_room p (after p s e) + 1 ≤ entries_room p s
  pub consistent : (s : State) (e : Event) → IsConsistent p s → Allowed p s e → IsConsistent p (after p s e)
