-- What a task's readings and drafts come to, over their states before and after.
use Rattle.std.specs.Prelude.{◌≡◌, ℕ, ◌≤◌, true, List, [], ◌∷◌, length, map, Option, Some, Result, Ok, Err}
use Rattle.values.specs.Apply.{Apply}
use Rattle.outside.specs.code.Counts.{Rose}
use Rattle.outside.specs.code.Parts.{DraftState, ReadState, part_faults}
use Rattle.plan_core.specs.declared.plan.Plan.{Plan}
use Rattle.plan_core.specs.declared.plan.TaskKind.{TaskKind}
use Rattle.plan_core.specs.declared.plan.TaskKind.TheVariants.{Transfer, Run}
use Rattle.plan_core.specs.Words.{is_run, is_transfer, kind, reads, writes}
use Rattle.storage_simulation.specs.Goods.{is_delivery}
use Rattle.run_record.specs.declared.entry.Cause.{Cause}
use Rattle.run_record.specs.declared.entry.Cause.TheVariants.{Checksum, HostFailed, Memory}
use Rattle.lease_rules.specs.Legal.{is_from_pfn, is_wrong_for}
use Rattle.lease_rules.specs.code.Storing.{pair_limit}
use Rattle.task_work.specs.Making.{AreStored, IsRunCause, OfRead, limit_of}
use Rattle.task_work.specs.Moving.{IsAgreeing, digest_of}
use Rattle.task_work.specs.Pieces.{HasMoved}
use Rattle.task_work.specs.declared.filling.Filled.{Filled}
use Rattle.task_work.specs.declared.filling.Filled.TheVariants.{Moved, Made}

-- The parts are the task's: of a Transfer one reading, and a draft with room for it; of a Run a reading for each read, and
-- for each write a draft with room for what is declared. A Clean has none.
abbrev pub AreParts : Plan → ℕ → Option TaskKind → List ReadState → List DraftState → Type 0
AreParts p t (Some (Transfer f from to)) (r ∷ []) (d ∷ []) = r.size ≤ d.limit
AreParts p t (Some (Run s js)) rs ds = (length rs ≡ length (reads p t))
    × (map limit_of ds ≡ map (pair_limit p) (writes p t))
AreParts p t _ rs ds = ⊥

-- all bytes of the one reading were moved to the one draft
abbrev pub AreMoved : List ReadState → List DraftState → List DraftState → ℕ → List ℕ → Type 0
AreMoved (r ∷ []) (d ∷ []) (e ∷ []) n digest = HasMoved r d e n digest
AreMoved _ _ _ n digest = ⊥

-- A Transfer's bytes were moved, their digest agrees, and of a delivery it is handed on.
pub record IsTransferred (p : Plan) (t : ℕ) (rs : List ReadState) (ds0 ds1 : List DraftState) (n : ℕ)
    (given : Option (List ℕ)) : Type 0 where
  pub digest : List ℕ
  pub moved : AreMoved rs ds0 ds1 n digest
  pub agrees : IsAgreeing p (kind p t) digest
  pub given_is : given ≡ digest_of (is_delivery p t) digest
  pub long : length digest ≡ 32

-- what the drafts of a Transfer or a Run hold
abbrev pub HasFilled : Apply → Plan → ℕ → List ReadState → List DraftState → List DraftState → Filled → Type 0
HasFilled apply p t rs ds0 ds1 (Moved n given) = (is_transfer p t ≡ true)
    × IsTransferred p t rs ds0 ds1 n given
HasFilled apply p t rs ds0 ds1 (Made sizes) = (is_run p t ≡ true)
    × OfRead p t rs (AreStored apply p t ds0 ds1 sizes.items)

-- Why they don't. The digest of a Checksum is that of the bytes that were moved.
abbrev pub IsWhy : Apply → Plan → ℕ → List ReadState → List DraftState → List DraftState → Cause → Type 0
IsWhy apply p t rs ds0 ds1 (Checksum d) = (n : ℕ) × AreMoved rs ds0 ds1 n d
IsWhy apply p t rs ds0 ds1 cause = IsRunCause apply p t rs cause

-- what the filling of a Transfer's draft answers
abbrev pub FillsTransfer : Plan → ℕ → List ReadState → List ReadState → List DraftState → List DraftState
    → Result Filled Cause → Type 0
FillsTransfer p t rs0 rs1 ds0 ds1 (Ok (Moved n given)) = IsTransferred p t rs0 ds0 ds1 n given
FillsTransfer p t rs0 rs1 ds0 ds1 (Err (Checksum d)) = ((n : ℕ) × AreMoved rs0 ds0 ds1 n d)
    × (is_from_pfn (kind p t) ≡ true) × (is_wrong_for p (kind p t) d ≡ true)
FillsTransfer p t rs0 rs1 ds0 ds1 (Err HostFailed) = Rose (part_faults rs0 ds0) (part_faults rs1 ds1)
FillsTransfer p t rs0 rs1 ds0 ds1 (Err Memory) = Unit {0}
FillsTransfer p t rs0 rs1 ds0 ds1 _ = ⊥
