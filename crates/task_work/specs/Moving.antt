-- A Transfer's bytes, and their digest.
use Rattle.std.specs.Prelude.{◌≡◌, ℕ, ◌+◌, Bool, true, cond, List, Option, Some, None, Result, Ok, Err, IfSome}
use Rattle.outside.specs.code.Counts.{Rose}
use Rattle.outside.specs.code.Parts.{DraftState, ReadState}
use Rattle.outside.specs.declared.host.HostFault.{HostFault}
use Rattle.outside.specs.declared.host.HostFault.TheVariants as fault
use Rattle.plan_core.specs.declared.plan.Plan.{Plan}
use Rattle.plan_core.specs.declared.plan.Source.TheVariants.{Pfn}
use Rattle.plan_core.specs.declared.plan.TaskKind.{TaskKind}
use Rattle.plan_core.specs.declared.plan.TaskKind.TheVariants.{Transfer}
use Rattle.plan_core.specs.Words.{kind}
use Rattle.run_record.specs.declared.entry.Cause.{Cause}
use Rattle.run_record.specs.declared.entry.Cause.TheVariants.{Checksum, HostFailed, Memory}
use Rattle.lease_rules.specs.Legal.{checksum, differs_from, is_from_pfn, is_wrong_for}
use Rattle.task_work.specs.Pieces.{HasMoved}
use Rattle.task_work.specs.declared.pieces.Moved.{Moved}

-- a failed call of a part is the host's
abbrev pub part_cause : HostFault → Cause
part_cause fault.Memory = Memory
part_cause _ = HostFailed

-- whether a digest is the one that is registered, if one is; else what it is
abbrev pub IsAgreed : Option (List ℕ) → List ℕ → Result (Unit {0}) Cause → Type 0
IsAgreed registered d (Ok u) = IfSome registered (λ wanted. d ≡ wanted)
IsAgreed registered d (Err (Checksum e)) = (e ≡ d) × (differs_from registered d ≡ true)
IsAgreed registered d (Err _) = ⊥

-- of a Transfer from a pfn a digest is the one that is registered, where one is
abbrev pub IsAgreeing : Plan → Option TaskKind → List ℕ → Type 0
IsAgreeing p (Some (Transfer f (Pfn x) to)) d = IfSome (checksum p f.0) (λ wanted. d ≡ wanted)
IsAgreeing p _ d = Unit {0}

-- whether a digest agrees; else what it is, of a Transfer from a pfn
abbrev pub Agrees : Plan → Option TaskKind → List ℕ → Result (Unit {0}) Cause → Type 0
Agrees p k d (Ok u) = IsAgreeing p k d
Agrees p k d (Err (Checksum e)) = (e ≡ d) × (is_from_pfn k ≡ true) × (is_wrong_for p k d ≡ true)
Agrees p k d (Err _) = ⊥

-- the digest that is handed on: of a delivery alone
abbrev pub digest_of : Bool → List ℕ → Option (List ℕ)
digest_of delivers d = cond delivers (Some d) None

-- What the moving of a Transfer's bytes answers: all were moved, and their digest agrees; they were moved, and it doesn't;
-- a call of a part failed; or memory was wanted.
abbrev pub Moves : Plan → ℕ → ReadState → ReadState → DraftState → DraftState → Result Moved Cause → Type 0
Moves p t r0 r1 d0 d1 (Ok m) = HasMoved r0 d0 d1 m.length m.digest × IsAgreeing p (kind p t) m.digest
Moves p t r0 r1 d0 d1 (Err (Checksum d)) = ((n : ℕ) × HasMoved r0 d0 d1 n d)
    × (is_from_pfn (kind p t) ≡ true) × (is_wrong_for p (kind p t) d ≡ true)
Moves p t r0 r1 d0 d1 (Err HostFailed) = Rose (r0.faults + d0.faults) (r1.faults + d1.faults)
Moves p t r0 r1 d0 d1 (Err Memory) = Unit {0}
Moves p t r0 r1 d0 d1 (Err _) = ⊥
