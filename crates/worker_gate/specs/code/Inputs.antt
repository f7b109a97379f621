-- What entries say of the bytes that a task read, told or not.
use Rattle.std.specs.Prelude.{◌≡◌, ℕ, ◌≤◌, true, List, [], ◌∷◌, ◌++◌, length, map, Option, Some, IfSome, Result, Ok, Err}
use Rattle.sha2.specs.Sha256.{sha256}
use Rattle.values.specs.Apply.{Apply}
use Rattle.plan_core.specs.declared.plan.Plan.{Plan}
use Rattle.plan_core.specs.declared.plan.TaskKind.{TaskKind}
use Rattle.plan_core.specs.declared.plan.TaskKind.TheVariants.{Transfer}
use Rattle.plan_core.specs.declared.plan.Source.TheVariants.{Pfn}
use Rattle.plan_core.specs.Words.{declared, is_run, is_transfer, kind, reads, writes}
use Rattle.plan_core.specs.Names.{pair_file}
use Rattle.storage_simulation.specs.Goods.{or_zero}
use Rattle.run_record.specs.declared.entry.Cause.{Cause}
use Rattle.run_record.specs.declared.entry.Cause.TheVariants.{Checksum, Declined, Oversize}
use Rattle.run_record.specs.Events.{Event, Again, Arrive, End, Fail}
use Rattle.lease_rules.specs.Legal.{checksum}
use Rattle.lease_rules.specs.code.Storing.{AreWithin, IsFirstPast}
use Rattle.task_work.specs.Computing.{first_declined, Makes}
use Rattle.task_work.specs.declared.filling.Filled.{Filled}
use Rattle.task_work.specs.declared.filling.Filled.TheVariants.{Moved, Made}

-- of some bytes, one text for each of the task's reads, this holds
pub record OfInputs (p : Plan) (t : ℕ) (Holds : List (List ℕ) → Type 0) : Type 0 where
  pub blobs : List (List ℕ)
  pub many : length blobs ≡ length (reads p t)
  pub holds : Holds blobs

-- of some such bytes the outputs are made, and this holds of them
abbrev pub OfOutputs : Apply → Plan → ℕ → (List (List ℕ) → Type 0) → Type 0
OfOutputs apply p t Holds = OfInputs p t (λ blobs. (outs : List (List ℕ)) × Makes apply p t blobs outs
    × Holds outs)

-- some bytes have this digest, no more of them than are declared of the file that the task moves
abbrev pub IsDigestOfBytes : Plan → Option TaskKind → List ℕ → Type 0
IsDigestOfBytes p (Some (Transfer f from to)) d = (bytes : List ℕ) × (sha256 bytes ≡ d)
    × (length bytes ≤ or_zero (declared p f.0))
IsDigestOfBytes p _ d = ⊥

-- Some bytes have this length, and where they come from a pfn for whose file a checksum is registered, they have it.
abbrev pub AreBytesMoved : Plan → Option TaskKind → ℕ → Type 0
AreBytesMoved p (Some (Transfer f (Pfn x) to)) n = (bytes : List ℕ) × (length bytes ≡ n)
    × IfSome (checksum p f.0) (λ wanted. sha256 bytes ≡ wanted)
AreBytesMoved p (Some (Transfer f from to)) n = (bytes : List ℕ) × (length bytes ≡ n)
AreBytesMoved p _ n = ⊥

-- A job that declined is the first on whose inputs its tool makes nothing. A file that is too long is that of the first
-- such output, of this length. A digest that differs from the registered checksum is that of some bytes.
abbrev pub IsCauseOfInputs : Apply → Plan → ℕ → Cause → Type 0
IsCauseOfInputs apply p t (Declined j) = OfInputs p t (λ blobs. first_declined apply p t blobs ≡ Some j.0)
IsCauseOfInputs apply p t (Oversize j f n) = OfOutputs apply p t
    (λ outs. (q : ℕ) × IsFirstPast p (writes p t) outs q n × (pair_file p q ≡ f.0))
IsCauseOfInputs apply p t (Checksum d) = IsDigestOfBytes p (kind p t) d
IsCauseOfInputs apply p t _ = Unit {0}

-- the sizes are the lengths of all outputs, none too long
abbrev pub AreLengths : Apply → Plan → ℕ → List ℕ → Type 0
AreLengths apply p t ns = OfOutputs apply p t (λ outs. AreWithin p (writes p t) outs × (ns ≡ map length outs))

-- what was filled of a task's inputs, or why nothing was, is so of some such bytes
abbrev pub IsFilledOf : Apply → Plan → ℕ → Result Filled Cause → Type 0
IsFilledOf apply p t (Ok (Moved n digest)) = (is_transfer p t ≡ true) × AreBytesMoved p (kind p t) n
IsFilledOf apply p t (Ok (Made sizes)) = (is_run p t ≡ true) × AreLengths apply p t sizes.items
IsFilledOf apply p t (Err cause) = IsCauseOfInputs apply p t cause

abbrev pub IsOfInputs : Apply → Plan → Event → Type 0
IsOfInputs apply p (Arrive w t n) = AreBytesMoved p (kind p t) n
IsOfInputs apply p (End w t ns) = AreLengths apply p t ns
IsOfInputs apply p (Fail w t cause ns) = IsCauseOfInputs apply p t cause
IsOfInputs apply p (Again w t cause ns) = IsCauseOfInputs apply p t cause
IsOfInputs apply p _ = Unit {0}

abbrev pub AreOfInputs : Apply → Plan → List Event → Type 0
AreOfInputs apply p [] = Unit {0}
AreOfInputs apply p (e ∷ r) = IsOfInputs apply p e × AreOfInputs apply p r

-- what is added after a record r is so
pub record AddsOfInputs (apply : Apply) (p : Plan) (r after : List Event) : Type 0 where
  pub added : List Event
  pub is : after ≡ r ++ added
  pub are : AreOfInputs apply p added
