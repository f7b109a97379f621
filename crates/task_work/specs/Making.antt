-- A Run's readings, read one by one, and its drafts, written one by one.
use Rattle.std.specs.Prelude.{◌≡◌, ℕ, ◌≤◌, List, [], ◌∷◌, length, map, Some, Result, Ok, Err, Vec}
use Rattle.std.specs.declared.alloc.Global.{Global}
use Rattle.values.specs.Apply.{Apply}
use Rattle.outside.specs.code.Counts.{Rose}
use Rattle.outside.specs.code.Parts.{DraftState, ReadState}
use Rattle.outside.specs.declared.host.HostFault.{HostFault}
use Rattle.outside.specs.declared.host.HostFault.TheVariants as fault
use Rattle.plan_core.specs.declared.plan.Plan.{Plan}
use Rattle.plan_core.specs.Words.{reads, writes}
use Rattle.run_record.specs.declared.entry.Cause.{Cause}
use Rattle.run_record.specs.declared.entry.Cause.TheVariants.{Declined, HostFailed, Memory, Oversize, ToolFailed}
use Rattle.lease_rules.specs.code.Causes.{fault_in}
use Rattle.lease_rules.specs.code.Storing.{AreWithin, IsOverlong}
use Rattle.task_work.specs.Computing.{Computes, Makes, first_declined}
use Rattle.task_work.specs.Pieces.{HasRead, HasWritten}

-- of each element of two lists in order this holds
abbrev pub Each : {A B : Type 0} → (A → B → Type 0) → List A → List B → Type 0
Each R [] [] = Unit {0}
Each R (x ∷ xs) (y ∷ ys) = R x y × Each R xs ys
Each R _ _ = ⊥

-- none of these readings has given anything yet; none of these drafts has bytes
abbrev pub AreBegun : List ReadState → Type 0
AreBegun [] = Unit {0}
AreBegun (r ∷ rs) = (r.given ≡ 0) × AreBegun rs

abbrev pub AreEmpty : List DraftState → Type 0
AreEmpty [] = Unit {0}
AreEmpty (d ∷ ds) = (d.size ≡ 0) × AreEmpty ds

-- a call of some parts failed, or memory was wanted
abbrev pub IsFaultOf : ℕ → ℕ → HostFault → Type 0
IsFaultOf before now fault.Failed = Rose before now
IsFaultOf before now fault.Memory = Unit {0}
IsFaultOf before now _ = ⊥

-- these bytes were written, to each draft its own
abbrev pub AreWritten : List DraftState → List DraftState → List (List ℕ) → Type 0
AreWritten [] [] [] = Unit {0}
AreWritten (d ∷ ds) (e ∷ es) (b ∷ bs) = HasWritten d e b (Ok tt) × AreWritten ds es bs
AreWritten _ _ _ = ⊥

abbrev pub limit_of : DraftState → ℕ
limit_of d = d.limit

-- a text is within a draft's limit
abbrev pub Fits : DraftState → List ℕ → Type 0
Fits d bytes = length bytes ≤ d.limit

-- of the bytes of the readings, one text for each of the task's reads, this holds
pub record OfRead (p : Plan) (t : ℕ) (rs : List ReadState) (Holds : List (List ℕ) → Type 0) : Type 0 where
  pub blobs : List (List ℕ)
  pub read : Each HasRead rs blobs
  pub many : length blobs ≡ length (reads p t)
  pub holds : Holds blobs

-- what is made of these bytes stands in the drafts, none too long, and these are the lengths
pub record AreStored (apply : Apply) (p : Plan) (t : ℕ) (ds0 ds1 : List DraftState) (sizes : List ℕ)
    (blobs : List (List ℕ)) : Type 0 where
  pub outs : List (List ℕ)
  pub made : Makes apply p t blobs outs
  pub within : AreWithin p (writes p t) outs
  pub written : AreWritten ds0 ds1 outs
  pub sizes_are : sizes ≡ map length outs

-- of what is made of these bytes an output is too long
abbrev pub MakesOverlong : Apply → Plan → ℕ → ℕ → ℕ → ℕ → List (List ℕ) → Type 0
MakesOverlong apply p t j f n blobs = (outs : List (List ℕ)) × Makes apply p t blobs outs
    × IsOverlong p t outs j f n

-- what is made of bytes, none too long; or why nothing is
abbrev pub MakesWithin : Apply → Plan → ℕ → List (List ℕ) → ℕ → ℕ → Result (Vec (List ℕ) Global) Cause
    → Type 0
MakesWithin apply p t blobs before later (Ok outs) = Makes apply p t blobs outs.items
    × AreWithin p (writes p t) outs.items
MakesWithin apply p t blobs before later (Err (Oversize j f n)) = MakesOverlong apply p t j.0 f.0 n blobs
MakesWithin apply p t blobs before later (Err cause) = Computes apply p t blobs before later (Err cause)

-- why a Run made nothing, of the bytes of its readings
abbrev pub IsRunCause : Apply → Plan → ℕ → List ReadState → Cause → Type 0
IsRunCause apply p t rs (Declined j) = OfRead p t rs (λ blobs. first_declined apply p t blobs ≡ Some j.0)
IsRunCause apply p t rs (Oversize j f n) = OfRead p t rs (MakesOverlong apply p t j.0 f.0 n)
IsRunCause apply p t rs (ToolFailed j) = Unit {0}
IsRunCause apply p t rs HostFailed = Unit {0}
IsRunCause apply p t rs Memory = Unit {0}
IsRunCause apply p t rs _ = ⊥

-- how many calls of parts have failed at most, by the cause that is told
abbrev pub blames : {X : Type 0} → Result X Cause → ℕ
blames (Ok x) = 0
blames (Err cause) = fault_in cause

-- A failure of the host is shown by the counts of the parts, one of the tool by the tool's count; before and after.
abbrev pub IsShown : ℕ → ℕ → ℕ → ℕ → Cause → Type 0
IsShown parts parts_later tool tool_later HostFailed = Rose parts parts_later
IsShown parts parts_later tool tool_later (ToolFailed j) = Rose tool tool_later
IsShown parts parts_later tool tool_later _ = Unit {0}
