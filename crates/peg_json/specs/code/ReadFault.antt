-- Beside `specs/ReadFault.antt`: what the code's own contracts say.
use Rattle.std.specs.Prelude.{◌≡◌, Result, Ok, Err}
use Rattle.peg_json.specs.declared.fault.TreeFault.TheVariants as faults
use Rattle.peg_json.specs.declared.read_fault.ReadFault.{ReadFault}
use Rattle.peg_json.specs.declared.read_fault.ReadFault.TheVariants as reads

-- a reading's fault, told by e to those that read on
abbrev pub told_by : {E F A : Type 0} → (E → F) → Result A E → Result A F
told_by e (Ok x) = Ok x
told_by e (Err fault) = Err (e fault)

-- A fault that was returned is the one that reading gives. Want of memory is free.
abbrev pub FailsRead : {Y : Type 0} → ReadFault → Result Y ReadFault → Type 0
FailsRead (reads.Tree faults.Memory) read = Unit {0}
FailsRead (reads.Tree faults.Syntax) read = read ≡ Err (reads.Tree faults.Syntax)
FailsRead (reads.Tree (faults.MissingKey p)) read = read ≡ Err (reads.Tree (faults.MissingKey p))
FailsRead (reads.Tree (faults.WrongKind p)) read = read ≡ Err (reads.Tree (faults.WrongKind p))
FailsRead (reads.Tree (faults.OutOfRange p n)) read = read ≡ Err (reads.Tree (faults.OutOfRange p n))
FailsRead (reads.Tree (faults.Unsupported p w)) read = read ≡ Err (reads.Tree (faults.Unsupported p w))
FailsRead (reads.Tree (faults.BadVersion t)) read = read ≡ Err (reads.Tree (faults.BadVersion t))
FailsRead (reads.TooMany c n limit) read = read ≡ Err (reads.TooMany c n limit)
FailsRead (reads.DuplicateJob id) read = read ≡ Err (reads.DuplicateJob id)
FailsRead (reads.DuplicateUse id lfn) read = read ≡ Err (reads.DuplicateUse id lfn)
FailsRead (reads.UnknownJob id) read = read ≡ Err (reads.UnknownJob id)
FailsRead (reads.DuplicateSite name) read = read ≡ Err (reads.DuplicateSite name)
FailsRead (reads.DuplicateTransformation name) read = read ≡ Err (reads.DuplicateTransformation name)

-- What was returned, seen by view, is what reading gives, unless memory ran out.
abbrev pub GivesRead : {X Y : Type 0} → (X → Y) → Result X ReadFault → Result Y ReadFault → Type 0
GivesRead view (Ok x) read = read ≡ Ok (view x)
GivesRead view (Err e) read = FailsRead e read
