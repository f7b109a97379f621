-- Beside `specs/Tree.antt`: what the code's own contracts say.
use Rattle.std.specs.Prelude.{◌≡◌, List, ◌++◌, Result, Ok, Err}
use Rattle.serde_json.specs.Read.{read}
use Rattle.peg_json.specs.declared.fault.TreeFault.{TreeFault}
use Rattle.peg_json.specs.declared.fault.TreeFault.TheVariants as faults

-- A fault that was returned is the one that reading gives. Want of memory is free.
abbrev pub Fails : {Y : Type 0} → TreeFault → Result Y TreeFault → Type 0
Fails faults.Memory read = Unit {0}
Fails faults.Syntax read = read ≡ Err faults.Syntax
Fails (faults.MissingKey p) read = read ≡ Err (faults.MissingKey p)
Fails (faults.WrongKind p) read = read ≡ Err (faults.WrongKind p)
Fails (faults.OutOfRange p n) read = read ≡ Err (faults.OutOfRange p n)
Fails (faults.Unsupported p w) read = read ≡ Err (faults.Unsupported p w)
Fails (faults.BadVersion t) read = read ≡ Err (faults.BadVersion t)

-- What was returned, seen by view, is what reading gives, unless memory ran out.
abbrev pub Gives : {X Y : Type 0} → (X → Y) → Result X TreeFault → Result Y TreeFault → Type 0
Gives view (Ok x) read = read ≡ Ok (view x)
Gives view (Err e) read = Fails e read

-- what was read before, and what is still read
abbrev pub with_front : {E B : Type 0} → List B → Result (List B) E → Result (List B) E
with_front front (Ok ys) = Ok (front ++ ys)
with_front front (Err e) = Err e
