-- Reading, with the first fault in its course.
use Rattle.std.specs.Prelude.{ℕ, ◌+◌, List, [], ◌∷◌, if◌then◌else◌, Option, Some, None, Result, Ok, Err}
use Rattle.std.specs.Str.{is_utf8}
use Rattle.serde_json.specs.Data.{Data, Items, no_items, item}
use Rattle.serde_json.specs.Find as find
use Rattle.serde_json.specs.Read.{read}
use Rattle.peg_json.specs.Path.{index_path}
use Rattle.peg_json.specs.declared.fault.TreeFault.{TreeFault}
use Rattle.peg_json.specs.declared.fault.TreeFault.TheVariants as faults
use Rattle.peg_json.specs.declared.read_fault.ReadFault.{ReadFault}
use Rattle.peg_json.specs.declared.read_fault.ReadFault.TheVariants as reads

-- one reading after the other, up to the first fault
infixl 10 ◌>>=◌
abbrev pub ◌>>=◌ : {E A B : Type 0} → Result A E → (A → Result B E) → Result B E
(Ok x) >>= f = f x
(Err e) >>= f = Err e

-- what there is, or the fault of its absence
abbrev pub some_or : {E A : Type 0} → E → Option A → Result A E
some_or e None = Err e
some_or e (Some d) = Ok d

-- the tree that the bytes are, if they are a JSON text
unfoldable pub tree_of : List ℕ → Result Data TreeFault
tree_of bytes = if is_utf8 bytes then some_or faults.Syntax (read bytes) else Err faults.Syntax

-- each element in turn, up to the first fault
abbrev pub each : {E A B : Type 0} → (A → Result B E) → List A → Result (List B) E
each f [] = Ok []
each f (x ∷ xs) = do
  y ← f x
  ys ← each f xs
  Ok (y ∷ ys)

-- each element in turn, under its own path
abbrev pub each_from : {E B : Type 0} → (List ℕ → Data → Result B E) → List ℕ → ℕ → List Data
    → Result (List B) E
each_from f path i [] = Ok []
each_from f path i (d ∷ ds) = do
  y ← f (index_path path i) d
  ys ← each_from f path (i + 1) ds
  Ok (y ∷ ys)

-- the elements of a list
abbrev pub elements : Items → List Data
elements no_items = []
elements (item d ds) = d ∷ elements ds

-- the elements of a list that is there, read in turn
abbrev pub list_among : {B : Type 0} → (List ℕ → Data → Result B TreeFault) → List ℕ → Option Items
    → Result (List B) TreeFault
list_among f path None = Err (faults.WrongKind path)
list_among f path (Some ds) = each_from f path 0 (elements ds)

-- a list whose elements f reads
abbrev pub list_in : {B : Type 0} → (List ℕ → Data → Result B TreeFault) → List ℕ → Data
    → Result (List B) TreeFault
list_in f path d = list_among f path (find.as_array d)

-- after the tree, what else is looked at
abbrev pub then_read : {A B : Type 0} → Result A TreeFault → (A → Result B ReadFault) → Result B ReadFault
then_read (Ok x) f = f x
then_read (Err e) f = Err (reads.Tree e)
