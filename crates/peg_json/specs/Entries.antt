-- Objects whose keys are free: each member read under its own path, in byte order of the keys.
use Rattle.std.specs.Prelude.{ℕ, List, [], ◌∷◌, Option, Some, None, Result, Ok, Err}
use Rattle.serde_json.specs.Data.{Data, Members, no_members, member}
use Rattle.serde_json.specs.Find as find
use Rattle.peg_json.specs.declared.fault.TreeFault.{TreeFault}
use Rattle.peg_json.specs.declared.fault.TreeFault.TheVariants as faults
use Rattle.peg_json.specs.Path.{key_path}
use Rattle.peg_json.specs.Tree.{◌>>=◌}

-- the members of an object, in byte order of their keys
abbrev pub members_in_order : Members → List (List ℕ × Data)
members_in_order no_members = []
members_in_order (member k d ms) = (k, d) ∷ members_in_order ms

-- a member with its key, read under its own path
unfoldable pub entry_of : {B : Type 0} → (List ℕ → Data → Result B TreeFault) → List ℕ → List ℕ → Data
    → Result (List ℕ × B) TreeFault
entry_of f path key d = f (key_path path key) d >>= λ y. Ok (key, y)

-- each member with its key, up to the first fault
abbrev pub entries_from : {B : Type 0} → (List ℕ → Data → Result B TreeFault) → List ℕ → List (List ℕ × Data)
    → Result (List (List ℕ × B)) TreeFault
entries_from f path [] = Ok []
entries_from f path (m ∷ ms) = do
  y ← entry_of f path m.0 m.1
  ys ← entries_from f path ms
  Ok (y ∷ ys)

-- the members of an object that is there, read in turn
abbrev pub entries_among : {B : Type 0} → (List ℕ → Data → Result B TreeFault) → List ℕ → Option Members
    → Result (List (List ℕ × B)) TreeFault
entries_among f path None = Err (faults.WrongKind path)
entries_among f path (Some ms) = entries_from f path (members_in_order ms)

-- an object whose members f reads
abbrev pub entries_in : {B : Type 0} → (List ℕ → Data → Result B TreeFault) → List ℕ → Data
    → Result (List (List ℕ × B)) TreeFault
entries_in f path d = entries_among f path (find.as_object d)
