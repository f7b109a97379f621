-- Forms of a document that are left out: each is a fault where it comes.
use Rattle.std.specs.Prelude.{ℕ, List, length, nat_lt, false, if◌then◌else◌, is_some, unwrap_or, option_map, Result, Ok, Err}
use Rattle.serde_json.specs.Data.{Data}
use Rattle.serde_json.specs.Find as find
use Rattle.peg_json.specs.Path.{key_path}
use Rattle.peg_json.specs.Tree.{◌>>=◌, some_or, elements}
use Rattle.peg_json.specs.Table.{member_of}
use Rattle.peg_json.specs.Typed.{optional, flag_of}
use Rattle.peg_json.specs.declared.fault.TreeFault.{TreeFault}
use Rattle.peg_json.specs.declared.fault.TreeFault.TheVariants as faults

-- the key is left out
abbrev pub unsupported : List ℕ → List ℕ → Result (Unit {0}) TreeFault
unsupported path key = Err (faults.Unsupported (key_path path key) key)

-- any value at a key but null
abbrev pub value_refused : List ℕ → Data → List ℕ → Result (Unit {0}) TreeFault
value_refused path d key = if is_some (member_of d key) then unsupported path key else Ok tt

-- how many elements a list has
abbrev pub count_of : List ℕ → Data → Result ℕ TreeFault
count_of path d = some_or (faults.WrongKind path) (option_map (λ ds. length (elements ds)) (find.as_array d))

-- a list with elements at a key
abbrev pub elements_refused : List ℕ → Data → List ℕ → Result (Unit {0}) TreeFault
elements_refused path d key = optional count_of path d key >>= λ count. if nat_lt 0 (unwrap_or count 0)
    then unsupported path key else Ok tt

-- a flag that is true at a key
abbrev pub flag_refused : List ℕ → Data → List ℕ → Result (Unit {0}) TreeFault
flag_refused path d key = optional flag_of path d key >>= λ flag. if unwrap_or flag false
    then unsupported path key else Ok tt
