-- Readings of one kind each: names, texts, numbers, flags, and lists that are empty where they are absent.
use Rattle.std.specs.Option.{option_or}
use Rattle.std.specs.Prelude.{ℕ, List, Bool, nat_lt, length, decimal, if◌then◌else◌, Option, Some, None, option_and_then, Result, Ok, Err, option_map, [], unwrap_or}
use Rattle.serde_json.specs.Data.{Data}
use Rattle.serde_json.specs.Find as find
use Rattle.peg_json.specs.Path.{key_path}
use Rattle.peg_json.specs.Tree.{◌>>=◌, some_or, list_in}
use Rattle.peg_json.specs.Table.{member_of}
use Rattle.peg_json.specs.declared.fault.TreeFault.{TreeFault}
use Rattle.peg_json.specs.declared.fault.TreeFault.TheVariants as faults

-- what f reads of a value that has to be there
abbrev pub where_found : {B : Type 0} → TreeFault → (Data → Result B TreeFault) → Option Data
    → Result B TreeFault
where_found missing f None = Err missing
where_found missing f (Some e) = f e

-- what f reads at a key that has to be there
abbrev pub required : {B : Type 0} → (List ℕ → Data → Result B TreeFault) → List ℕ → Data → List ℕ
    → Result B TreeFault
required f path d key = where_found (faults.MissingKey (key_path path key)) (f (key_path path key))
    (member_of d key)

-- what f reads of a value that may be absent
abbrev pub if_found : {B : Type 0} → (Data → Result B TreeFault) → Option Data → Result (Option B) TreeFault
if_found f None = Ok None
if_found f (Some e) = f e >>= λ y. Ok (Some y)

-- what f reads at a key that may be absent
abbrev pub optional : {B : Type 0} → (List ℕ → Data → Result B TreeFault) → List ℕ → Data → List ℕ
    → Result (Option B) TreeFault
optional f path d key = if_found (f (key_path path key)) (member_of d key)

-- any text
abbrev pub text_of : List ℕ → Data → Result (List ℕ) TreeFault
text_of path d = some_or (faults.WrongKind path) (find.as_str d)

-- a text that is not empty
abbrev pub nonempty_text : List ℕ → List ℕ → Result (List ℕ) TreeFault
nonempty_text path s = if nat_lt 0 (length s) then Ok s else Err (faults.WrongKind path)

-- a name: a text that is not empty
abbrev pub name_of : List ℕ → Data → Result (List ℕ) TreeFault
name_of path d = text_of path d >>= nonempty_text path

-- true or false
abbrev pub flag_of : List ℕ → Data → Result Bool TreeFault
flag_of path d = some_or (faults.WrongKind path) (find.as_bool d)

-- a number that is not above the limit
abbrev pub number_within : ℕ → List ℕ → ℕ → Result ℕ TreeFault
number_within limit path n = if nat_lt limit n then Err (faults.OutOfRange path n) else Ok n

-- a whole number from 0 to the limit; what is written as a float is none
abbrev pub number_of : ℕ → List ℕ → Data → Result ℕ TreeFault
number_of limit path d = some_or (faults.WrongKind path)
    (option_and_then find.as_u64 (find.as_number d)) >>= number_within limit path

-- a number as its decimal digits, or any text as it is
abbrev pub digits_of : List ℕ → Data → Result (List ℕ) TreeFault
digits_of path d = some_or (faults.WrongKind path)
    (option_or (option_map decimal (option_and_then find.as_u64 (find.as_number d))) (find.as_str d))

-- any value
abbrev pub any_of : List ℕ → Data → Result Data TreeFault
any_of path d = Ok d

-- a list whose elements f reads, or the empty one
abbrev pub list_or_none : {B : Type 0} → (List ℕ → Data → Result B TreeFault) → List ℕ → Data → List ℕ
    → Result (List B) TreeFault
list_or_none f path d key = optional (list_in f) path d key >>= λ found. Ok (unwrap_or found [])
