-- Which keys an object has, and whether it is as they say.
use Rattle.std.specs.Prelude.{ℕ, List, [], ◌∷◌, ◌||◌, Bool, true, false, length, nat_lt, if◌then◌else◌, Option, Some, None, option_and_then, is_some, Result, Ok, Err, unwrap_or, option_map}
use Rattle.std.specs.List.{list_any}
use Rattle.std.specs.Str.{bytes_eq}
use Rattle.serde_json.specs.Data.{Data, Members, no_members, member}
use Rattle.serde_json.specs.Find as find
use Rattle.peg_json.specs.Path.{key_path}
use Rattle.peg_json.specs.Tree.{◌>>=◌, each}
use Rattle.peg_json.specs.declared.row.Kind.{Kind}
use Rattle.peg_json.specs.declared.row.Kind.TheVariants as kinds
use Rattle.peg_json.specs.declared.fault.TreeFault.{TreeFault}
use Rattle.peg_json.specs.declared.fault.TreeFault.TheVariants as faults

-- a row: a key, and what its value has to be
pub record Row : Type 0 where
  pub key : List ℕ
  pub kind : Kind
  pub required : Bool

-- an object's member of a key; a null counts as absent
abbrev pub member_of : Data → List ℕ → Option Data
member_of d key = option_and_then (λ v. if is_some (find.as_null v) then None else Some v) (find.get key d)

-- the value is of the kind
abbrev pub is_kind : Kind → Data → Bool
is_kind kinds.Name d = unwrap_or (option_map (λ s. nat_lt 0 (length s)) (find.as_str d)) false
is_kind kinds.Text d = is_some (find.as_str d)
is_kind kinds.Number d = is_some (option_and_then find.as_u64 (find.as_number d))
is_kind kinds.Flag d = is_some (find.as_bool d)
is_kind kinds.List d = is_some (find.as_array d)
is_kind kinds.Object d = is_some (find.as_object d)
is_kind kinds.Digits d = is_some (option_and_then find.as_u64 (find.as_number d)) || is_some (find.as_str d)
is_kind kinds.Any d = true

-- what is found for a row, or the row's fault
abbrev pub row_found : List ℕ → Row → Option Data → Result (Option Data) TreeFault
row_found path r None = if r.required then Err (faults.MissingKey (key_path path r.key)) else Ok None
row_found path r (Some d) = if is_kind r.kind d then Ok (Some d)
    else Err (faults.WrongKind (key_path path r.key))

-- an object's member of a row, or the row's fault
abbrev pub row_member : List ℕ → Data → Row → Result (Option Data) TreeFault
row_member path d r = row_found path r (member_of d r.key)

-- an object's member of each row, or the first fault from the top
unfoldable pub members_of : List ℕ → Data → List Row → Result (List (Option Data)) TreeFault
members_of path d rows = if is_some (find.as_object d) then each (row_member path d) rows
    else Err (faults.WrongKind path)

-- an object's own check
abbrev pub checks : List ℕ → Data → List Row → Result (Unit {0}) TreeFault
checks path d rows = members_of path d rows >>= λ found. Ok tt

-- some row has the key
abbrev pub is_key : List Row → List ℕ → Bool
is_key rows k = list_any (λ r. bytes_eq r.key k) rows

-- the keys of an object
abbrev pub keys_in : Members → List (List ℕ)
keys_in no_members = []
keys_in (member k d ms) = k ∷ keys_in ms

-- a row of a key that has to be there
abbrev pub needs : List ℕ → Kind → Row
needs key kind = record { key = key; kind = kind; required = true }

-- a row of a key that may be absent
abbrev pub may_have : List ℕ → Kind → Row
may_have key kind = record { key = key; kind = kind; required = false }
