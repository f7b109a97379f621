-- Which versions are read.
use Rattle.std.specs.Prelude.{ℕ, List, codes, take, drop, length, nat_lt, ◌&&◌, ◌||◌, Bool, if◌then◌else◌, Result, Ok, Err, unwrap_or, option_map}
use Rattle.std.specs.Str.{bytes_eq}
use Rattle.std.specs.List.{list_all}
use Rattle.std.specs.Char.{is_ascii_digit}
use Rattle.serde_json.specs.Data.{Data}
use Rattle.peg_json.specs.Tree.{◌>>=◌}
use Rattle.peg_json.specs.Typed.{required, optional, text_of}
use Rattle.peg_json.specs.declared.fault.TreeFault.{TreeFault}
use Rattle.peg_json.specs.declared.fault.TreeFault.TheVariants as faults

-- one or more digits
abbrev pub are_digits : List ℕ → Bool
are_digits s = nat_lt 0 (length s) && list_all is_ascii_digit s

-- `5.0`, or `5.0.` and one or more digits
abbrev pub is_version : List ℕ → Bool
is_version s = bytes_eq s (codes "5.0") || (bytes_eq (take 4 s) (codes "5.0.") && are_digits (drop 4 s))

-- the check of a text as a version
abbrev pub version_named : List ℕ → Result (Unit {0}) TreeFault
version_named s = if is_version s then Ok tt else Err (faults.BadVersion s)

-- the check of a version that has to be there
abbrev pub version_at : List ℕ → Data → List ℕ → Result (Unit {0}) TreeFault
version_at path d key = required text_of path d key >>= version_named

-- the check of a version that may be absent
abbrev pub optional_version_at : List ℕ → Data → List ℕ → Result (Unit {0}) TreeFault
optional_version_at path d key = optional text_of path d key >>= λ s. unwrap_or (option_map version_named s) (Ok tt)
