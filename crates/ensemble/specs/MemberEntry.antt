-- What a member of an ensemble is.
use Rattle.std.specs.Prelude.{ℕ, ◌==◌, Bool, List, [], ◌∷◌, codes, if◌then◌else◌, Result, Ok, Err}
use Rattle.std.specs.List.{list_any}
use Rattle.serde_json.specs.Data.{Data}
use Rattle.peg_json.specs.Path.{key_path}
use Rattle.peg_json.specs.Tree.{◌>>=◌}
use Rattle.peg_json.specs.Table.{Row, needs, checks}
use Rattle.peg_json.specs.Typed.{required, name_of}
use Rattle.peg_json.specs.declared.row.Kind.TheVariants as kinds
use Rattle.peg_json.specs.declared.fault.TreeFault.{TreeFault}
use Rattle.peg_json.specs.declared.fault.TreeFault.TheVariants as faults
use Rattle.plan_request.specs.Request.{only_known}
use Rattle.ensemble.specs.declared.document.MemberEntry.{MemberEntry}

abbrev pub member_rows : List Row
member_rows = needs (codes "name") kinds.Name ∷ needs (codes "request") kinds.Name ∷ []

-- a byte of the name is that of `/`
abbrev pub has_slash : List ℕ → Bool
has_slash name = list_any (λ c. c == 47) name

abbrev pub without_slash : List ℕ → List ℕ → Result (List ℕ) TreeFault
without_slash path name = if has_slash name then Err (faults.WrongKind path) else Ok name

-- a name in which no `/` stands
abbrev pub plain_name_at : List ℕ → Data → List ℕ → Result (List ℕ) TreeFault
plain_name_at path d key = required name_of path d key >>= without_slash (key_path path key)

unfoldable pub member_of : List ℕ → Data → Result MemberEntry TreeFault
member_of path d = do
  u ← checks path d member_rows
  v ← only_known path d member_rows
  name ← plain_name_at path d (codes "name")
  request ← required name_of path d (codes "request")
  Ok (record { name = name; request = request })
