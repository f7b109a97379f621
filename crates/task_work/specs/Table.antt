-- Bytes by file number, and what its calls answer.
use Rattle.std.specs.Prelude.{◌≡◌, ℕ, List, Option, Some, None, Vec, nat_eq}
use Rattle.std.specs.declared.alloc.Global.{Global}
use Rattle.std.specs.HashMap.{get}
use Rattle.task_work.specs.declared.table.Table.{Table}

-- what stands at a file
abbrev pub at : Table → ℕ → Option (List ℕ)
at t f = get nat_eq t.bytes f

-- what was found, if all of it is there
abbrev pub IsFound : Option (List (List ℕ)) → Option (Vec (List ℕ) Global) → Type 0
IsFound found None = found ≡ None
IsFound found (Some v) = found ≡ Some v.items
