-- What is joined after some of a list.
use Rattle.std.specs.Prelude.{List, [], ◌∷◌, ◌++◌, if◌then◌else◌}
use Rattle.std.specs.Option.{option_or}
use Rattle.std.specs.Str.{bytes_eq}
use Rattle.replica_catalog.specs.declared.catalog.Replica.{Replica}

-- an entry with another of its lfn
abbrev pub absorbed : Replica → Replica → Replica
absorbed r e = record { lfn = r.lfn; pfns = r.pfns ++ e.pfns; checksum = option_or r.checksum e.checksum }

-- the entries with one more, which is joined to that of its lfn or stands at the end
abbrev pub with_entry : List Replica → Replica → List Replica
with_entry [] e = e ∷ []
with_entry (r ∷ rs) e = if bytes_eq e.lfn r.lfn then absorbed r e ∷ rs else r ∷ with_entry rs e

-- with more of them, one after the other
abbrev pub with_entries : List Replica → List Replica → List Replica
with_entries rs [] = rs
with_entries rs (e ∷ es) = with_entries (with_entry rs e) es
