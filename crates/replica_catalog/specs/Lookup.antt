-- The entries of a file name, joined, and what is found under it.
use Rattle.std.specs.Prelude.{ℕ, List, [], ◌∷◌, map, filter, Option, None, Bool, true, false, find, Some}
use Rattle.std.specs.List.{flat_map}
use Rattle.std.specs.Option.{option_or}
use Rattle.std.specs.Str.{bytes_eq}
use Rattle.values.specs.Distinct.{distinct}
use Rattle.replica_catalog.specs.declared.catalog.Pfn.{Pfn}
use Rattle.replica_catalog.specs.declared.catalog.Replica.{Replica}

abbrev pub lfns_of : List Replica → List (List ℕ)
lfns_of es = map (λ (e : Replica). e.lfn) es

-- the entries with an lfn
abbrev pub entries_with : List ℕ → List Replica → List Replica
entries_with lfn es = filter (λ (e : Replica). bytes_eq e.lfn lfn) es

-- the first checksum that one of them states
abbrev pub first_checksum : List Replica → Option (List ℕ)
first_checksum [] = None
first_checksum (e ∷ es) = option_or e.checksum (first_checksum es)

-- the pfns of some entries, one entry's after the other's
abbrev pub pfns_of_entries : List Replica → List Pfn
pfns_of_entries es = flat_map (λ (e : Replica). e.pfns) es

-- one entry of those with an lfn
abbrev pub joined_entry : List Replica → List ℕ → Replica
joined_entry es lfn = record {
  lfn = lfn;
  pfns = pfns_of_entries (entries_with lfn es);
  checksum = first_checksum (entries_with lfn es);
}

-- one entry for each lfn, in order of first appearance
abbrev pub joined : List Replica → List Replica
joined es = map (joined_entry es) (distinct (lfns_of es))

-- the entry is the file's
abbrev pub is_of : List ℕ → Replica → Bool
is_of lfn e = bytes_eq lfn e.lfn

-- the pfns of an entry, if there is one
abbrev pub pfns_in : Option Replica → List Pfn
pfns_in None = []
pfns_in (Some e) = e.pfns

-- one of them is there
abbrev pub has_pfn : List Pfn → Bool
has_pfn [] = false
has_pfn (x ∷ xs) = true

-- The file is registered: its entry, the first one with its name, has a pfn.
abbrev pub is_registered : List Replica → List ℕ → Bool
is_registered es lfn = has_pfn (pfns_in (find (is_of lfn) es))
