-- Each site's files.
use Rattle.std.specs.Prelude.{◌≡◌, ℕ, List, [], ◌∷◌, Option, Some, None, string_bytes, String}
use Rattle.std.specs.Ordering.{nat_cmp}
use Rattle.std.specs.Cmp.Lexicographic.{slice_cmp}
use Rattle.std.specs.FinMap as map
use Rattle.std.specs.declared.alloc.Global.{Global}
use Rattle.values.specs.FileMap.{Files}

-- a finite map from sites to files; a site that isn't there has none
abbrev pub Sites : Type 0
Sites = map.FinMap (slice_cmp nat_cmp) Files

-- the map that a list of named sites is
abbrev pub sited : List (String Global × Files) → List (List ℕ × Files)
sited [] = []
sited (e ∷ es) = (string_bytes e.0, e.1) ∷ sited es

abbrev pub sites_of : List (String Global × Files) → Sites
sites_of es = map.from_entries (sited es)

abbrev pub or_empty : Option Files → Files
or_empty None = map.empty
or_empty (Some files) = files

-- the files at a site
abbrev pub at_site : Sites → List ℕ → Files
at_site m site = or_empty (map.get m site)

-- the bytes of a name at a site
abbrev pub pair_at : Sites → List ℕ → List ℕ → Option (List ℕ)
pair_at m site name = map.get (at_site m site) name

-- the bytes of a name at a site set
abbrev pub put_pair : Sites → List ℕ → List ℕ → List ℕ → Sites
put_pair m site name bytes = map.insert m site (map.insert (at_site m site) name bytes)

-- a name taken out of a site
abbrev pub take_pair : Sites → List ℕ → List ℕ → Sites
take_pair m site name = map.insert m site (map.remove (at_site m site) name)

-- a site has no file
abbrev pub IsEmptyAt : Sites → List ℕ → Type 0
IsEmptyAt m site = (name : List ℕ) → pair_at m site name ≡ None
