-- Where a file of the working folder is to stand.
use Rattle.std.specs.Prelude.{◌≡◌, ℕ, List, codes, string_bytes}
use Rattle.outside.specs.declared.place.Place.{Place}
use Rattle.outside.specs.declared.place.Place.TheVariants.{Scratch, Delivery}
use Rattle.host_files.specs.FileName.{path_in}
use Rattle.host_files.specs.declared.target.Target.{Target}
use Rattle.host_files.specs.declared.target.Target.TheVariants.{Site, Output}

-- a site's folder
abbrev pub site_folder : List ℕ → List ℕ
site_folder site = path_in (codes "sites") site

-- a file of a site
abbrev pub site_path : List ℕ → List ℕ → List ℕ
site_path site name = path_in (site_folder site) name

-- a delivered file
abbrev pub output_path : List ℕ → List ℕ
output_path name = path_in (codes "output") name

-- the paths of a place
abbrev pub IsTarget : Place → Target → Type 0
IsTarget (Scratch site name) (Site p) = (string_bytes p.folder ≡ site_folder site)
    × (string_bytes p.path ≡ site_path site name)
IsTarget (Delivery name) (Output path) = string_bytes path ≡ output_path name
IsTarget _ _ = ⊥
