-- Which sites have a transformation.
use Rattle.std.specs.Prelude.{ℕ, ◌||◌, ◌&&◌, Bool, not, List, [], slice_get, Option, Some, None}
use Rattle.std.specs.List.{list_any}
use Rattle.std.specs.Str.{bytes_eq}
use Rattle.workflow_core.specs.declared.workflow.Transformation.{Transformation}
use Rattle.transformation_catalog.specs.declared.catalog.TransformationEntry.{TransformationEntry}
use Rattle.transformation_catalog.specs.declared.catalog.TransformationSite.{TransformationSite}
use Rattle.transformation_catalog.specs.Lookup.{place_of}

abbrev pub is_installed_at : List ℕ → TransformationSite → Bool
is_installed_at name s = s.installed && bytes_eq s.name name

abbrev pub is_stageable : TransformationSite → Bool
is_stageable s = not s.installed

-- it is installed at the site of this name, or it may be staged from any site
abbrev pub are_offered_at : List TransformationSite → List ℕ → Bool
are_offered_at sites name = list_any is_stageable sites || list_any (is_installed_at name) sites

abbrev pub sites_in : Option TransformationEntry → List TransformationSite
sites_in None = []
sites_in (Some e) = e.sites

abbrev pub sites_at : List TransformationEntry → Option ℕ → List TransformationSite
sites_at entries None = []
sites_at entries (Some i) = sites_in (slice_get entries i)

-- the sites of a transformation's entry, none where it has no entry
abbrev pub sites_of : List TransformationEntry → Transformation → List TransformationSite
sites_of entries t = sites_at entries (place_of entries t)
