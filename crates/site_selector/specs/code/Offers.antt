-- Beside `specs/Offers.antt`: what the code's own contracts say.
use Rattle.std.specs.Prelude.{◌≡◌, ℕ, Bool, true, false, if◌then◌else◌, List, [], ◌∷◌, map, set, Vec, Option, Some, None}
use Rattle.std.specs.declared.alloc.Global.{Global}
use Rattle.std.specs.List.{list_any}
use Rattle.std.specs.Str.{bytes_eq}
use Rattle.workflow_core.specs.Names.{number}
use Rattle.workflow_core.specs.declared.workflow.Transformation.{Transformation}
use Rattle.transformation_catalog.specs.declared.catalog.TransformationEntry.{TransformationEntry}
use Rattle.transformation_catalog.specs.declared.catalog.TransformationSite.{TransformationSite}
use Rattle.plan_request.specs.declared.request.Execution.{Execution}
use Rattle.site_selector.specs.Offers.{is_installed_at, are_offered_at, sites_of}

abbrev pub names_of : List Execution → List (List ℕ)
names_of execute = map (λ (e : Execution). e.site) execute

-- ---- flags, one for each name

abbrev pub installed_flags : List (List ℕ) → List TransformationSite → List Bool
installed_flags names sites = map (λ n. list_any (is_installed_at n) sites) names

abbrev pub offer_flags : List (List ℕ) → List TransformationSite → List Bool
offer_flags names sites = map (are_offered_at sites) names

-- the flags with one more site
abbrev pub marked : List (List ℕ) → List Bool → TransformationSite → List Bool
marked names flags s = if s.installed then set flags (number names s.name) true else flags

abbrev pub flags_in : List (Vec Bool Global) → List (List Bool)
flags_in table = map (λ (flags : Vec Bool Global). flags.items) table

-- for each entry its flags
abbrev pub offer_table : List (List ℕ) → List TransformationEntry → List (List Bool)
offer_table names entries = map (λ (e : TransformationEntry). offer_flags names e.sites) entries

-- no name comes twice
abbrev pub AreDistinct : List (List ℕ) → Type 0
AreDistinct [] = Unit {0}
AreDistinct (n ∷ ns) = (list_any (bytes_eq n) ns ≡ false) × AreDistinct ns

-- the execution sites and the catalogue's entries
pub record Offered : Type 0 where
  pub execute : List Execution
  pub entries : List TransformationEntry

-- the flags that were found are those of the transformation's entry, which else has no sites
abbrev pub IsFound : Offered → Transformation → Option (List Bool) → Type 0
IsFound o t (Some flags) = flags ≡ offer_flags (names_of o.execute) (sites_of o.entries t)
IsFound o t None = sites_of o.entries t ≡ []
