-- What a job's profiles are.
use Rattle.std.specs.Prelude.{ℕ, List, [], ◌∷◌, codes, None, Result, Ok, unwrap_or}
use Rattle.serde_json.specs.Data.{Data}
use Rattle.peg_json.specs.Tree.{◌>>=◌}
use Rattle.peg_json.specs.Table.{Row, may_have, checks}
use Rattle.peg_json.specs.Typed.{optional, text_of, digits_of}
use Rattle.peg_json.specs.declared.row.Kind.TheVariants as kinds
use Rattle.peg_json.specs.declared.fault.TreeFault.{TreeFault}
use Rattle.peg_json.specs.declared.pegasus_profiles.PegasusProfiles.{PegasusProfiles}
use Rattle.peg_json.specs.declared.selector_profiles.SelectorProfiles.{SelectorProfiles}
use Rattle.peg_json.specs.declared.profiles.Profiles.{Profiles}

abbrev pub pegasus_rows : List Row
pegasus_rows =
    may_have (codes "label") kinds.Text
    ∷ may_have (codes "clusters.size") kinds.Digits
    ∷ may_have (codes "clusters.num") kinds.Digits
    ∷ []

unfoldable pub pegasus_of : List ℕ → Data → Result PegasusProfiles TreeFault
pegasus_of path d = do
  u ← checks path d pegasus_rows
  label ← optional text_of path d (codes "label")
  cluster_size ← optional digits_of path d (codes "clusters.size")
  cluster_num ← optional digits_of path d (codes "clusters.num")
  Ok (record { label = label; cluster_size = cluster_size; cluster_num = cluster_num })

-- absent profiles
abbrev pub no_pegasus : PegasusProfiles
no_pegasus = record { label = None; cluster_size = None; cluster_num = None }

abbrev pub selector_rows : List Row
selector_rows = may_have (codes "execution.site") kinds.Text ∷ []

unfoldable pub selector_of : List ℕ → Data → Result SelectorProfiles TreeFault
selector_of path d = do
  u ← checks path d selector_rows
  site ← optional text_of path d (codes "execution.site")
  Ok (record { site = site })

-- absent profiles
abbrev pub no_selector : SelectorProfiles
no_selector = record { site = None }

abbrev pub profiles_rows : List Row
profiles_rows =
    may_have (codes "pegasus") kinds.Object
    ∷ may_have (codes "selector") kinds.Object
    ∷ []

unfoldable pub profiles_of : List ℕ → Data → Result Profiles TreeFault
profiles_of path d = do
  u ← checks path d profiles_rows
  pegasus ← optional pegasus_of path d (codes "pegasus")
  selector ← optional selector_of path d (codes "selector")
  Ok (record { pegasus = unwrap_or pegasus no_pegasus; selector = unwrap_or selector no_selector })

-- absent profiles
abbrev pub no_profiles : Profiles
no_profiles = record { pegasus = no_pegasus; selector = no_selector }

-- the profiles at a key
abbrev pub profiles_or_none : List ℕ → Data → List ℕ → Result Profiles TreeFault
profiles_or_none path d key = optional profiles_of path d key >>= λ found. Ok (unwrap_or found no_profiles)
