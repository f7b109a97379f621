-- What is registered of the files that a run delivered.
use Rattle.std.specs.Prelude.{◌≡◌, ℕ, ◌<◌, ◌++◌, Bool, false, List, codes, length, map, filter, Option, Some, None, slice_get}
use Rattle.std.specs.List.{All, IsDistinct}
use Rattle.std.specs.Str.{bytes_eq}
use Rattle.std.proofs.Props.{props}
use Rattle.std.proofs.lemmas.Map.Keys.{IsDistinct-prop}
use Rattle.hex.specs.Hex.{IsBytes}
use Rattle.serde_json.specs.Data.{Data}
use Rattle.replica_catalog.specs.Catalog.{CatalogEntry}
use Rattle.plan_core.specs.declared.plan.Plan.{Plan}
use Rattle.plan_core.specs.declared.plan.PlanFile.{PlanFile}
use Rattle.plan_core.specs.Names.{file_name}
use Rattle.site_yard.specs.declared.delivered.Delivered.{Delivered}
use Rattle.replica_writer.specs.Document.{Registration, document_text, entry_tree, says}

abbrev pub delivered_name : Plan → Delivered → List ℕ
delivered_name p d = file_name p d.file.0

-- the file with this number has its registration flag; a delivered file has it
abbrev pub flag_in : Option PlanFile → Bool
flag_in None = false
flag_in (Some f) = f.register

abbrev pub is_flagged : Plan → ℕ → Bool
is_flagged p f = flag_in (slice_get p.files f)

abbrev pub has_flag : Plan → Delivered → Bool
has_flag p d = is_flagged p d.file.0

abbrev pub registration : Plan → Delivered → Registration
registration p d = record { lfn = delivered_name p d; digest = d.digest }

-- those of the delivered files that have their flag, in order
abbrev pub registrations : Plan → List Delivered → List Registration
registrations p ds = map (registration p) (filter (has_flag p) ds)

-- their entries in the document
abbrev pub entries_of : Plan → List Delivered → List Data
entries_of p ds = map entry_tree (registrations p ds)

abbrev pub catalogue_text : Plan → List Delivered → List ℕ
catalogue_text p ds = document_text (registrations p ds)

-- with the line feed that ends what a program writes
abbrev pub catalogue_line : Plan → List Delivered → List ℕ
catalogue_line p ds = catalogue_text p ds ++ codes "\n"

abbrev pub catalogue_says : Plan → List Delivered → CatalogEntry
catalogue_says p ds = says (registrations p ds)

-- ---- what a caller shows: the files are in range, none of them stands twice, none has an empty name. Two numbers with
-- one name would be one file that stands twice.

abbrev pub AreInRange : Plan → List Delivered → Type 0
AreInRange p ds = All (λ (d : Delivered). d.file.0 < length p.files) ds

abbrev pub AreApart : Plan → List Delivered → Type 0
AreApart p ds = IsDistinct bytes_eq (map (delivered_name p) ds)

abbrev pub AreNamed : Plan → List Delivered → Type 0
AreNamed p ds = All (λ (d : Delivered). 0 < length (delivered_name p d)) ds

-- all three, for a caller that has them of some record
pub record CanWrite (p : Plan) (ds : List Delivered) : Type 0 where
  pub in_range : AreInRange p ds
  pub apart : AreApart p ds
  pub named : AreNamed p ds

pub CanWrite-prop : (p : Plan) (ds : List Delivered) → IsProp (CanWrite p ds)
CanWrite-prop p ds = Prim.hlevel (props, IsDistinct-prop)

-- ---- what the type of a digest says: it has 32 bytes

-- a SHA-256
pub record IsDigest (digest : List ℕ) : Type 0 where
  pub long : length digest ≡ 32
  pub bytes : IsBytes digest

abbrev pub AreDigests : List Delivered → Type 0
AreDigests ds = All (λ (d : Delivered). IsDigest d.digest) ds
