-- What a written catalogue is read as, and what planning with it comes to.
use Rattle.std.specs.Prelude.{◌≡◌, ℕ, ◌<◌, ◌==◌, ◌&&◌, Bool, true, false, List, Ok, length}
use Rattle.std.specs.List.{All, list_any}
use Rattle.std.specs.Str.{IsUtf8, bytes_eq}
use Rattle.workflow_core.specs.declared.workflow.Workflow.{Workflow}
use Rattle.workflow_core.specs.Requested.{is_requested}
use Rattle.workflow_core.specs.code.WellFormed.{IsWellFormed}
use Rattle.replica_catalog.specs.declared.catalog.Replica.{Replica}
use Rattle.replica_catalog.specs.Lookup.{is_registered}
use Rattle.replica_catalog.specs.Catalog.{CatalogEntry, replica_catalog_from_text}
use Rattle.dependency_graph.specs.Built.{workflow_file_name}
use Rattle.data_reuse.specs.Absent.{absent_in}
use Rattle.data_reuse.specs.Kept.{IsKept}
use Rattle.plan_core.specs.declared.plan.Plan.{Plan}
use Rattle.plan_core.specs.code.Proper.{IsProper}
use Rattle.plan_core.specs.Names.{file_name}
use Rattle.run_record.specs.Events.{Event}
use Rattle.lease_rules.specs.code.Law.{FitsFromStart}
use Rattle.lease_rules.specs.Legal.{Legal}
use Rattle.site_yard.specs.Delivered.{AreFiles, arrivals}
use Rattle.site_yard.specs.code.Places.{is_delivered}
use Rattle.site_yard.specs.declared.delivered.Delivered.{Delivered}
use Rattle.replica_writer.specs.Writer.{AreApart, AreDigests, AreInRange, AreNamed, catalogue_says, delivered_name, has_flag, is_flagged}

-- ---- reading

-- These bytes are read as exactly the delivered files that have their flag, in order.
abbrev pub AreReadAs : List ℕ → Plan → List Delivered → Type 0
AreReadAs bytes p ds = replica_catalog_from_text bytes ≡ Ok (catalogue_says p ds)

abbrev pub ReadsBack : (Plan → List Delivered → List ℕ) → Plan → List Delivered → Type 0
ReadsBack bytes p ds =
    AreApart p ds → AreNamed p ds → AreDigests ds → IsUtf8 (bytes p ds) → AreReadAs (bytes p ds) p ds

-- ---- planning again, without force

-- these entries register every requested file
abbrev pub RegisterRequested : Workflow → List Replica → Type 0
RegisterRequested w es = (f : ℕ) → is_requested w f ≡ true → is_registered es (workflow_file_name w f) ≡ true

abbrev pub KeepsNothing : Workflow → List Replica → Type 0
KeepsNothing w es = (a : ℕ) → IsKept (absent_in w es false) w a → ⊥

-- a delivered file has its flag, and has this name
abbrev pub is_flagged_as : Plan → List ℕ → Delivered → Bool
is_flagged_as p name d = has_flag p d && bytes_eq name (delivered_name p d)

-- every requested file was delivered, and has its flag
abbrev pub HoldRequested : Workflow → Plan → List Delivered → Type 0
HoldRequested w p ds =
    (f : ℕ) → is_requested w f ≡ true → list_any (is_flagged_as p (workflow_file_name w f)) ds ≡ true

-- No job is kept with the entries of the catalogue, where it holds every requested file.
abbrev pub SaysEnough : Workflow → Plan → List Delivered → Type 0
SaysEnough w p ds = HoldRequested w p ds → KeepsNothing w (catalogue_says p ds).entries

-- The same with whatever these bytes are read as.
abbrev pub ReadsEnough : (Plan → List Delivered → List ℕ) → Workflow → Plan → List Delivered → Type 0
ReadsEnough bytes w p ds =
    AreApart p ds → AreNamed p ds → AreDigests ds → HoldRequested w p ds
    → (c : CatalogEntry) → replica_catalog_from_text (bytes p ds) ≡ Ok c → KeepsNothing w c.entries

-- ---- what a run delivered

abbrev pub has_file : ℕ → List Delivered → Bool
has_file f ds = list_any (λ (d : Delivered). d.file.0 == f) ds

-- The files of a Legal record's deliveries are in range, and none of them stands twice. They are those that the record
-- delivers.
pub record CanBeWritten (p : Plan) (r : List Event) (ds : List Delivered) : Type 0 where
  pub in_range : AreInRange p ds
  pub apart : AreApart p ds
  pub delivered : All (λ (d : Delivered). is_delivered p r d.file.0 ≡ true) ds
  pub held : (f : ℕ) → is_delivered p r f ≡ true → has_file f ds ≡ true

abbrev pub RunsCanBeWritten : Plan → List ℕ → List Event → List Delivered → Type 0
RunsCanBeWritten p order r ds =
    IsProper p → FitsFromStart p order → Legal p order r → AreFiles ds (arrivals p r) → CanBeWritten p r ds

-- A plan's files have the workflow's names, those that are requested have their flags and are among the delivered ones.
pub record DeliversFlagged (w : Workflow) (p : Plan) (ds : List Delivered) : Type 0 where
  pub named : (f : ℕ) → f < length w.files → file_name p f ≡ workflow_file_name w f
  pub flagged : (f : ℕ) → f < length w.files → is_requested w f ≡ true → is_flagged p f ≡ true
  pub held : (f : ℕ) → f < length w.files → is_requested w f ≡ true → has_file f ds ≡ true

-- Then every requested file is held.
abbrev pub FlaggedAreHeld : Workflow → Plan → List Delivered → Type 0
FlaggedAreHeld w p ds = IsWellFormed w → DeliversFlagged w p ds → HoldRequested w p ds
