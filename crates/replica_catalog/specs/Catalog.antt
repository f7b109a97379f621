-- What a replica catalogue says: what its tree is, and what the whole document reads as, or its first fault.
use Rattle.std.specs.Prelude.{ℕ, List, [], ◌∷◌, codes, Result, Ok, Option, Some, None, Err, unwrap_or, length}
use Rattle.serde_json.specs.Data.{Data}
use Rattle.hex.specs.Hex.{decode_sized}
use Rattle.hex.specs.declared.error.FromHexError.{FromHexError}
use Rattle.peg_json.specs.Tree.{◌>>=◌, list_in, then_read, tree_of}
use Rattle.peg_json.specs.Table.{Row, needs, checks, may_have}
use Rattle.peg_json.specs.Typed.{required, name_of, optional, text_of}
use Rattle.peg_json.specs.declared.row.Kind.TheVariants as kinds
use Rattle.peg_json.specs.declared.fault.TreeFault.{TreeFault}
use Rattle.peg_json.specs.Path.{key_path}
use Rattle.peg_json.specs.declared.fault.TreeFault.TheVariants as faults
use Rattle.peg_json.specs.Refused.{flag_refused}
use Rattle.peg_json.specs.Versions.{optional_version_at}
use Rattle.peg_json.specs.declared.read_fault.ReadFault.{ReadFault}
use Rattle.replica_catalog.specs.declared.catalog.Pfn.{Pfn}
use Rattle.replica_catalog.specs.declared.catalog.Replica.{Replica}
use Rattle.replica_catalog.specs.declared.catalog.ReplicaCatalog.{ReplicaCatalog}
use Rattle.replica_catalog.specs.Lookup.{joined}

abbrev pub pfn_rows : List Row
pfn_rows = needs (codes "site") kinds.Name ∷ needs (codes "pfn") kinds.Name ∷ []

unfoldable pub pfn_of : List ℕ → Data → Result Pfn TreeFault
pfn_of path d = do
  u ← checks path d pfn_rows
  site ← required name_of path d (codes "site")
  pfn ← required name_of path d (codes "pfn")
  Ok (record { site = site; pfn = pfn })

abbrev pub checksum_rows : List Row
checksum_rows = may_have (codes "sha256") kinds.Text ∷ []

-- what was decoded, or the fault of a text that is no digest
abbrev pub decoded_or : List ℕ → Result (List ℕ) FromHexError → Result (List ℕ) TreeFault
decoded_or path (Ok bytes) = Ok bytes
decoded_or path (Err e) = Err (faults.WrongKind path)

-- the 32 bytes that 64 hexadecimal digits of either case stand for
abbrev pub digest_of : List ℕ → List ℕ → Result (List ℕ) TreeFault
digest_of path digits = decoded_or path (decode_sized digits 32)

-- those of digits that may be absent
abbrev pub digest_if_there : List ℕ → Option (List ℕ) → Result (Option (List ℕ)) TreeFault
digest_if_there path None = Ok None
digest_if_there path (Some digits) = digest_of path digits >>= λ bytes. Ok (Some bytes)

-- the SHA-256 that a checksum states
unfoldable pub checksum_of : List ℕ → Data → Result (Option (List ℕ)) TreeFault
checksum_of path d = do
  u ← checks path d checksum_rows
  digits ← optional text_of path d (codes "sha256")
  sha256 ← digest_if_there (key_path path (codes "sha256")) digits
  Ok sha256

abbrev pub replica_rows : List Row
replica_rows =
    needs (codes "lfn") kinds.Name
    ∷ needs (codes "pfns") kinds.List
    ∷ may_have (codes "checksum") kinds.Object
    ∷ may_have (codes "regex") kinds.Flag
    ∷ []

-- the SHA-256 of the checksum at a key, if there is one
abbrev pub checksum_or_none : List ℕ → Data → List ℕ → Result (Option (List ℕ)) TreeFault
checksum_or_none path d key = optional checksum_of path d key >>= λ found. Ok (unwrap_or found None)

-- an entry, which may not be a pattern
unfoldable pub replica_of : List ℕ → Data → Result Replica TreeFault
replica_of path d = do
  u ← checks path d replica_rows
  lfn ← required name_of path d (codes "lfn")
  pfns ← required (list_in pfn_of) path d (codes "pfns")
  checksum ← checksum_or_none path d (codes "checksum")
  v ← flag_refused path d (codes "regex")
  Ok (record { lfn = lfn; pfns = pfns; checksum = checksum })

abbrev pub replica_document_rows : List Row
replica_document_rows = may_have (codes "pegasus") kinds.Text ∷ needs (codes "replicas") kinds.List ∷ []

-- the entries of a whole document
unfoldable pub replica_document_of : List ℕ → Data → Result (List Replica) TreeFault
replica_document_of path d = do
  u ← checks path d replica_document_rows
  v ← optional_version_at path d (codes "pegasus")
  replicas ← required (list_in replica_of) path d (codes "replicas")
  Ok replicas

-- what a catalogue says
pub record CatalogEntry : Type 0 where
  pub entries : List Replica
  pub listed : ℕ

abbrev pub replica_view : ReplicaCatalog → CatalogEntry
replica_view c = record { entries = c.entries; listed = c.listed }

-- the catalogue of a document's entries
abbrev pub catalog_of : List Replica → CatalogEntry
catalog_of es = record { entries = joined es; listed = length es }

-- the catalogue that says nothing
abbrev pub no_replicas : CatalogEntry
no_replicas = record { entries = []; listed = 0 }

-- a tree under a path
unfoldable pub replica_catalog_from_tree : List ℕ → Data → Result CatalogEntry ReadFault
replica_catalog_from_tree path d = then_read (replica_document_of path d) (λ es. Ok (catalog_of es))

-- a JSON text
unfoldable pub replica_catalog_from_text : List ℕ → Result CatalogEntry ReadFault
replica_catalog_from_text bytes = then_read (tree_of bytes) (replica_catalog_from_tree [])
