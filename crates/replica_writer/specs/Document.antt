-- The document of a replica catalogue that registers files, and what it says.
use Rattle.std.specs.Prelude.{ℕ, List, [], ◌∷◌, codes, map, length, Some}
use Rattle.hex.specs.Hex.{encode_lower}
use Rattle.serde_json.specs.Data.{Data, array, member, no_members, object, string}
use Rattle.serde_json.specs.View.{items_of}
use Rattle.serde_json.specs.Written.{compact_text}
use Rattle.replica_catalog.specs.Catalog.{CatalogEntry}
use Rattle.replica_catalog.specs.declared.catalog.Pfn.{Pfn}
use Rattle.replica_catalog.specs.declared.catalog.Replica.{Replica}
use Rattle.replica_writer.specs.Pfn.{pfn_of}

-- a file that is registered: its name, and the SHA-256 of its bytes
pub record Registration : Type 0 where
  pub lfn : List ℕ
  pub digest : List ℕ

-- ---- the tree; the keys of each object stand in byte order

abbrev pub checksum_tree : List ℕ → Data
checksum_tree digest = object (member (codes "sha256") (string (encode_lower digest)) no_members)

abbrev pub pfn_tree : List ℕ → Data
pfn_tree pfn =
    object (member (codes "pfn") (string pfn) (member (codes "site") (string (codes "local")) no_members))

abbrev pub entry_tree : Registration → Data
entry_tree r =
    object
    (member (codes "checksum") (checksum_tree r.digest)
    (member (codes "lfn") (string r.lfn)
    (member (codes "pfns") (array (items_of (pfn_tree (pfn_of r.lfn) ∷ [])))
    no_members)))

abbrev pub document_tree : List Data → Data
document_tree entries =
    object
    (member (codes "pegasus") (string (codes "5.0"))
    (member (codes "replicas") (array (items_of entries))
    no_members))

-- the document's bytes
abbrev pub document_text : List Registration → List ℕ
document_text rs = compact_text (document_tree (map entry_tree rs))

-- ---- the catalogue: each file with its one pfn and its digest

abbrev pub local_pfn : List ℕ → Pfn
local_pfn lfn = record { site = codes "local"; pfn = pfn_of lfn }

abbrev pub replica : Registration → Replica
replica r = record { lfn = r.lfn; pfns = local_pfn r.lfn ∷ []; checksum = Some r.digest }

abbrev pub says : List Registration → CatalogEntry
says rs = record { entries = map replica rs; listed = length rs }
