-- What a reader of replica catalogues makes of a document's tree.
use Rattle.std.proofs.Common.{◌≡◌, ℕ, ◌+◌, ◌<◌, true, List, [], ◌∷◌, map, length, codes, nat_lt, Some, Ok, Result, refl, ap, ◌∙◌, arith}
use Rattle.std.specs.List.{AllByRecursion}
use Rattle.hex.specs.declared.error.FromHexError.{FromHexError}
use Rattle.hex.proofs.HexLemmas.{decode_sized-encode_lower}
use Rattle.serde_json.specs.Data.{Data}
use Rattle.serde_json.specs.View.{items_of}
use Rattle.peg_json.specs.Path.{index_path, key_path}
use Rattle.peg_json.specs.Table.{members_of}
use Rattle.peg_json.specs.Tree.{◌>>=◌, each_from, elements}
use Rattle.peg_json.specs.declared.fault.TreeFault.{TreeFault}
use Rattle.replica_catalog.specs.declared.catalog.Replica.{Replica}
use Rattle.replica_catalog.specs.Catalog.{checksum_of, decoded_or}
use Rattle.replica_catalog.specs.Catalog.{pfn_of as pfn_in}
use Rattle.replica_catalog.specs.Catalog.{replica_of}
use Rattle.replica_catalog.specs.Catalog.{replica_document_of}
use Rattle.replica_writer.specs.Document.{Registration, checksum_tree, document_tree, entry_tree, pfn_tree, replica}
use Rattle.replica_writer.specs.Pfn.{pfn_of}
use Rattle.replica_writer.specs.Writer.{IsDigest}

-- a registration whose entry can be read
pub record IsReadable (r : Registration) : Type 0 where
  pub named : nat_lt 0 (length r.lfn) ≡ true
  pub digest : IsDigest r.digest

pub is_named : (n : ℕ) → 0 < n → nat_lt 0 n ≡ true
is_named n low = grind arith

pfn_read : (path pfn : List ℕ) → nat_lt 0 (length pfn) ≡ true → pfn_in path (pfn_tree pfn) ≡ Ok (record { site = codes "local"; pfn = pfn })
unfolding pfn_in members_of
pfn_read path pfn named = rw named refl

checksum_read : (path digest : List ℕ) → IsDigest digest → checksum_of path (checksum_tree digest) ≡ Ok (Some digest)
unfolding checksum_of members_of
checksum_read path digest is =
    ap (λ (r : Result (List ℕ) FromHexError). (decoded_or (key_path path (codes "sha256")) r >>= λ bytes. Ok (Some bytes)) >>= λ sha256. Ok sha256)
    (decode_sized-encode_lower digest 32 is.long is.bytes)

pfn_named : (lfn : List ℕ) → nat_lt 0 (length (pfn_of lfn)) ≡ true
pfn_named lfn = is_named (length (pfn_of lfn)) (omega arith)

replica_read : (path : List ℕ) (r : Registration) → IsReadable r → replica_of path (entry_tree r) ≡ Ok (replica r)
unfolding replica_of members_of
replica_read path r is =
    rw (is.named, pfn_read (index_path (key_path path (codes "pfns")) 0) (pfn_of r.lfn) (pfn_named r.lfn), checksum_read (key_path path (codes "checksum")) r.digest is.digest) refl

entries_read : (path : List ℕ) (i : ℕ) (rs : List Registration) → AllByRecursion IsReadable rs → each_from replica_of path i (map entry_tree rs) ≡ Ok (map replica rs)
entries_read path i [] all = refl
entries_read path i (r ∷ rs) all =
    ap (λ (one : Result Replica TreeFault). one >>= λ y. each_from replica_of path (i + 1) (map entry_tree rs) >>= λ ys. Ok (y ∷ ys)) (replica_read (index_path path i) r all.0)
    ∙ ap (λ (more : Result (List Replica) TreeFault). more >>= λ ys. Ok (replica r ∷ ys)) (entries_read path (i + 1) rs all.1)

elements_of : (ds : List Data) → elements (items_of ds) ≡ ds
elements_of [] = refl
elements_of (d ∷ ds) = ap (λ (l : List Data). d ∷ l) (elements_of ds)

pub document_read : (rs : List Registration) → AllByRecursion IsReadable rs → replica_document_of [] (document_tree (map entry_tree rs)) ≡ Ok (map replica rs)
unfolding replica_document_of members_of
document_read rs all =
    ap (λ (ds : List Data). each_from replica_of (key_path [] (codes "replicas")) 0 ds >>= λ replicas. Ok replicas) (elements_of (map entry_tree rs))
    ∙ ap (λ (read : Result (List Replica) TreeFault). read >>= λ replicas. Ok replicas) (entries_read (key_path [] (codes "replicas")) 0 rs all)
