-- What is read of a document's bytes.
use Rattle.std.proofs.Common.{◌≡◌, ℕ, Bool, true, false, cond, List, [], map, length, Ok, Err, Some, codes, Result, refl, sym, ap, ap₂, subst, ◌∙◌, ◌<◌}
use Rattle.std.specs.List.{AllByRecursion, IsDistinct}
use Rattle.std.specs.Str.{IsUtf8, bytes_eq, is_utf8}
use Rattle.std.proofs.lemmas.List.{length-map}
use Rattle.std.proofs.lemmas.Str.{IsUtf8-append, IsUtf8-from_is_utf8}
use Rattle.json.proofs.Printed.Utf8.{IsUtf8-are_ascii}
use Rattle.serde_json.specs.Data.{Data}
use Rattle.serde_json.specs.Read.{read}
use Rattle.peg_json.specs.Tree.{then_read}
use Rattle.peg_json.specs.Tree.{some_or, tree_of}
use Rattle.peg_json.specs.declared.fault.TreeFault.{TreeFault}
use Rattle.peg_json.specs.declared.fault.TreeFault.TheVariants as faults
use Rattle.peg_json.proofs.TreeLemmas.{is_tree}
use Rattle.replica_catalog.specs.declared.catalog.Replica.{Replica}
use Rattle.replica_catalog.specs.Catalog.{CatalogEntry, catalog_of, replica_catalog_from_tree, replica_catalog_from_text}
use Rattle.replica_writer.specs.Document.{Registration, document_text, document_tree, entry_tree, replica, says}
use Rattle.plan_core.specs.declared.plan.Plan.{Plan}
use Rattle.serde_json.specs.Written.{compact_text, has_float}
use Rattle.site_yard.specs.declared.delivered.Delivered.{Delivered}
use Rattle.std.proofs.lemmas.List.Elements.{recursion_from_All}
use Rattle.replica_writer.specs.Law.{AreReadAs, ReadsBack}
use Rattle.replica_writer.specs.Writer.{AreApart, AreDigests, AreNamed, IsDigest, catalogue_line, catalogue_text, delivered_name, registrations}
use Rattle.replica_writer.proofs.JoiningLemmas.{joined_same}
use Rattle.replica_writer.proofs.RegistrationsLemmas.{apart_kept, readable_kept}
use Rattle.replica_writer.proofs.ReadingLemmas.{IsReadable, document_read}
use Rattle.replica_writer.proofs.TreeLemmas.{document_plain, line_back, text_back}

says_so : (rs : List Registration) → IsDistinct bytes_eq (map (λ (r : Registration). r.lfn) rs) → catalog_of (map replica rs) ≡ says rs
says_so rs apart = ap₂ (λ (es : List Replica) (n : ℕ). record { entries = es; listed = n }) (joined_same rs apart) (length-map rs replica)

bytes_say : (rs : List Registration) (bytes : List ℕ) → read bytes ≡ Some (document_tree (map entry_tree rs)) → AllByRecursion IsReadable rs → IsDistinct bytes_eq (map (λ (r : Registration). r.lfn) rs) → IsUtf8 bytes → replica_catalog_from_text bytes ≡ Ok (says rs)
unfolding replica_catalog_from_text replica_catalog_from_tree
bytes_say rs bytes back all apart utf8 =
    ap (λ (tree : Result Data TreeFault). then_read tree (replica_catalog_from_tree [])) (is_tree bytes (document_tree (map entry_tree rs)) utf8 back)
    ∙ ap (λ (es : Result (List Replica) TreeFault). then_read es (λ es. Ok (catalog_of es))) (document_read rs all)
    ∙ ap Ok (says_so rs apart)

all_readable : (p : Plan) (ds : List Delivered) → AreNamed p ds → AreDigests ds → AllByRecursion IsReadable (registrations p ds)
all_readable p ds named digests =
    readable_kept p ds (recursion_from_All (λ (d : Delivered). 0 < length (delivered_name p d)) ds named) (recursion_from_All (λ (d : Delivered). IsDigest d.digest) ds digests)

pub text_reads_back : (p : Plan) (ds : List Delivered) → ReadsBack catalogue_text p ds
text_reads_back p ds apart named digests utf8 =
    bytes_say (registrations p ds) (catalogue_text p ds) (text_back (registrations p ds)) (all_readable p ds named digests) (apart_kept p ds apart) utf8

pub line_reads_back : (p : Plan) (ds : List Delivered) → ReadsBack catalogue_line p ds
line_reads_back p ds apart named digests utf8 =
    bytes_say (registrations p ds) (catalogue_line p ds) (line_back (registrations p ds)) (all_readable p ds named digests) (apart_kept p ds apart) utf8

-- bytes that are read are a text
pub read_utf8 : (bytes : List ℕ) (c : CatalogEntry) → replica_catalog_from_text bytes ≡ Ok c → IsUtf8 bytes
unfolding replica_catalog_from_text tree_of
read_utf8 bytes c is = by (is_utf8 bytes) refl is
  where
    by : (b : Bool) → is_utf8 bytes ≡ b → then_read (cond b (some_or faults.Syntax (read bytes)) (Err faults.Syntax)) (replica_catalog_from_tree []) ≡ Ok c → IsUtf8 bytes
    by true e h = IsUtf8-from_is_utf8 bytes e
    by false e h = absurd cc

-- ---- the bytes of a document with these entries

pub text_is : (rs : List Registration) (entries : List Data) (d : Data) (bytes result : List ℕ) → result ≡ bytes → d ≡ document_tree entries → entries ≡ map entry_tree rs → (has_float d ≡ false → bytes ≡ compact_text d) → result ≡ document_text rs
text_is rs entries d bytes result same tree are text =
    let whole : d ≡ document_tree (map entry_tree rs) = tree ∙ ap document_tree are in
    same ∙ text (ap has_float whole ∙ document_plain rs) ∙ ap compact_text whole

pub text_utf8 : (bytes result text : List ℕ) → result ≡ bytes → result ≡ text → IsUtf8 bytes → IsUtf8 text
text_utf8 bytes result text same is utf8 = subst IsUtf8 (sym same ∙ is) utf8

pub result_read : (p : Plan) (ds : List Delivered) (result : List ℕ) → AreApart p ds → AreNamed p ds → AreDigests ds → result ≡ catalogue_text p ds → IsUtf8 (catalogue_text p ds) → AreReadAs result p ds
result_read p ds result apart named digests is utf8 = ap replica_catalog_from_text is ∙ text_reads_back p ds apart named digests utf8

pub line_read : (p : Plan) (ds : List Delivered) → AreApart p ds → AreNamed p ds → AreDigests ds → IsUtf8 (catalogue_text p ds) → AreReadAs (catalogue_line p ds) p ds
line_read p ds apart named digests utf8 =
    line_reads_back p ds apart named digests (IsUtf8-append (catalogue_text p ds) (codes "\n") utf8 (IsUtf8-are_ascii (codes "\n") refl))
