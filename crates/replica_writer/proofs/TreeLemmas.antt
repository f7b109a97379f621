-- The tree of a document has no number, is shallow, and has each object's keys in order.
use Rattle.std.proofs.Common.{◌≡◌, ◌≤◌, ◌||◌, ◌&&◌, ◌++◌, Bool, true, false, List, [], ◌∷◌, Option, Some, map, codes, refl, ap, ◌∙◌, arith, option_and_then, option_map}
use Rattle.std.proofs.lemmas.List.Folds.{list_all-append}
use Rattle.json.specs.Token.{end_object}
use Rattle.json.specs.Tree as tree
use Rattle.serde_json.specs.Data.{Data, Items, array, item, member, no_members, object, string, put}
use Rattle.serde_json.specs.Read.{of_json, of_items, read, max_depth}
use Rattle.serde_json.specs.View.{items_of}
use Rattle.serde_json.specs.Written.{has_float, items_have_float, outline, items_outline}
use Rattle.replica_writer.specs.Document.{Registration, document_text, document_tree, entry_tree}
use Rattle.replica_writer.proofs.LineEndLemmas.{are_plain, is_plain, read_line}
use Rattle.replica_writer.proofs.TextLemmas.{read_text}

entry_numbers : (r : Registration) → tree.HasNumbers (outline (entry_tree r))
entry_numbers r = ((tt, tt), (tt, (((tt, (tt, tt)), tt), tt)))

entries_numbers : (rs : List Registration) → tree.ItemsHaveNumbers (items_outline (items_of (map entry_tree rs)))
entries_numbers [] = tt
entries_numbers (r ∷ rs) = (entry_numbers r, entries_numbers rs)

entry_depth : (r : Registration) → tree.depth (outline (entry_tree r)) ≤ 3
entry_depth r = omega arith

entries_depth : (rs : List Registration) → tree.items_depth (items_outline (items_of (map entry_tree rs))) ≤ 3
entries_depth [] = omega arith
entries_depth (r ∷ rs) = omega (arith, entry_depth r, entries_depth rs)

document_depth : (rs : List Registration) → tree.depth (outline (document_tree (map entry_tree rs))) ≤ max_depth
document_depth rs = omega (arith, entries_depth rs)

entry_back : (r : Registration) → of_json (outline (entry_tree r)) ≡ Some (entry_tree r)
entry_back r = refl

item_back : (d : Data) (ds : Items) (o : Option Data) (os : Option Items) → o ≡ Some d → os ≡ Some ds → option_and_then (λ x. option_map (item x) os) o ≡ Some (item d ds)
item_back d ds o os one more = ap (option_and_then (λ x. option_map (item x) os)) one ∙ ap (option_map (item d)) more

entries_back : (rs : List Registration) → of_items (items_outline (items_of (map entry_tree rs))) ≡ Some (items_of (map entry_tree rs))
entries_back [] = refl
entries_back (r ∷ rs) = item_back (entry_tree r) (items_of (map entry_tree rs)) _ _ (entry_back r) (entries_back rs)

document_back : (rs : List Registration) → of_json (outline (document_tree (map entry_tree rs))) ≡ Some (document_tree (map entry_tree rs))
document_back rs =
    ap (λ (os : Option Items). option_map object (option_and_then (λ (d : Data). Some (put (codes "replicas") d (member (codes "pegasus") (string (codes "5.0")) no_members))) (option_map array os)))
    (entries_back rs)

entries_plain : (rs : List Registration) → items_have_float (items_of (map entry_tree rs)) ≡ false
entries_plain [] = refl
entries_plain (r ∷ rs) = entries_plain rs

-- a document has no float, and its text reads as its tree
pub document_plain : (rs : List Registration) → has_float (document_tree (map entry_tree rs)) ≡ false
document_plain rs = ap (λ (b : Bool). b || false) (entries_plain rs)

pub text_back : (rs : List Registration) → read (document_text rs) ≡ Some (document_tree (map entry_tree rs))
text_back rs = read_text (document_tree (map entry_tree rs)) (tt, (entries_numbers rs, tt)) (document_depth rs) (document_back rs)

-- with a line feed behind it too
entries_tokens : (rs : List Registration) → are_plain (tree.items_tokens (items_outline (items_of (map entry_tree rs)))) ≡ true
entries_tokens [] = refl
entries_tokens (r ∷ rs) = entries_tokens rs

document_tokens : (rs : List Registration) → are_plain (tree.json_tokens (outline (document_tree (map entry_tree rs)))) ≡ true
document_tokens rs =
    list_all-append is_plain (tree.items_tokens (items_outline (items_of (map entry_tree rs)))) (end_object ∷ [])
    ∙ ap (λ (b : Bool). b && true) (entries_tokens rs)

pub line_back : (rs : List Registration) → read (document_text rs ++ codes "\n") ≡ Some (document_tree (map entry_tree rs))
line_back rs = read_line (document_tree (map entry_tree rs)) (document_tokens rs) ∙ text_back rs
