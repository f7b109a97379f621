-- From bytes to a tree, and from a tree's members to their keys.
use Rattle.std.proofs.Common.{◌≡◌, ℕ, Bool, true, false, cond, List, [], ◌∷◌, map, refl, suc, length, ap, ◌∙◌}
use Rattle.std.specs.Prelude.{Some, None, Ok, Err, String, string_bytes}
use Rattle.std.specs.declared.alloc.Global.{Global}
use Rattle.std.specs.Str.{IsUtf8, is_utf8}
use Rattle.std.proofs.lemmas.Str.{IsUtf8-from_is_utf8, is_utf8-from_IsUtf8}
use Rattle.serde_json.specs.Data.{Data}
use Rattle.serde_json.specs.Read.{read}
use Rattle.serde_json.specs.View.{view, items_view, members_view}
use Rattle.serde_json.specs.declared.value.Value.{Value}
use Rattle.peg_json.specs.declared.fault.TreeFault.TheVariants.{Syntax}
use Rattle.peg_json.specs.Table.{keys_in}
use Rattle.peg_json.specs.Entries.{members_in_order}
use Rattle.peg_json.specs.code.Entries.{seen_members}
use Rattle.peg_json.specs.Tree.{tree_of, some_or, elements}

pub is_tree : (bytes : List ℕ) (d : Data) → IsUtf8 bytes → read bytes ≡ Some d → tree_of bytes ≡ Ok d
unfolding tree_of
is_tree bytes d u r = ap (λ (b : Bool). cond b (some_or Syntax (read bytes)) (Err Syntax)) (is_utf8-from_IsUtf8 bytes u) ∙ ap (some_or Syntax) r

by_test : (bytes : List ℕ) (b : Bool) → is_utf8 bytes ≡ b → (IsUtf8 bytes → read bytes ≡ None) → cond b (some_or Syntax (read bytes)) (Err Syntax) ≡ Err Syntax
by_test bytes true e none = ap (some_or Syntax) (none (IsUtf8-from_is_utf8 bytes e))
by_test bytes false e none = refl

pub no_tree : (bytes : List ℕ) → (IsUtf8 bytes → read bytes ≡ None) → tree_of bytes ≡ Err Syntax
unfolding tree_of
no_tree bytes none = by_test bytes (is_utf8 bytes) refl none

pub elements_view : (vs : List Value) → elements (items_view vs) ≡ map view vs
elements_view [] = refl
elements_view (v ∷ vs) = ap (λ (ds : List Data). view v ∷ ds) (elements_view vs)

pub count_view : (vs : List Value) → length (elements (items_view vs)) ≡ length vs
count_view [] = refl
count_view (v ∷ vs) = ap (λ (n : ℕ). suc n) (count_view vs)

pub keys_view : (ms : List (String Global × Value)) → keys_in (members_view ms) ≡ map string_bytes (map (λ m. m.0) ms)
keys_view [] = refl
keys_view (m ∷ ms) = ap (λ (ks : List (List ℕ)). string_bytes m.0 ∷ ks) (keys_view ms)

pub members_seen : (ms : List (String Global × Value)) → members_in_order (members_view ms) ≡ seen_members ms
members_seen [] = refl
members_seen (m ∷ ms) = ap (λ (rest : List (List ℕ × Data)). (string_bytes m.0, view m.1) ∷ rest) (members_seen ms)
