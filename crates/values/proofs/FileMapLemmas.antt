-- A map in memory, seen as the files that it holds.
use Rattle.std.proofs.Common.{◌≡◌, ℕ, Bool, true, false, cond, List, [], ◌∷◌, length, refl, sym, ap, ◌∙◌, arith}
use Rattle.std.specs.Prelude.{IsTrue, ◌↔◌, Decides, Option, Some, None, option_map, String, Vec, string_bytes}
use Rattle.std.specs.declared.alloc.Global.{Global}
use Rattle.std.specs.Ordering.{nat_cmp, is_eq}
use Rattle.std.specs.Cmp.Lexicographic.{slice_cmp}
use Rattle.std.specs.Str.{bytes_eq}
use Rattle.std.specs.String.{string_cmp}
use Rattle.std.specs.Map.{lookup}
use Rattle.std.specs.List.{AllZip}
use Rattle.std.specs.BTreeMap.{BTreeMap, Updates, UpdatesBy, get_by_text}
use Rattle.std.specs.FinMap as map
use Rattle.std.specs.FinMap.{find, get-empty, get-from_entries, get-insert, get-remove, same_map, slice_cmp-IsAntisymmetric, nat_cmp-IsAntisymmetric}
use Rattle.std.specs.Cmp.{eq_by_cmp_equiv}
use Rattle.std.proofs.lemmas.Cmp.{nat_list_cmp_total, nat_list_eq_equiv}
use Rattle.std.proofs.lemmas.Map.Text.{is_eq-slice_cmp, btree_map_updates_text}
use Rattle.values.specs.code.FileMap.{named, files_of}

abbrev Texts : Type 0
Texts = List (String Global × Vec ℕ Global)

picked : (b : Bool) (v : Vec ℕ Global) (x : Option (List ℕ)) (y : Option (Vec ℕ Global)) → x ≡ option_map (λ w. w.items) y → cond b (Some v.items) x ≡ option_map (λ w. w.items) (cond b (Some v) y)
picked true v x y e = refl
picked false v x y e = e

find_named : (es : Texts) (q : List ℕ) → find (slice_cmp nat_cmp) q (named es) ≡ option_map (λ w. w.items) (lookup (λ k. is_eq (slice_cmp nat_cmp q (string_bytes k))) es)
find_named [] q = refl
find_named (e ∷ es) q = picked (is_eq (slice_cmp nat_cmp q (string_bytes e.0))) e.1 _ _ (find_named es q)

-- what a name finds
pub get_files_of : (m : BTreeMap (String Global) (Vec ℕ Global)) (q : List ℕ) → map.get (files_of m.entries) q ≡ option_map (λ w. w.items) (get_by_text m q)
get_files_of m q = get-from_entries nat_list_cmp_total (named m.entries) q ∙ find_named m.entries q

turned : (xs ys : List ℕ) → bytes_eq xs ys ≡ is_eq (slice_cmp nat_cmp ys xs)
turned xs ys = nat_list_eq_equiv.symm xs ys ∙ sym (is_eq-slice_cmp ys xs)

-- an insertion
pub files_insert : (m n : BTreeMap (String Global) (Vec ℕ Global)) (k : String Global) (v : Vec ℕ Global) → Updates string_cmp m n k (Some v) → files_of n.entries ≡ map.insert (files_of m.entries) (string_bytes k) v.items
files_insert m n k v u =
    same_map nat_list_cmp_total (slice_cmp-IsAntisymmetric nat_cmp-IsAntisymmetric) _ _ (λ q.
    get_files_of n q
    ∙ ap (option_map (λ (w : Vec ℕ Global). w.items)) (btree_map_updates_text (string_bytes k) m n (Some v) u q)
    ∙ ap (λ (b : Bool). option_map (λ (w : Vec ℕ Global). w.items) (cond b (Some v) (get_by_text m q))) (turned (string_bytes k) q)
    ∙ sym (get-insert nat_list_cmp_total (files_of m.entries) (string_bytes k) v.items q ∙ picked (is_eq (slice_cmp nat_cmp q (string_bytes k))) v _ _ (get_files_of m q)))

picked_none : (b : Bool) (x : Option (List ℕ)) (y : Option (Vec ℕ Global)) → x ≡ option_map (λ w. w.items) y → cond b None x ≡ option_map (λ w. w.items) (cond b None y)
picked_none true x y e = refl
picked_none false x y e = e

-- a removal
pub files_remove : (m n : BTreeMap (String Global) (Vec ℕ Global)) (bs : List ℕ) → UpdatesBy string_cmp (λ k. slice_cmp nat_cmp bs (string_bytes k)) m n None → files_of n.entries ≡ map.remove (files_of m.entries) bs
files_remove m n bs u =
    same_map nat_list_cmp_total (slice_cmp-IsAntisymmetric nat_cmp-IsAntisymmetric) _ _ (λ q.
    get_files_of n q
    ∙ ap (option_map (λ (w : Vec ℕ Global). w.items)) (btree_map_updates_text bs m n None u q)
    ∙ ap (λ (b : Bool). option_map (λ (w : Vec ℕ Global). w.items) (cond b None (get_by_text m q))) (turned bs q)
    ∙ sym (get-remove nat_list_cmp_total (files_of m.entries) bs q ∙ picked_none (is_eq (slice_cmp nat_cmp q bs)) _ _ (get_files_of m q)))

same_self : (x : List ℕ) → is_eq (slice_cmp nat_cmp x x) ≡ true
same_self x = (eq_by_cmp_equiv nat_list_cmp_total).refl x

none_in : (es : Texts) → length es ≡ 0 → (name : List ℕ) → map.get (files_of es) name ≡ None
none_in [] e name = get-empty (slice_cmp nat_cmp) name
none_in (x ∷ es) e name = absurd (omega (arith, e))

empty_if : (es : Texts) → ((name : List ℕ) → map.get (files_of es) name ≡ None) → length es ≡ 0
empty_if [] h = refl
empty_if (x ∷ es) h = absurd (let e = sym (h (string_bytes x.0)) ∙ get-from_entries nat_list_cmp_total (named (x ∷ es)) (string_bytes x.0) ∙ ap (λ (b : Bool). cond b (Some x.1.items) (find (slice_cmp nat_cmp) (string_bytes x.0) (named es))) (same_self (string_bytes x.0)) in cc)

pub decides_empty : (m : BTreeMap (String Global) (Vec ℕ Global)) (b : Bool) → IsTrue b ↔ (length m.entries ≡ 0) → Decides b ((name : List ℕ) → map.get (files_of m.entries) name ≡ None)
decides_empty m b d = (λ h. none_in m.entries (d.0 h), λ h. d.1 (empty_if m.entries h))

pub items_same : {A : Type 0} (R : A → A → Type 0) → ((a b : A) → R a b → b ≡ a) → (xs ys : List A) → AllZip R xs ys → ys ≡ xs
items_same R h [] [] z = refl
items_same R h [] (y ∷ ys) z = absurd z
items_same R h (x ∷ xs) [] z = absurd z
items_same R h (x ∷ xs) (y ∷ ys) z = ap (λ a. a ∷ ys) (h x y z.0) ∙ ap (λ l. x ∷ l) (items_same R h xs ys z.1)

pub named_same : (R : (String Global × Vec ℕ Global) → (String Global × Vec ℕ Global) → Type 0) → ((p q : String Global × Vec ℕ Global) → R p q → (string_bytes q.0 ≡ string_bytes p.0) × (q.1.items ≡ p.1.items)) → (xs ys : Texts) → AllZip R xs ys → named ys ≡ named xs
named_same R h [] [] z = refl
named_same R h [] (y ∷ ys) z = absurd z
named_same R h (x ∷ xs) [] z = absurd z
named_same R h (x ∷ xs) (y ∷ ys) z =
    let e = h x y z.0 in
    ap (λ k. (k, y.1.items) ∷ named ys) e.0 ∙ ap (λ v. (string_bytes x.0, v) ∷ named ys) e.1 ∙ ap (λ l. (string_bytes x.0, x.1.items) ∷ l) (named_same R h xs ys z.1)
