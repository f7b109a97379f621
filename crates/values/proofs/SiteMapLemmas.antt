-- A map of maps in memory, seen as each site's files.
use Rattle.std.proofs.Common.{◌≡◌, ℕ, Bool, true, false, cond, List, [], ◌∷◌, refl, sym, ap, ◌∙◌, subst}
use Rattle.std.specs.Prelude.{Option, Some, None, String, string_bytes}
use Rattle.std.specs.declared.alloc.Global.{Global}
use Rattle.std.specs.Ordering.{nat_cmp, is_eq}
use Rattle.std.specs.Cmp.Lexicographic.{slice_cmp}
use Rattle.std.specs.Str.{bytes_eq}
use Rattle.std.specs.String.{string_cmp}
use Rattle.std.specs.Map.{lookup}
use Rattle.std.specs.List.{AllZip}
use Rattle.std.specs.BTreeMap.{BTreeMap, Updates, UpdatesBy, get_by_text}
use Rattle.std.specs.FinMap as map
use Rattle.std.specs.FinMap.{find, get-empty, get-from_entries, get-insert, same_map, slice_cmp-IsAntisymmetric, nat_cmp-IsAntisymmetric}
use Rattle.std.proofs.lemmas.Cmp.{nat_list_cmp_total, nat_list_eq_equiv}
use Rattle.std.proofs.lemmas.Map.Text.{is_eq-slice_cmp, btree_map_updates_text}
use Rattle.std.specs.Prelude.{Result, Ok, Err, OnOk, OnErr, IsSome, is_some, Decides}
use Rattle.std.specs.declared.cmp.Ordering.{Ordering}
use Rattle.std.specs.declared.cmp.Ordering.TheVariants.{Less, Equal, Greater}
use Rattle.values.specs.FileMap.{Files}
use Rattle.values.specs.code.SiteMap.{sited, sites_of, or_empty, at_site, pair_at, put_pair, take_pair, IsEmptyAt}

abbrev Texts : Type 0
Texts = List (String Global × Files)

picked : (b : Bool) (v : Files) (x y : Option Files) → x ≡ y → cond b (Some v) x ≡ cond b (Some v) y
picked b v x y e = ap (cond b (Some v)) e

find_sited : (es : Texts) (q : List ℕ) → find (slice_cmp nat_cmp) q (sited es) ≡ lookup (λ k. is_eq (slice_cmp nat_cmp q (string_bytes k))) es
find_sited [] q = refl
find_sited (e ∷ es) q = picked (is_eq (slice_cmp nat_cmp q (string_bytes e.0))) e.1 _ _ (find_sited es q)

-- what a name finds
pub get_sites_of : (m : BTreeMap (String Global) Files) (q : List ℕ) → map.get (sites_of m.entries) q ≡ get_by_text m q
get_sites_of m q = get-from_entries nat_list_cmp_total (sited m.entries) q ∙ find_sited m.entries q

turned : (xs ys : List ℕ) → bytes_eq xs ys ≡ is_eq (slice_cmp nat_cmp ys xs)
turned xs ys = nat_list_eq_equiv.symm xs ys ∙ sym (is_eq-slice_cmp ys xs)

-- a write under a name
pub sites_write : (m n : BTreeMap (String Global) Files) (bs : List ℕ) (v : Files) → UpdatesBy string_cmp (λ k. slice_cmp nat_cmp bs (string_bytes k)) m n (Some v) → sites_of n.entries ≡ map.insert (sites_of m.entries) bs v
sites_write m n bs v u =
    same_map nat_list_cmp_total (slice_cmp-IsAntisymmetric nat_cmp-IsAntisymmetric) _ _ (λ q.
    get_sites_of n q
    ∙ btree_map_updates_text bs m n (Some v) u q
    ∙ ap (λ (b : Bool). cond b (Some v) (get_by_text m q)) (turned bs q)
    ∙ sym (get-insert nat_list_cmp_total (sites_of m.entries) bs v q ∙ picked (is_eq (slice_cmp nat_cmp q bs)) v _ _ (get_sites_of m q)))

-- the files at a site that is there, and at one that isn't
at_there : (m : BTreeMap (String Global) Files) (site : List ℕ) (old : Files) → Some old ≡ get_by_text m site → at_site (sites_of m.entries) site ≡ old
at_there m site old is = ap or_empty (get_sites_of m site ∙ sym is)

pub at_none : (m : BTreeMap (String Global) Files) (site : List ℕ) → None ≡ get_by_text m site → at_site (sites_of m.entries) site ≡ map.empty
at_none m site is = ap or_empty (get_sites_of m site ∙ sym is)

pub put_through : (m n : BTreeMap (String Global) Files) (site name bytes : List ℕ) (old new : Files) → Some old ≡ get_by_text m site → UpdatesBy string_cmp (λ k. slice_cmp nat_cmp site (string_bytes k)) m n (Some new) → new ≡ map.insert old name bytes
    → sites_of n.entries ≡ put_pair (sites_of m.entries) site name bytes
put_through m n site name bytes old new is u e = sites_write m n site new u ∙ ap (map.insert (sites_of m.entries) site) (e ∙ ap (λ f. map.insert f name bytes) (sym (at_there m site old is)))

pub take_through : (m n : BTreeMap (String Global) Files) (site name : List ℕ) (old new : Files) → Some old ≡ get_by_text m site → UpdatesBy string_cmp (λ k. slice_cmp nat_cmp site (string_bytes k)) m n (Some new) → new ≡ map.remove old name
    → sites_of n.entries ≡ take_pair (sites_of m.entries) site name
take_through m n site name old new is u e = sites_write m n site new u ∙ ap (map.insert (sites_of m.entries) site) (e ∙ ap (λ f. map.remove f name) (sym (at_there m site old is)))

equal_of : (r : Ordering) → is_eq r ≡ true → r ≡ Equal
equal_of Less e = absurd cc
equal_of Equal e = refl
equal_of Greater e = absurd cc

-- what stands there, written again
insert_same : (m : map.FinMap (slice_cmp nat_cmp) Files) (k : List ℕ) (v : Files) → map.get m k ≡ Some v → map.insert m k v ≡ m
insert_same m k v is = same_map nat_list_cmp_total (slice_cmp-IsAntisymmetric nat_cmp-IsAntisymmetric) _ _ (λ q. get-insert nat_list_cmp_total m k v q ∙ by_name q (is_eq (slice_cmp nat_cmp q k)) refl)
  where
    by_name : (q : List ℕ) (b : Bool) → is_eq (slice_cmp nat_cmp q k) ≡ b → cond b (Some v) (map.get m q) ≡ map.get m q
    by_name q true e = sym is ∙ ap (map.get m) (sym (slice_cmp-IsAntisymmetric nat_cmp-IsAntisymmetric q k (equal_of (slice_cmp nat_cmp q k) e)))
    by_name q false e = refl

pub same_through : (m n : BTreeMap (String Global) Files) (site : List ℕ) (old new : Files) → Some old ≡ get_by_text m site → UpdatesBy string_cmp (λ k. slice_cmp nat_cmp site (string_bytes k)) m n (Some new) → new ≡ old → sites_of n.entries ≡ sites_of m.entries
same_through m n site old new is u e = sites_write m n site new u ∙ ap (map.insert (sites_of m.entries) site) e ∙ insert_same (sites_of m.entries) site old (get_sites_of m site ∙ sym is)

pub put_new : (m n : BTreeMap (String Global) Files) (k : String Global) (site name bytes : List ℕ) (new : Files) → string_bytes k ≡ site → at_site (sites_of m.entries) site ≡ map.empty → Updates string_cmp m n k (Some new) → new ≡ map.insert map.empty name bytes
    → sites_of n.entries ≡ put_pair (sites_of m.entries) site name bytes
put_new m n k site name bytes new key is u e =
    sites_write m n (string_bytes k) new u ∙ ap (λ z. map.insert (sites_of m.entries) z new) key ∙ ap (map.insert (sites_of m.entries) site) (e ∙ ap (λ f. map.insert f name bytes) (sym is))

pub on_ok : {T E : Type 0} (r : Result T E) (P Q : Type 0) → (P → Q) → OnOk r P → OnOk r Q
on_ok (Ok x) P Q f p = f p
on_ok (Err x) P Q f p = tt

pub on_err : {T E : Type 0} (r : Result T E) (P Q : Type 0) → (P → Q) → OnErr r P → OnErr r Q
on_err (Ok x) P Q f p = tt
on_err (Err x) P Q f p = f p

pub is_there : {T : Type 0} (o : Option T) (v : T) → Some v ≡ o → IsSome o
is_there o v e = subst IsSome e refl

pub none_at : (m : BTreeMap (String Global) Files) (site name : List ℕ) → None ≡ get_by_text m site → pair_at (sites_of m.entries) site name ≡ None
none_at m site name is = ap (λ f. map.get f name) (at_none m site is) ∙ get-empty (slice_cmp nat_cmp) name

pub pair_there : (m : BTreeMap (String Global) Files) (site name : List ℕ) (old : Files) → Some old ≡ get_by_text m site → pair_at (sites_of m.entries) site name ≡ map.get old name
pair_there m site name old is = ap (λ f. map.get f name) (at_there m site old is)

pub none_is : {T : Type 0} (o : Option T) → is_some o ≡ false → o ≡ None
none_is None e = refl
none_is (Some x) e = absurd cc

pub some_is : {T : Type 0} (o : Option T) → is_some o ≡ true → o ≡ None → ⊥
some_is None e n = absurd cc
some_is (Some x) e n = absurd cc

pub none_here : (m : BTreeMap (String Global) Files) (site : List ℕ) → None ≡ get_by_text m site → Decides true (IsEmptyAt (sites_of m.entries) site)
none_here m site is = (λ h name. none_at m site name is, λ h. refl)

pub empty_here : (m : BTreeMap (String Global) Files) (site : List ℕ) (old : Files) (b : Bool) → Some old ≡ get_by_text m site → Decides b ((name : List ℕ) → map.get old name ≡ None) → Decides b (IsEmptyAt (sites_of m.entries) site)
empty_here m site old b is d = (λ h name. pair_there m site name old is ∙ d.0 h name, λ h. d.1 (λ name. sym (pair_there m site name old is) ∙ h name))

pub sited_same : (R : (String Global × Files) → (String Global × Files) → Type 0) → ((p q : String Global × Files) → R p q → (string_bytes q.0 ≡ string_bytes p.0) × (q.1 ≡ p.1)) → (xs ys : Texts) → AllZip R xs ys → sited ys ≡ sited xs
sited_same R h [] [] z = refl
sited_same R h [] (y ∷ ys) z = absurd z
sited_same R h (x ∷ xs) [] z = absurd z
sited_same R h (x ∷ xs) (y ∷ ys) z =
    let e = h x y z.0 in
    ap (λ k. (k, y.1) ∷ sited ys) e.0 ∙ ap (λ v. (string_bytes x.0, v) ∷ sited ys) e.1 ∙ ap (λ l. (string_bytes x.0, x.1) ∷ l) (sited_same R h xs ys z.1)
