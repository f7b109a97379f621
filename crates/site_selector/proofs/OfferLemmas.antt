-- Flags of sites: one site more, and the flags of all entries.
use Rattle.std.proofs.Common.{◌≡◌, ℕ, suc, ◌+◌, ◌<◌, ◌||◌, ◌&&◌, Bool, true, false, cond, List, [], ◌∷◌, ◌++◌, length, map, refl, sym, ap, subst, ◌∙◌, nat_lt, arith}
use Rattle.std.proofs.Math.ListN.{replicate}
use Rattle.std.specs.Prelude.{set, not, slice_get, Vec, Option, Some, None, Result, Ok, Err, option_map}
use Rattle.std.specs.declared.alloc.Global.{Global}
use Rattle.std.specs.List.{list_any}
use Rattle.std.specs.Str.{bytes_eq}
use Rattle.std.specs.Cmp.Lexicographic.{bytes_decides}
use Rattle.std.proofs.lemmas.Option.{slice_get-map}
use Rattle.peg_json.specs.Tree.{◌>>=◌}
use Rattle.peg_json.specs.Elements.{first_repeat, refused}
use Rattle.peg_json.specs.declared.read_fault.ReadFault.{ReadFault}
use Rattle.peg_json.specs.declared.read_fault.ReadFault.TheVariants.{DuplicateSite, TooMany}
use Rattle.peg_json.specs.declared.read_fault.Counted.TheVariants.{Sites}
use Rattle.workflow_core.specs.Names.{number}
use Rattle.workflow_core.specs.code.Names.{with_names}
use Rattle.workflow_core.specs.declared.workflow.Transformation.{Transformation}
use Rattle.transformation_catalog.specs.declared.catalog.TransformationEntry.{TransformationEntry}
use Rattle.transformation_catalog.specs.declared.catalog.TransformationSite.{TransformationSite}
use Rattle.transformation_catalog.specs.Lookup.{place_of}
use Rattle.plan_request.specs.declared.request.Execution.{Execution}
use Rattle.plan_request.specs.Request.{execute_checked}
use Rattle.site_selector.specs.Offers.{is_installed_at, is_stageable, sites_in, sites_at}
use Rattle.site_selector.specs.code.Offers.{names_of, installed_flags, offer_flags, marked, flags_in, offer_table, AreDistinct, Offered, IsFound}
use Rattle.dependency_graph.proofs.TestLemmas.{any_more, or_right, or_left}

-- ---- distinct names

-- a name that is known doesn't come again
known_before : (known ns : List (List ℕ)) (m : List ℕ) → list_any (bytes_eq m) known ≡ true → first_repeat bytes_eq known ns ≡ None → list_any (bytes_eq m) ns ≡ false
known_before known [] m there none = refl
known_before known (n ∷ ns) m there none = by_repeat (list_any (bytes_eq n) known) refl none (known_before (known ++ n ∷ []) ns m (any_more (bytes_eq m) known n ∙ or_left (list_any (bytes_eq m) known) (bytes_eq m n) there))
  where
    by_name : (b : Bool) → bytes_eq m n ≡ b → list_any (bytes_eq n) known ≡ false → list_any (bytes_eq m) ns ≡ false → (b || list_any (bytes_eq m) ns) ≡ false
    by_name true e new later = absurd (let same = ap (λ (k : List ℕ). list_any (bytes_eq k) known) ((bytes_decides m n).0 e) in let k = sym there ∙ same ∙ new in cc)
    by_name false e new later = later

    by_repeat : (b : Bool) → list_any (bytes_eq n) known ≡ b → cond b (Some n) (first_repeat bytes_eq (known ++ n ∷ []) ns) ≡ None → (first_repeat bytes_eq (known ++ n ∷ []) ns ≡ None → list_any (bytes_eq m) ns ≡ false) → (bytes_eq m n || list_any (bytes_eq m) ns) ≡ false
    by_repeat true e k later = absurd cc
    by_repeat false e k later = by_name (bytes_eq m n) refl e (later k)

distinct_after : (known ns : List (List ℕ)) → first_repeat bytes_eq known ns ≡ None → AreDistinct ns
distinct_after known [] none = tt
distinct_after known (n ∷ ns) none = by_repeat (list_any (bytes_eq n) known) none (distinct_after (known ++ n ∷ []) ns)
  where
    itself : bytes_eq n n ≡ true
    itself = (bytes_decides n n).1 refl

    by_repeat : (b : Bool) → cond b (Some n) (first_repeat bytes_eq (known ++ n ∷ []) ns) ≡ None → (first_repeat bytes_eq (known ++ n ∷ []) ns ≡ None → AreDistinct ns) → AreDistinct (n ∷ ns)
    by_repeat true k later = absurd cc
    by_repeat false k later = (known_before (known ++ n ∷ []) ns n (any_more (bytes_eq n) known n ∙ or_right (list_any (bytes_eq n) known) (bytes_eq n n) itself) k, later k)

named_after : (known ns : List (List ℕ)) → first_repeat bytes_eq known ns ≡ None → with_names known ns ≡ known ++ ns
named_after known [] none = sym (append_nil known)
  where
    append_nil : (xs : List (List ℕ)) → xs ++ [] ≡ xs
    append_nil [] = refl
    append_nil (x ∷ xs) = ap (λ (ys : List (List ℕ)). x ∷ ys) (append_nil xs)
named_after known (n ∷ ns) none = by_repeat (list_any (bytes_eq n) known) none (named_after (known ++ n ∷ []) ns)
  where
    appended : (xs : List (List ℕ)) → (xs ++ n ∷ []) ++ ns ≡ xs ++ n ∷ ns
    appended [] = refl
    appended (x ∷ xs) = ap (λ (ys : List (List ℕ)). x ∷ ys) (appended xs)

    by_repeat : (b : Bool) → cond b (Some n) (first_repeat bytes_eq (known ++ n ∷ []) ns) ≡ None → (first_repeat bytes_eq (known ++ n ∷ []) ns ≡ None → with_names (known ++ n ∷ []) ns ≡ (known ++ n ∷ []) ++ ns) → with_names (cond b known (known ++ n ∷ [])) ns ≡ known ++ n ∷ ns
    by_repeat true k later = absurd cc
    by_repeat false k later = later k ∙ appended known

abbrev passes : Result (Unit {0}) ReadFault
passes = Ok tt

-- what a request's check of its execution sites tells
pub record AreChecked (es : List Execution) : Type 0 where
  pub few : length es < 65
  pub unrepeated : first_repeat bytes_eq [] (names_of es) ≡ None

pub checked_are : (es : List Execution) → execute_checked es ≡ Ok tt → AreChecked es
unfolding execute_checked
checked_are es h = by_count (nat_lt 64 (length (names_of es))) refl h
  where
    long : (xs : List Execution) → length (names_of xs) ≡ length xs
    long [] = refl
    long (x ∷ xs) = let less = long xs in omega (arith, less)

    by_repeat : (o : Option (List ℕ)) → refused DuplicateSite o ≡ passes → o ≡ None
    by_repeat None k = refl
    by_repeat (Some n) k = absurd cc

    by_count : (b : Bool) → nat_lt 64 (length (names_of es)) ≡ b → (cond b (Err (TooMany Sites (length (names_of es)) 64)) passes >>= λ _. refused DuplicateSite (first_repeat bytes_eq [] (names_of es))) ≡ passes → AreChecked es
    by_count true e k = absurd cc
    by_count false e k = record { few = (let l = long es in grind (arith, e, l)); unrepeated = by_repeat (first_repeat bytes_eq [] (names_of es)) k }

pub distinct_names : (es : List Execution) → execute_checked es ≡ Ok tt → AreDistinct (with_names [] (names_of es))
distinct_names es h =
    let checked = checked_are es h in
    subst AreDistinct (sym (named_after [] (names_of es) checked.unrepeated)) (distinct_after [] (names_of es) checked.unrepeated)

pub names_are : (es : List Execution) → execute_checked es ≡ Ok tt → with_names [] (names_of es) ≡ names_of es
names_are es h = let checked = checked_are es h in named_after [] (names_of es) checked.unrepeated

-- ---- one site more

pub none_installed : (names : List (List ℕ)) → replicate (length names) false ≡ installed_flags names []
none_installed [] = refl
none_installed (n ∷ ns) = ap (λ (bs : List Bool). false ∷ bs) (none_installed ns)

-- values at names other than m
same_off : (f g : List ℕ → Bool) (m : List ℕ) → ((n : List ℕ) → bytes_eq m n ≡ false → f n ≡ g n) → (ns : List (List ℕ)) → list_any (bytes_eq m) ns ≡ false → map f ns ≡ map g ns
same_off f g m off [] none = refl
same_off f g m off (n ∷ ns) none = by_name (bytes_eq m n) refl none (same_off f g m off ns)
  where
    by_name : (b : Bool) → bytes_eq m n ≡ b → (b || list_any (bytes_eq m) ns) ≡ false → (list_any (bytes_eq m) ns ≡ false → map f ns ≡ map g ns) → map f (n ∷ ns) ≡ map g (n ∷ ns)
    by_name true e k later = absurd cc
    by_name false e k later = ap (λ (b : Bool). b ∷ map f ns) (off n e) ∙ ap (λ (bs : List Bool). g n ∷ bs) (later k)

-- values that become true at m alone
set_at : (f g : List ℕ → Bool) (m : List ℕ) → ((n : List ℕ) → bytes_eq m n ≡ false → f n ≡ g n) → g m ≡ true → (ns : List (List ℕ)) → AreDistinct ns → set (map f ns) (number ns m) true ≡ map g ns
set_at f g m off on [] distinct = refl
set_at f g m off on (n ∷ ns) distinct = by_name (bytes_eq m n) refl (set_at f g m off on ns distinct.1)
  where
    next : (b : Bool) (bs : List Bool) (i : ℕ) → set (b ∷ bs) (1 + i) true ≡ b ∷ set bs i true
    next b bs i = ap (λ (k : ℕ). set (b ∷ bs) k true) (let e : 1 + i ≡ suc i = omega arith in e)

    by_name : (b : Bool) → bytes_eq m n ≡ b → set (map f ns) (number ns m) true ≡ map g ns → set (f n ∷ map f ns) (cond (not b) (1 + number ns m) 0) true ≡ map g (n ∷ ns)
    by_name true e later =
        let same : m ≡ n = (bytes_decides m n).0 e in
        ap (λ (bs : List Bool). true ∷ bs) (same_off f g m off ns (ap (λ (k : List ℕ). list_any (bytes_eq k) ns) same ∙ distinct.0)) ∙ ap (λ (b : Bool). b ∷ map g ns) (sym on ∙ ap g same)
    by_name false e later = next (f n) (map f ns) (number ns m) ∙ ap (λ (b : Bool). b ∷ set (map f ns) (number ns m) true) (off n e) ∙ ap (λ (bs : List Bool). g n ∷ bs) later

pub marked_more : (names : List (List ℕ)) (sites : List TransformationSite) (s : TransformationSite) → AreDistinct names → marked names (installed_flags names sites) s ≡ installed_flags names (sites ++ s ∷ [])
marked_more names sites s distinct = by_kind s.installed refl
  where
    more : (n : List ℕ) → list_any (is_installed_at n) (sites ++ s ∷ []) ≡ (list_any (is_installed_at n) sites || (s.installed && bytes_eq s.name n))
    more n = any_more (is_installed_at n) sites s

    or_false : (b c : Bool) → c ≡ false → b ≡ (b || c)
    or_false true c e = refl
    or_false false c e = sym e

    all_same : (f g : List ℕ → Bool) → ((n : List ℕ) → f n ≡ g n) → (ns : List (List ℕ)) → map f ns ≡ map g ns
    all_same f g same [] = refl
    all_same f g same (n ∷ ns) = ap (λ (b : Bool). b ∷ map f ns) (same n) ∙ ap (λ (bs : List Bool). g n ∷ bs) (all_same f g same ns)

    itself : bytes_eq s.name s.name ≡ true
    itself = (bytes_decides s.name s.name).1 refl

    by_kind : (b : Bool) → s.installed ≡ b → cond b (set (installed_flags names sites) (number names s.name) true) (installed_flags names sites) ≡ installed_flags names (sites ++ s ∷ [])
    by_kind true e =
        set_at (λ n. list_any (is_installed_at n) sites) (λ n. list_any (is_installed_at n) (sites ++ s ∷ [])) s.name
        (λ n off. or_false (list_any (is_installed_at n) sites) (s.installed && bytes_eq s.name n) (ap (λ (b : Bool). b && bytes_eq s.name n) e ∙ off) ∙ sym (more n))
        (more s.name ∙ or_right (list_any (is_installed_at s.name) sites) (s.installed && bytes_eq s.name s.name) (ap (λ (b : Bool). b && bytes_eq s.name s.name) e ∙ itself))
        names distinct
    by_kind false e = all_same _ _ (λ n. or_false (list_any (is_installed_at n) sites) (s.installed && bytes_eq s.name n) (ap (λ (b : Bool). b && bytes_eq s.name n) e) ∙ sym (more n)) names

-- ---- all flags of an entry

pub all_offered : (names : List (List ℕ)) (sites : List TransformationSite) → list_any is_stageable sites ≡ true → replicate (length names) true ≡ offer_flags names sites
all_offered names sites h = all names ∙ sym (ap (λ (b : Bool). map (λ (n : List ℕ). b || list_any (is_installed_at n) sites) names) h)
  where
    all : (ns : List (List ℕ)) → replicate (length ns) true ≡ map (λ (n : List ℕ). true || list_any (is_installed_at n) sites) ns
    all [] = refl
    all (n ∷ ns) = ap (λ (bs : List Bool). true ∷ bs) (all ns)

pub only_installed : (names : List (List ℕ)) (sites : List TransformationSite) → list_any is_stageable sites ≡ false → installed_flags names sites ≡ offer_flags names sites
only_installed names sites h = sym (ap (λ (b : Bool). map (λ (n : List ℕ). b || list_any (is_installed_at n) sites) names) h)

-- ---- the flags that are found

row_found : (table : List (Vec Bool Global)) (names : List (List ℕ)) (es : List TransformationEntry) (i : ℕ) → flags_in table ≡ offer_table names es
    → option_map (λ (v : Vec Bool Global). v.items) (slice_get table i) ≡ option_map (λ (e : TransformationEntry). offer_flags names e.sites) (slice_get es i)
row_found table names es i same = sym (slice_get-map (λ (v : Vec Bool Global). v.items) table i) ∙ ap (λ (t : List (List Bool)). slice_get t i) same ∙ slice_get-map (λ (e : TransformationEntry). offer_flags names e.sites) es i

pub found_is : (o : Offered) (table : List (Vec Bool Global)) (t : Transformation) (i : ℕ) → flags_in table ≡ offer_table (names_of o.execute) o.entries → place_of o.entries t ≡ Some i → (flags : Vec Bool Global) → slice_get table i ≡ Some flags → IsFound o t (Some flags.items)
found_is o table t i same at flags is = by_entry (slice_get o.entries i) (sym (ap (option_map (λ (v : Vec Bool Global). v.items)) is) ∙ row_found table (names_of o.execute) o.entries i same) ∙ sym (ap (λ (p : Option ℕ). offer_flags (names_of o.execute) (sites_at o.entries p)) at)
  where
    by_entry : (e : Option TransformationEntry) → Some flags.items ≡ option_map (λ (e : TransformationEntry). offer_flags (names_of o.execute) e.sites) e → flags.items ≡ offer_flags (names_of o.execute) (sites_in e)
    by_entry None h = absurd cc
    by_entry (Some e) h = cc

pub none_found : (o : Offered) (table : List (Vec Bool Global)) (t : Transformation) (i : ℕ) → flags_in table ≡ offer_table (names_of o.execute) o.entries → place_of o.entries t ≡ Some i → slice_get table i ≡ None → IsFound o t None
none_found o table t i same at is = ap (sites_at o.entries) at ∙ by_entry (slice_get o.entries i) (sym (ap (option_map (λ (v : Vec Bool Global). v.items)) is) ∙ row_found table (names_of o.execute) o.entries i same)
  where
    by_entry : (e : Option TransformationEntry) → None ≡ option_map (λ (e : TransformationEntry). offer_flags (names_of o.execute) e.sites) e → sites_in e ≡ []
    by_entry None h = refl
    by_entry (Some e) h = absurd cc

pub no_entry : (o : Offered) (t : Transformation) → place_of o.entries t ≡ None → IsFound o t None
no_entry o t at = ap (sites_at o.entries) at
