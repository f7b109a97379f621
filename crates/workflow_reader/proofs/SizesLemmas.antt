-- The sizes of files, noted one use after the other.
use Rattle.std.proofs.Common.{◌≡◌, ℕ, suc, ◌+◌, Bool, true, false, not, cond, ◌&&◌, ◌||◌, List, [], ◌∷◌, ◌++◌, length, map, get_or, refl, sym, ap, ◌∙◌, arith}
use Rattle.std.specs.Prelude.{Option, Some, None, slice_set, replicate}
use Rattle.std.specs.Option.{option_or}
use Rattle.std.specs.List.{list_any, flat_map}
use Rattle.std.specs.Str.{bytes_eq}
use Rattle.std.specs.Cmp.Lexicographic.{bytes_decides}
use Rattle.std.proofs.lemmas.Bool.{and_from, and_parts, both_ways, not-true}
use Rattle.std.proofs.lemmas.List.Folds.{list_any-append}
use Rattle.std.proofs.Math.Bool.{or-true}
use Rattle.workflow_core.specs.Names.{number}
use Rattle.workflow_core.specs.code.WellFormed.{are_new}
use Rattle.workflow_core.specs.code.Law.{NumbersNames}
use Rattle.workflow_reader.specs.declared.document.JobEntry.{JobEntry}
use Rattle.workflow_reader.specs.declared.document.Use.{Use}
use Rattle.workflow_reader.specs.Linking.{uses_of, lfns_in, files_of, sizes_of, first_size}
use Rattle.workflow_reader.specs.code.Known.{with_size, with_sizes}

or_none : {X : Type 0} (o : Option X) → option_or o None ≡ o
or_none None = refl
or_none (Some x) = refl

or_grouped : {X : Type 0} (a b c : Option X) → option_or (option_or a b) c ≡ option_or a (option_or b c)
or_grouped None b c = refl
or_grouped (Some x) b c = refl

map_same : {X Y : Type 0} (f g : X → Y) → ((x : X) → f x ≡ g x) → (xs : List X) → map f xs ≡ map g xs
map_same f g same [] = refl
map_same {X} {Y} f g same (x ∷ xs) = ap (λ (y : Y). y ∷ map f xs) (same x) ∙ ap (λ (ys : List Y). g x ∷ ys) (map_same f g same xs)

-- each name is none of the later ones
abbrev apart : List (List ℕ) → Bool
apart [] = true
apart (n ∷ ns) = not (list_any (bytes_eq n) ns) && apart ns

-- a known name is none of those that are new
none_new : (known ns : List (List ℕ)) (n : List ℕ) → list_any (bytes_eq n) known ≡ true → are_new bytes_eq known ns ≡ true → not (list_any (bytes_eq n) ns) ≡ true
none_new known [] n there new = refl
none_new known (m ∷ ns) n there new = by (bytes_eq n m) refl (none_new (known ++ m ∷ []) ns n (list_any-append (bytes_eq n) known (m ∷ []) ∙ ap (λ (b : Bool). b || (bytes_eq n m || false)) there) (and_parts _ _ new).1)
  where
    by : (b : Bool) → bytes_eq n m ≡ b → not (list_any (bytes_eq n) ns) ≡ true → not (b || list_any (bytes_eq n) ns) ≡ true
    by true e rest = absurd (both_ways (list_any (bytes_eq m) known) (not-true _ (and_parts _ _ new).0) (ap (λ (k : List ℕ). list_any (bytes_eq k) known) (sym ((bytes_decides n m).0 e)) ∙ there))
    by false e rest = rest

new_apart : (known ns : List (List ℕ)) → are_new bytes_eq known ns ≡ true → apart ns ≡ true
new_apart known [] new = refl
new_apart known (n ∷ ns) new =
    let rest = (and_parts _ _ new).1 in
    and_from _ _ (none_new (known ++ n ∷ []) ns n added rest) (new_apart (known ++ n ∷ []) ns rest)
  where
    added : list_any (bytes_eq n) (known ++ n ∷ []) ≡ true
    added =
        list_any-append (bytes_eq n) known (n ∷ [])
        ∙ ap (λ (b : Bool). list_any (bytes_eq n) known || (b || false)) ((bytes_decides n n).1 refl)
        ∙ or-true (list_any (bytes_eq n) known)

-- one more size for the file with this name
abbrev more : (List ℕ → Option ℕ) → List ℕ → Option ℕ → List ℕ → Option ℕ
more h n s f = option_or (h f) (cond (bytes_eq n f) s None)

untouched : (h : List ℕ → Option ℕ) (n : List ℕ) (s : Option ℕ) (files : List (List ℕ)) → not (list_any (bytes_eq n) files) ≡ true → map h files ≡ map (more h n s) files
untouched h n s [] free = refl
untouched h n s (f ∷ files) free = by (bytes_eq n f) free (λ rest. untouched h n s files rest)
  where
    by : (b : Bool) → not (b || list_any (bytes_eq n) files) ≡ true → (not (list_any (bytes_eq n) files) ≡ true → map h files ≡ map (more h n s) files) → h f ∷ map h files ≡ option_or (h f) (cond b s None) ∷ map (more h n s) files
    by true k rest = absurd cc
    by false k rest = ap (λ (o : Option ℕ). o ∷ map h files) (sym (or_none (h f))) ∙ ap (λ (os : List (Option ℕ)). option_or (h f) None ∷ os) (rest k)

sized : (h : List ℕ → Option ℕ) (n : List ℕ) (s : Option ℕ) (files : List (List ℕ)) → apart files ≡ true
    → slice_set (map h files) (number files n) (option_or (get_or (map h files) (number files n) None) s) ≡ map (more h n s) files
sized h n s [] once = refl
sized h n s (f ∷ files) once = by (bytes_eq n f) refl (sized h n s files (and_parts (not (list_any (bytes_eq f) files)) _ once).1)
  where
    later : (k : ℕ) → slice_set (h f ∷ map h files) (1 + k) (option_or (get_or (h f ∷ map h files) (1 + k) None) s) ≡ h f ∷ slice_set (map h files) k (option_or (get_or (map h files) k None) s)
    later k =
        let next : 1 + k ≡ suc k = omega arith in
        ap (λ (i : ℕ). slice_set (h f ∷ map h files) i (option_or (get_or (h f ∷ map h files) i None) s)) next

    by : (b : Bool) → bytes_eq n f ≡ b
        → slice_set (map h files) (number files n) (option_or (get_or (map h files) (number files n) None) s) ≡ map (more h n s) files
        → slice_set (h f ∷ map h files) (cond (not b) (1 + number files n) 0) (option_or (get_or (h f ∷ map h files) (cond (not b) (1 + number files n) 0) None) s) ≡ option_or (h f) (cond b s None) ∷ map (more h n s) files
    by true e rest = ap (λ (os : List (Option ℕ)). option_or (h f) s ∷ os) (untouched h n s files (ap (λ (m : List ℕ). not (list_any (bytes_eq m) files)) ((bytes_decides n f).0 e) ∙ (and_parts _ _ once).0))
    by false e rest =
        later (number files n)
        ∙ ap (λ (os : List (Option ℕ)). h f ∷ os) rest
        ∙ ap (λ (o : Option ℕ). o ∷ map (more h n s) files) (sym (or_none (h f)))

with_sizes_are : (files : List (List ℕ)) (h : List ℕ → Option ℕ) (us : List Use) → apart files ≡ true → with_sizes files (map h files) us ≡ map (λ f. option_or (h f) (first_size us f)) files
with_sizes_are files h [] once = map_same h (λ f. option_or (h f) None) (λ f. sym (or_none (h f))) files
with_sizes_are files h (u ∷ us) once =
    ap (λ (sizes : List (Option ℕ)). with_sizes files sizes us) (sized h u.lfn u.size files once)
    ∙ with_sizes_are files (more h u.lfn u.size) us once
    ∙ map_same (λ f. option_or (more h u.lfn u.size f) (first_size us f)) (λ f. option_or (h f) (first_size (u ∷ us) f)) (λ f. or_grouped (h f) (cond (bytes_eq u.lfn f) u.size None) (first_size us f)) files

abbrev no_size : List ℕ → Option ℕ
no_size f = None

none_yet : (files : List (List ℕ)) → replicate (length files) None ≡ map no_size files
none_yet [] = refl
none_yet (f ∷ files) = ap (λ (os : List (Option ℕ)). None ∷ os) (none_yet files)

appended : (files : List (List ℕ)) (sizes : List (Option ℕ)) (us vs : List Use) → with_sizes files sizes (us ++ vs) ≡ with_sizes files (with_sizes files sizes us) vs
appended files sizes [] vs = refl
appended files sizes (u ∷ us) vs = appended files (with_size files sizes u) us vs

-- a loop over jobs
pub sized_more : (files : List (List ℕ)) (sizes new all : List (Option ℕ)) (js rest : List JobEntry) (j : JobEntry) → js ≡ j ∷ rest → new ≡ with_sizes files sizes j.uses → with_sizes files sizes (uses_of js) ≡ all → with_sizes files new (uses_of rest) ≡ all
sized_more files sizes new all js rest j cut grows so_far =
    ap (λ (os : List (Option ℕ)). with_sizes files os (uses_of rest)) grows
    ∙ sym (appended files sizes j.uses (uses_of rest))
    ∙ sym (ap (λ (ks : List JobEntry). with_sizes files sizes (uses_of ks)) cut)
    ∙ so_far

pub sized_all : NumbersNames → (files : List (List ℕ)) (sizes : List (Option ℕ)) (js rest : List JobEntry) → files ≡ files_of js → rest ≡ [] → with_sizes files sizes (uses_of rest) ≡ with_sizes files (replicate (length files) None) (uses_of js) → sizes ≡ sizes_of js
sized_all law files sizes js rest is nothing so_far =
    sym (ap (λ (ks : List JobEntry). with_sizes files sizes (uses_of ks)) nothing)
    ∙ so_far
    ∙ ap (λ (names : List (List ℕ)). with_sizes names (replicate (length names) None) (uses_of js)) is
    ∙ ap (λ (os : List (Option ℕ)). with_sizes (files_of js) os (uses_of js)) (none_yet (files_of js))
    ∙ with_sizes_are (files_of js) no_size (uses_of js) (new_apart [] (files_of js) (law.once (flat_map lfns_in js)))
