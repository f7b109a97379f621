-- The steps of a search for what comes twice, and for what no job has.
use Rattle.std.proofs.Common.{◌≡◌, ℕ, Bool, true, false, not, cond, ◌&&◌, ◌||◌, List, [], ◌∷◌, ◌++◌, refl, sym, ap, ◌∙◌}
use Rattle.std.specs.Prelude.{Option, Some, None, Err}
use Rattle.std.specs.List.{list_any}
use Rattle.std.specs.Str.{bytes_eq}
use Rattle.std.specs.Option.{option_or}
use Rattle.std.proofs.lemmas.List.{append-nil}
use Rattle.std.proofs.lemmas.List.Folds.{find-append}
use Rattle.workflow_reader.specs.declared.document.Dependency.{Dependency}
use Rattle.peg_json.specs.declared.read_fault.ReadFault.TheVariants.{UnknownJob}
use Rattle.workflow_reader.specs.declared.document.Direction.{Direction}
use Rattle.workflow_reader.specs.declared.document.Direction.TheVariants.{Input, Output}
use Rattle.workflow_reader.specs.declared.document.Use.{Use}
use Rattle.workflow_core.specs.code.Names.{with_name}
use Rattle.peg_json.specs.Elements.{first_repeat, refused, first_unknown}
use Rattle.workflow_reader.specs.Linking.{same_direction, lfns_of_uses, uses_as}
use Rattle.workflow_reader.specs.code.Known.{repeat_after}
use Rattle.workflow_reader.specs.Linking.{same_use, ids_in}

-- a use as d of the file with this name
abbrev pub same_as : Direction → List ℕ → Use → Bool
same_as d n v = same_direction d v.direction && bytes_eq n v.lfn

pub known_as : (d : Direction) (n : List ℕ) (known : List Use) → list_any (same_as d n) known ≡ list_any (bytes_eq n) (lfns_of_uses (uses_as d known))
known_as d n [] = refl
known_as d n (v ∷ known) = by (same_direction d v.direction) (known_as d n known)
  where
    by : (b : Bool) → list_any (same_as d n) known ≡ list_any (bytes_eq n) (lfns_of_uses (uses_as d known))
        → ((b && bytes_eq n v.lfn) || list_any (same_as d n) known) ≡ list_any (bytes_eq n) (lfns_of_uses (cond b (v ∷ uses_as d known) (uses_as d known)))
    by true rest = ap (λ (c : Bool). bytes_eq n v.lfn || c) rest
    by false rest = rest

-- the names with those of one more use
pub names_more : (d : Direction) (known : List Use) (u : Use) → lfns_of_uses (uses_as d (known ++ u ∷ [])) ≡ lfns_of_uses (uses_as d known) ++ lfns_of_uses (uses_as d (u ∷ []))
names_more d [] u = refl
names_more d (v ∷ known) u = by (same_direction d v.direction) (names_more d known u)
  where
    by : (b : Bool) → lfns_of_uses (uses_as d (known ++ u ∷ [])) ≡ lfns_of_uses (uses_as d known) ++ lfns_of_uses (uses_as d (u ∷ []))
        → lfns_of_uses (cond b (v ∷ uses_as d (known ++ u ∷ [])) (uses_as d (known ++ u ∷ []))) ≡ lfns_of_uses (cond b (v ∷ uses_as d known) (uses_as d known)) ++ lfns_of_uses (uses_as d (u ∷ []))
    by true rest = ap (λ (ns : List (List ℕ)). v.lfn ∷ ns) rest
    by false rest = rest

-- the names with that of one more use as e
named : (d e : Direction) (known : List Use) (u : Use) → u.direction ≡ e → lfns_of_uses (uses_as d (known ++ u ∷ [])) ≡ lfns_of_uses (uses_as d known) ++ lfns_of_uses (cond (same_direction d e) (u ∷ []) [])
named d e known u is = names_more d known u ∙ ap (λ (f : Direction). lfns_of_uses (uses_as d known) ++ lfns_of_uses (cond (same_direction d f) (u ∷ []) [])) is

abbrev names : Direction → List Use → List (List ℕ)
names d known = lfns_of_uses (uses_as d known)

-- the first step, for a use as d
abbrev Split : List Use → List Use → Use → Direction → Type 0
Split known us u d =
    cond (list_any (same_as d u.lfn) known) (Some u) (first_repeat same_use (known ++ u ∷ []) us)
    ≡ cond (list_any (bytes_eq u.lfn) (cond (same_direction Input d) (names Input known) (names Output known))) (Some u)
    (repeat_after (cond (same_direction Input d) (with_name (names Input known) u.lfn) (names Input known)) (cond (same_direction Input d) (names Output known) (with_name (names Output known) u.lfn)) us)

uses_split : (known us : List Use) → first_repeat same_use known us ≡ repeat_after (names Input known) (names Output known) us
uses_split known [] = refl
uses_split known (u ∷ us) = by u.direction refl (uses_split (known ++ u ∷ []) us)
  where
    by : (d : Direction) → u.direction ≡ d → first_repeat same_use (known ++ u ∷ []) us ≡ repeat_after (names Input (known ++ u ∷ [])) (names Output (known ++ u ∷ [])) us → Split known us u d
    by Input is rest = ap (λ (b : Bool). cond b (Some u) (first_repeat same_use (known ++ u ∷ []) us)) (known_as Input u.lfn known) ∙ there (list_any (bytes_eq u.lfn) (names Input known))
      where
        there : (b : Bool) → cond b (Some u) (first_repeat same_use (known ++ u ∷ []) us) ≡ cond b (Some u) (repeat_after (cond b (names Input known) (names Input known ++ u.lfn ∷ [])) (names Output known) us)
        there true = refl
        there false =
            rest
            ∙ ap (λ (ns : List (List ℕ)). repeat_after ns (names Output (known ++ u ∷ [])) us) (named Input Input known u is)
            ∙ ap (λ (ns : List (List ℕ)). repeat_after (names Input known ++ u.lfn ∷ []) ns us) (named Output Input known u is ∙ append-nil (names Output known))
    by Output is rest = ap (λ (b : Bool). cond b (Some u) (first_repeat same_use (known ++ u ∷ []) us)) (known_as Output u.lfn known) ∙ there (list_any (bytes_eq u.lfn) (names Output known))
      where
        there : (b : Bool) → cond b (Some u) (first_repeat same_use (known ++ u ∷ []) us) ≡ cond b (Some u) (repeat_after (names Input known) (cond b (names Output known) (names Output known ++ u.lfn ∷ [])) us)
        there true = refl
        there false =
            rest
            ∙ ap (λ (ns : List (List ℕ)). repeat_after ns (names Output (known ++ u ∷ [])) us) (named Input Output known u is ∙ append-nil (names Input known))
            ∙ ap (λ (ns : List (List ℕ)). repeat_after (names Input known) ns us) (named Output Output known u is)

-- from the first use on
pub uses_apart : (us : List Use) → first_repeat same_use [] us ≡ repeat_after [] [] us
uses_apart us = uses_split [] us

-- the ids of one more dependency
unknown_more : (ids : List (List ℕ)) (ds rest : List Dependency) (d : Dependency) → ds ≡ d ∷ rest → first_unknown ids (ids_in ds) ≡ option_or (first_unknown ids (d.id ∷ d.children)) (first_unknown ids (ids_in rest))
unknown_more ids ds rest d cut =
    ap (λ (es : List Dependency). first_unknown ids (ids_in es)) cut
    ∙ find-append (λ n. not (list_any (bytes_eq n) ids)) (d.id ∷ d.children) (ids_in rest)

pub none_unknown : (ids : List (List ℕ)) (ds rest : List Dependency) (d : Dependency) (all : Option (List ℕ)) → ds ≡ d ∷ rest → None ≡ first_unknown ids (d.id ∷ d.children) → first_unknown ids (ids_in ds) ≡ all → first_unknown ids (ids_in rest) ≡ all
none_unknown ids ds rest d all cut none so_far =
    ap (λ (o : Option (List ℕ)). option_or o (first_unknown ids (ids_in rest))) none
    ∙ sym (unknown_more ids ds rest d cut)
    ∙ so_far

pub one_unknown : (ids : List (List ℕ)) (ds rest : List Dependency) (d : Dependency) (all : Option (List ℕ)) (n : List ℕ) → ds ≡ d ∷ rest → Some n ≡ first_unknown ids (d.id ∷ d.children) → first_unknown ids (ids_in ds) ≡ all → refused UnknownJob all ≡ Err (UnknownJob n)
one_unknown ids ds rest d all n cut one so_far =
    ap (refused UnknownJob)
    (sym so_far
    ∙ unknown_more ids ds rest d cut
    ∙ sym (ap (λ (o : Option (List ℕ)). option_or o (first_unknown ids (ids_in rest))) one))
