-- Names that are added job by job.
use Rattle.std.proofs.Common.{◌≡◌, ℕ, List, [], ◌∷◌, ◌++◌, refl, sym, ap, ◌∙◌}
use Rattle.std.specs.List.{flat_map}
use Rattle.workflow_core.specs.code.Law.{NumbersNames}
use Rattle.workflow_core.specs.code.Names.{with_name, with_names}
use Rattle.workflow_reader.specs.declared.document.JobEntry.{JobEntry}
use Rattle.workflow_reader.specs.Linking.{lfns_in, files_of}

appended : (names xs ys : List (List ℕ)) → with_names names (xs ++ ys) ≡ with_names (with_names names xs) ys
appended names [] ys = refl
appended names (x ∷ xs) ys = appended (with_name names x) xs ys

pub named_more : (names new all : List (List ℕ)) (js rest : List JobEntry) (j : JobEntry) → js ≡ j ∷ rest → new ≡ with_names names (lfns_in j) → with_names names (flat_map lfns_in js) ≡ all → with_names new (flat_map lfns_in rest) ≡ all
named_more names new all js rest j cut grows so_far =
    ap (λ (ns : List (List ℕ)). with_names ns (flat_map lfns_in rest)) grows
    ∙ sym (appended names (lfns_in j) (flat_map lfns_in rest))
    ∙ sym (ap (λ (ks : List JobEntry). with_names names (flat_map lfns_in ks)) cut)
    ∙ so_far

pub named_all : NumbersNames → (names : List (List ℕ)) (js rest : List JobEntry) → rest ≡ [] → with_names names (flat_map lfns_in rest) ≡ with_names [] (flat_map lfns_in js) → names ≡ files_of js
named_all law names js rest nothing so_far =
    sym (ap (λ (ks : List JobEntry). with_names names (flat_map lfns_in ks)) nothing)
    ∙ so_far
    ∙ law.gathered (flat_map lfns_in js)
