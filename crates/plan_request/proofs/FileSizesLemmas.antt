-- The sizes of files, one after the other.
use Rattle.std.proofs.Common.{◌≡◌, ℕ, List, [], ◌∷◌, ◌++◌, length, map, refl, sym, ap, ◌∙◌, append_assoc, suc, ◌⊎◌, inl, inr}
use Rattle.std.proofs.lemmas.List.{append-nil}
use Rattle.std.specs.Prelude.{Option}
use Rattle.std.specs.List.{zip}
use Rattle.std.specs.Option.{option_or}
use Rattle.plan_request.specs.code.Index.{with_entries}
use Rattle.plan_request.specs.FileSizes.{named_size, size_by, declared_sizes}
use Rattle.plan_request.specs.declared.request.PlanRequest.{PlanRequest}
use Rattle.plan_request.specs.declared.request.SizeOf.{SizeOf}
use Rattle.plan_request.proofs.IndexLemmas.{all_found}

abbrev pub each_by : List (List ℕ × ℕ) → Option ℕ → List (List ℕ) → List (Option ℕ) → List (Option ℕ)
each_by entries default files stated = map (λ f. size_by entries default f.0 f.1) (zip files stated)

-- a loop over files and the sizes beside them
pub size_more : (entries : List (List ℕ × ℕ)) (default : Option ℕ) (out new all : List (Option ℕ)) (fs gs : List (List ℕ)) (ss ts : List (Option ℕ)) (f : List ℕ) (s size : Option ℕ)
    → fs ≡ f ∷ gs → ss ≡ s ∷ ts → size ≡ size_by entries default f s → new ≡ out ++ size ∷ [] → out ++ each_by entries default fs ss ≡ all → new ++ each_by entries default gs ts ≡ all
size_more entries default out new all fs gs ss ts f s size first second is grows so_far =
    ap (λ (os : List (Option ℕ)). os ++ each_by entries default gs ts) grows
    ∙ append_assoc out (size ∷ []) (each_by entries default gs ts)
    ∙ ap (λ (o : Option ℕ). out ++ o ∷ each_by entries default gs ts) is
    ∙ sym (ap (λ (ks : List (List ℕ)). out ++ each_by entries default ks (s ∷ ts)) first)
    ∙ sym (ap (λ (us : List (Option ℕ)). out ++ each_by entries default fs us) second)
    ∙ so_far

-- where one of the two lists is at its end
pub sizes_done : (entries : List (List ℕ × ℕ)) (default : Option ℕ) (out all : List (Option ℕ)) (fs : List (List ℕ)) (ss : List (Option ℕ)) → out ++ each_by entries default fs ss ≡ all → (length fs ≡ 0) ⊎ (length ss ≡ 0) → out ≡ all
sizes_done entries default out all [] ss so_far end = sym (append-nil out) ∙ so_far
sizes_done entries default out all (f ∷ fs) [] so_far end = sym (append-nil out) ∙ so_far
sizes_done entries default out all (f ∷ fs) (s ∷ ss) so_far end = elim end [ inl e ↦ absurd cc | inr e ↦ absurd cc ]

-- an index of the entries serves as well as the entries
by_index : (entries : List (List ℕ × ℕ)) (default : Option ℕ) (files : List (List ℕ)) (stated : List (Option ℕ)) → each_by (with_entries [] entries) default files stated ≡ each_by entries default files stated
by_index entries default [] stated = refl
by_index entries default (f ∷ files) [] = refl
by_index entries default (f ∷ files) (s ∷ stated) =
    ap (λ (o : Option ℕ). option_or o (option_or s default) ∷ each_by (with_entries [] entries) default files stated) (all_found entries f)
    ∙ ap (λ (os : List (Option ℕ)). size_by entries default f s ∷ os) (by_index entries default files stated)

one_each : (entries : List (List ℕ × ℕ)) (default : Option ℕ) (files : List (List ℕ)) (stated : List (Option ℕ)) → length files ≡ length stated → length (each_by entries default files stated) ≡ length files
one_each entries default [] stated same = refl
one_each entries default (f ∷ files) [] same = absurd cc
one_each entries default (f ∷ files) (s ∷ stated) same = ap suc (one_each entries default files stated cc)

-- sizes by an index are the declared ones
pub declared : (r : PlanRequest) (listed : List SizeOf) (index : List (List ℕ × ℕ)) (files : List (List ℕ)) (stated out : List (Option ℕ)) → listed ≡ r.sizes → index ≡ with_entries [] (map named_size listed) → out ≡ each_by index r.default_size files stated → out ≡ declared_sizes r files stated
declared r listed index files stated out listing indexed is =
    is
    ∙ ap (λ (es : List (List ℕ × ℕ)). each_by es r.default_size files stated) indexed
    ∙ ap (λ (ss : List SizeOf). each_by (with_entries [] (map named_size ss)) r.default_size files stated) listing
    ∙ by_index (map named_size r.sizes) r.default_size files stated

pub one_each_of : (entries : List (List ℕ × ℕ)) (default : Option ℕ) (files : List (List ℕ)) (stated out : List (Option ℕ)) → length files ≡ length stated → out ≡ each_by entries default files stated → length out ≡ length files
one_each_of entries default files stated out same is = ap length is ∙ one_each entries default files stated same
