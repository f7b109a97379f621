-- The sizes that are stated, one after the other.
use Rattle.std.proofs.Common.{◌≡◌, ℕ, List, [], ◌∷◌, ◌++◌, length, sym, ap, ◌∙◌, append_assoc, ◌⊎◌, inl, inr}
use Rattle.std.proofs.lemmas.List.{append-nil}
use Rattle.std.specs.Prelude.{Option}
use Rattle.plan_request.specs.declared.request.SizeOf.{SizeOf}
use Rattle.ensemble.specs.Stated.{stated_size, stated_sizes}

-- a loop over files and the sizes beside them
pub size_more : (m : List ℕ) (out new all : List SizeOf) (fs gs : List (List ℕ)) (ss ts : List (Option ℕ)) (f : List ℕ) (s : Option ℕ)
    → fs ≡ f ∷ gs → ss ≡ s ∷ ts → new ≡ out ++ stated_size m f s → out ++ stated_sizes m fs ss ≡ all → new ++ stated_sizes m gs ts ≡ all
size_more m out new all fs gs ss ts f s first second grows so_far =
    ap (λ (os : List SizeOf). os ++ stated_sizes m gs ts) grows
    ∙ append_assoc out (stated_size m f s) (stated_sizes m gs ts)
    ∙ sym (ap (λ (ks : List (List ℕ)). out ++ stated_sizes m ks (s ∷ ts)) first)
    ∙ sym (ap (λ (us : List (Option ℕ)). out ++ stated_sizes m fs us) second)
    ∙ so_far

-- where one of the two lists is at its end
pub sizes_done : (m : List ℕ) (out all : List SizeOf) (fs : List (List ℕ)) (ss : List (Option ℕ)) → out ++ stated_sizes m fs ss ≡ all → (length fs ≡ 0) ⊎ (length ss ≡ 0) → out ≡ all
sizes_done m out all [] ss so_far end = sym (append-nil out) ∙ so_far
sizes_done m out all (f ∷ fs) [] so_far end = sym (append-nil out) ∙ so_far
sizes_done m out all (f ∷ fs) (s ∷ ss) so_far end = elim end [ inl e ↦ absurd cc | inr e ↦ absurd cc ]
