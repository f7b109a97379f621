-- Candidates by flags are those of the definition.
use Rattle.std.proofs.Common.{◌≡◌, ℕ, suc, ◌&&◌, Bool, false, cond, List, [], ◌∷◌, ◌++◌, length, get_or, refl, sym, ap, ◌∙◌, arith}
use Rattle.std.specs.Prelude.{Option}
use Rattle.std.proofs.Math.Seq.{get_or-append_seam}
use Rattle.transformation_catalog.specs.declared.catalog.TransformationSite.{TransformationSite}
use Rattle.plan_request.specs.declared.request.Execution.{Execution}
use Rattle.site_selector.specs.Offers.{are_offered_at}
use Rattle.site_selector.specs.code.Offers.{names_of, offer_flags}
use Rattle.site_selector.specs.Candidates.{is_allowed, is_candidate, candidates_from, candidates}
use Rattle.site_selector.specs.code.Candidates.{listed_from}

-- flags before those of the rest of the sites
listed_after : (sites : List TransformationSite) (pinned : Option (List ℕ)) (before : List Bool) (s : ℕ) (es : List Execution) → length before ≡ s → listed_from (before ++ offer_flags (names_of es) sites) pinned s es ≡ candidates_from (is_candidate sites pinned) s es
listed_after sites pinned before s [] long = refl
listed_after sites pinned before s (e ∷ es) long =
    ap (λ (b : Bool). cond (b && is_allowed pinned e.site) (s ∷ listed_from flags pinned (suc s) es) (listed_from flags pinned (suc s) es)) here
    ∙ ap (λ (ss : List ℕ). cond (is_candidate sites pinned e) (s ∷ ss) ss) (ap (λ (bs : List Bool). listed_from bs pinned (suc s) es) (moved before) ∙ listed_after sites pinned (before ++ are_offered_at sites e.site ∷ []) (suc s) es (longer before ∙ ap suc long))
  where
    flags : List Bool
    flags = before ++ are_offered_at sites e.site ∷ offer_flags (names_of es) sites

    here : get_or flags s false ≡ are_offered_at sites e.site
    here = ap (λ (n : ℕ). get_or flags n false) (sym long) ∙ get_or-append_seam before (are_offered_at sites e.site) (offer_flags (names_of es) sites) false

    moved : (bs : List Bool) → bs ++ are_offered_at sites e.site ∷ offer_flags (names_of es) sites ≡ (bs ++ are_offered_at sites e.site ∷ []) ++ offer_flags (names_of es) sites
    moved [] = refl
    moved (b ∷ bs) = ap (λ (cs : List Bool). b ∷ cs) (moved bs)

    longer : (bs : List Bool) → length (bs ++ are_offered_at sites e.site ∷ []) ≡ suc (length bs)
    longer [] = omega arith
    longer (b ∷ bs) = let less = longer bs in omega (arith, less)

pub listed_are : (sites : List TransformationSite) (pinned : Option (List ℕ)) (es : List Execution) (flags : List Bool) → flags ≡ offer_flags (names_of es) sites → listed_from flags pinned 0 es ≡ candidates es sites pinned
listed_are sites pinned es flags is = ap (λ (bs : List Bool). listed_from bs pinned 0 es) is ∙ listed_after sites pinned [] 0 es refl

none_from : (pinned : Option (List ℕ)) (s : ℕ) (es : List Execution) → candidates_from (is_candidate [] pinned) s es ≡ []
none_from pinned s [] = refl
none_from pinned s (e ∷ es) = none_from pinned (suc s) es

-- a transformation without sites
pub none_are : (sites : List TransformationSite) (pinned : Option (List ℕ)) (es : List Execution) → sites ≡ [] → [] ≡ candidates es sites pinned
none_are sites pinned es is = sym (ap (λ (ss : List TransformationSite). candidates es ss pinned) is ∙ none_from pinned 0 es)
