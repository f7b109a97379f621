-- The places of transformations that are known, and those that the rest of a list adds.
use Rattle.std.proofs.Common.{◌≡◌, ℕ, ◌+◌, ◌<◌, length, nat_lt, Bool, true, false, cond, List, [], ◌∷◌, ◌++◌, refl, sym, ap, ◌∙◌, arith}
use Rattle.std.specs.Prelude.{Option, Some, None, is_some, IfSome}
use Rattle.std.specs.List.{position_from, position_or_len}
use Rattle.std.specs.Map.{lookup}
use Rattle.std.specs.Option.{option_or}
use Rattle.std.proofs.lemmas.Iterator.Adapters.{position_from-zero}
use Rattle.workflow_core.specs.declared.workflow.Transformation.{Transformation}
use Rattle.transformation_catalog.specs.declared.catalog.TransformationEntry.{TransformationEntry}
use Rattle.transformation_catalog.specs.Catalog.{same_transformation}
use Rattle.transformation_catalog.specs.code.Key.{sameness}
use Rattle.transformation_catalog.specs.Lookup.{is_for_transformation, place_of}

abbrev pub Places : Type 0
Places = List (Transformation × ℕ)

-- a transformation's place among the known ones, else among the rest, which begins at place i
abbrev pub place_in : Places → ℕ → List TransformationEntry → Transformation → Option ℕ
place_in known i rest t = option_or (lookup (same_transformation t) known) (position_from (is_for_transformation t) i rest)

lookup_alike : (p q : Transformation → Bool) → ((z : Transformation) → p z ≡ q z) → (known : Places) → lookup p known ≡ lookup q known
lookup_alike p q h [] = refl
lookup_alike p q h (k ∷ known) =
    ap (λ (b : Bool). cond b (Some k.1) (lookup p known)) (h k.0)
    ∙ ap (λ (o : Option ℕ). cond (q k.0) (Some k.1) o) (lookup_alike p q h known)

lookup_more : (p : Transformation → Bool) (known : Places) (s : Transformation) (i : ℕ) → lookup p (known ++ (s, i) ∷ []) ≡ option_or (lookup p known) (cond (p s) (Some i) None)
lookup_more p [] s i = refl
lookup_more p (k ∷ known) s i = by (p k.0) (lookup_more p known s i)
  where
    by : (b : Bool) → lookup p (known ++ (s, i) ∷ []) ≡ option_or (lookup p known) (cond (p s) (Some i) None)
        → cond b (Some k.1) (lookup p (known ++ (s, i) ∷ [])) ≡ option_or (cond b (Some k.1) (lookup p known)) (cond (p s) (Some i) None)
    by true rest = refl
    by false rest = rest

-- before all entries
pub at_first : (es : List TransformationEntry) (t : Transformation) → place_in [] 0 es t ≡ place_of es t
at_first es t = sym (position_from-zero (is_for_transformation t) es)

-- no place is known
pub none_of : {X : Type 0} (o : Option X) → is_some o ≡ false → o ≡ None
none_of None h = refl
none_of (Some x) h = absurd cc

-- an entry whose transformation is known
pub step_known : (known : Places) (i : ℕ) (e : TransformationEntry) (rest : List TransformationEntry) (t : Transformation)
    → is_some (lookup (same_transformation e.transformation) known) ≡ true → place_in known (i + 1) rest t ≡ place_in known i (e ∷ rest) t
step_known known i e rest t h = by (same_transformation t e.transformation) refl
  where
    held : (o : Option ℕ) (a b : Option ℕ) → is_some o ≡ true → option_or o a ≡ option_or o b
    held None a b k = absurd cc
    held (Some n) a b k = refl

    by : (b : Bool) → same_transformation t e.transformation ≡ b → place_in known (i + 1) rest t ≡ option_or (lookup (same_transformation t) known) (cond b (Some i) (position_from (is_for_transformation t) (i + 1) rest))
    by true same =
        held (lookup (same_transformation t) known) _ _
        (ap is_some (lookup_alike (same_transformation t) (same_transformation e.transformation) (λ z. sameness.congr t e.transformation z same) known) ∙ h)
    by false same = refl

-- an entry whose transformation becomes known
pub step_new : (known : Places) (i : ℕ) (e : TransformationEntry) (rest : List TransformationEntry) (t : Transformation)
    → place_in (known ++ (e.transformation, i) ∷ []) (i + 1) rest t ≡ place_in known i (e ∷ rest) t
step_new known i e rest t =
    ap (λ (o : Option ℕ). option_or o (position_from (is_for_transformation t) (i + 1) rest)) (lookup_more (same_transformation t) known e.transformation i)
    ∙ by (lookup (same_transformation t) known) (same_transformation t e.transformation)
  where
    by : (o : Option ℕ) (b : Bool) → option_or (option_or o (cond b (Some i) None)) (position_from (is_for_transformation t) (i + 1) rest) ≡ option_or o (cond b (Some i) (position_from (is_for_transformation t) (i + 1) rest))
    by None true = refl
    by None false = refl
    by (Some n) b = refl

-- a place is one of the list's
pub place_within : (es : List TransformationEntry) (t : Transformation) → IfSome (place_of es t) (λ (i : ℕ). i < length es)
place_within es t = by (nat_lt (position_or_len (is_for_transformation t) es) (length es)) refl
  where
    by : (b : Bool) → nat_lt (position_or_len (is_for_transformation t) es) (length es) ≡ b → IfSome (cond b (Some (position_or_len (is_for_transformation t) es)) None) (λ (i : ℕ). i < length es)
    by true e = grind arith
    by false e = tt
