-- One element more of a list that a loop makes from another.
use Rattle.std.proofs.Common.{◌≡◌, ◌<◌, ◌+◌, ℕ, List, [], ◌∷◌, ◌++◌, drop, get_or, length, map, append_assoc, sym, ap, ◌∙◌}
use Rattle.std.specs.List.{flat_map}
use Rattle.std.proofs.lemmas.List.{drop_more, map-append}

-- one for each, which shows it
pub seen_pushed : {A B : Type 0} (g : B → A) (xs : List A) (i : ℕ) (d : A) (old new : List B) (x : B) → i < length xs → g x ≡ get_or xs i d → map g old ++ drop i xs ≡ xs → new ≡ old ++ x ∷ [] → map g new ++ drop (i + 1) xs ≡ xs
seen_pushed {A} {B} g xs i d old new x low is so_far now =
    ap (λ (ys : List B). map g ys ++ drop (i + 1) xs) now ∙ ap (λ (ys : List A). ys ++ drop (i + 1) xs) (map-append g old (x ∷ []))
    ∙ append_assoc (map g old) (g x ∷ []) (drop (i + 1) xs) ∙ ap (λ (y : A). map g old ++ y ∷ drop (i + 1) xs) is
    ∙ ap (λ (ys : List A). map g old ++ ys) (sym (drop_more xs i d low)) ∙ so_far

-- several for each
pub flat_pushed : {A B : Type 0} (g : A → List B) (xs : List A) (i : ℕ) (x : A) (old new total : List B) → i < length xs → x ≡ get_or xs i x → new ≡ old ++ g x → old ++ flat_map g (drop i xs) ≡ total → new ++ flat_map g (drop (i + 1) xs) ≡ total
flat_pushed {A} {B} g xs i x old new total low is now so_far =
    ap (λ (ys : List B). ys ++ flat_map g (drop (i + 1) xs)) now ∙ append_assoc old (g x) (flat_map g (drop (i + 1) xs))
    ∙ ap (λ (z : A). old ++ (g z ++ flat_map g (drop (i + 1) xs))) is
    ∙ ap (λ (ys : List A). old ++ flat_map g ys) (sym (drop_more xs i x low)) ∙ so_far
