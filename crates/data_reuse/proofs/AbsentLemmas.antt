-- Files that would have to be made, one after the other.
use Rattle.std.proofs.Common.{◌≡◌, ℕ, ◌+◌, ◌<◌, Bool, List, [], ◌∷◌, ◌++◌, length, map, take, get_or, sym, ap, ◌∙◌}
use Rattle.std.proofs.lemmas.List.{take_more, map-append}

-- one value more of a list that is mapped
pub map_more : {X : Type 0} (h : X → Bool) (values : List Bool) (items : List X) (i : ℕ) (d : X) (value : Bool) → i < length items → values ≡ map h (take i items) → value ≡ h (get_or items i d) → values ++ value ∷ [] ≡ map h (take (i + 1) items)
map_more {X} h values items i d value low so_far is =
    ap (λ (vs : List Bool). vs ++ value ∷ []) so_far ∙ ap (λ (v : Bool). map h (take i items) ++ v ∷ []) is
    ∙ sym (ap (map h) (take_more items i d low) ∙ map-append h (take i items) (get_or items i d ∷ []))
