-- A piece at a place.
use Rattle.std.proofs.Common.{◌≡◌, ℕ, zero, suc, List, [], ◌∷◌, Option, get_or, ap}
use Rattle.std.specs.Prelude.{slice_get}
use Rattle.std.specs.Option.{unwrap_or}

pub read_at : (pieces : List (List ℕ)) (i : ℕ) (found : Option (List ℕ)) → found ≡ slice_get pieces i → unwrap_or found [] ≡ get_or pieces i []
read_at [] i found e = ap (λ (o : Option (List ℕ)). unwrap_or o []) e
read_at (piece ∷ pieces) zero found e = ap (λ (o : Option (List ℕ)). unwrap_or o []) e
read_at (piece ∷ pieces) (suc i) found e = read_at pieces i found e
