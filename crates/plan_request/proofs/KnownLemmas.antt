-- The keys of an object, and the first unknown one so far.
use Rattle.std.proofs.Common.{◌≡◌, ℕ, List, [], ◌∷◌, map, refl, ap}
use Rattle.std.specs.Prelude.{Option, Some, None, fold, String, string_bytes}
use Rattle.std.specs.declared.alloc.Global.{Global}
use Rattle.std.specs.List.{reduce}
use Rattle.serde_json.specs.View.{members_view}
use Rattle.serde_json.specs.declared.value.Value.{Value}
use Rattle.peg_json.specs.Table.{keys_in}
use Rattle.plan_request.specs.Request.{earlier}

pub keys_view : (ms : List (String Global × Value)) → keys_in (members_view ms) ≡ map string_bytes (map (λ m. m.0) ms)
keys_view [] = refl
keys_view (m ∷ ms) = ap (λ (ks : List (List ℕ)). string_bytes m.0 ∷ ks) (keys_view ms)

-- of the key that was found before, if there is one, and of more keys
abbrev pub first_from : List ℕ → Option (List ℕ) → List (List ℕ) → Option (List ℕ)
first_from path None keys = reduce (earlier path) keys
first_from path (Some key) keys = Some (fold (earlier path) key keys)
