-- Values by name.
use Rattle.std.specs.Prelude.{ℕ, List, [], ◌∷◌, ◌++◌, if◌then◌else◌, is_some}
use Rattle.std.specs.Map.{lookup}
use Rattle.std.specs.Str.{bytes_eq}

-- one more value, for a name that has none
abbrev pub with_entry : {V : Type 0} → List (List ℕ × V) → List ℕ → V → List (List ℕ × V)
with_entry entries name value = if is_some (lookup (bytes_eq name) entries) then entries
    else entries ++ (name, value) ∷ []

-- more of them, one after the other
abbrev pub with_entries : {V : Type 0} → List (List ℕ × V) → List (List ℕ × V) → List (List ℕ × V)
with_entries entries [] = entries
with_entries entries (e ∷ es) = with_entries (with_entry entries e.0 e.1) es
