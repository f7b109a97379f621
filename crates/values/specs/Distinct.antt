-- Texts without those that came before.
use Rattle.std.specs.Prelude.{ℕ, List, [], ◌∷◌, not}
use Rattle.std.specs.List.{filter}
use Rattle.std.specs.Str.{bytes_eq}

-- each text once, where it first comes
abbrev pub distinct : List (List ℕ) → List (List ℕ)
distinct [] = []
distinct (x ∷ xs) = x ∷ filter (λ y. not (bytes_eq y x)) (distinct xs)
