-- Whether numbers rise.
use Rattle.std.specs.Prelude.{ℕ, ◌&&◌, Bool, true, not, cond, List, [], ◌∷◌, nat_lt}
use Rattle.std.specs.List.{flat_map}
use Rattle.plan_core.specs.Numbers.{has}

abbrev pub rises_after : ℕ → List ℕ → Bool
rises_after last [] = true
rises_after last (x ∷ xs) = nat_lt last x && rises_after x xs

abbrev pub is_rising : List ℕ → Bool
is_rising [] = true
is_rising (x ∷ xs) = rises_after x xs

-- some numbers without others
abbrev pub without : List ℕ → List ℕ → List ℕ
without xs others = flat_map (λ x. cond (not (has others x)) (x ∷ []) []) xs
