-- Names as words of a text.
use Rattle.std.specs.Prelude.{ℕ, ◌+◌, ◌/◌, ◌%◌, ◌==◌, ◌&&◌, ◌++◌, nat_lt, nat_le, not, List, [], ◌∷◌, if◌then◌else◌}

-- an upper-case hexadecimal digit
abbrev pub upper_digit : ℕ → ℕ
upper_digit n = if nat_lt n 10 then 48 + n else 55 + n

-- a visible ASCII character but the percent sign stands for itself, any other byte as a percent sign and two digits
abbrev pub printed_byte : ℕ → List ℕ
printed_byte b = if nat_le 33 b && (nat_le b 126 && not (b == 37)) then b ∷ [] else 37 ∷ upper_digit (b / 16) ∷ upper_digit (b % 16) ∷ []

abbrev pub printed_bytes : List ℕ → List ℕ
printed_bytes [] = []
printed_bytes (b ∷ bs) = printed_byte b ++ printed_bytes bs

-- a name as a word of a text; an empty one is a percent sign
abbrev pub printed_name : List ℕ → List ℕ
printed_name [] = 37 ∷ []
printed_name (b ∷ bs) = printed_bytes (b ∷ bs)
