-- Numbers of one to eighteen digits.
use Rattle.std.specs.Prelude.{ℕ, ◌+◌, ◌-◌, ◌*◌, ◌&&◌, nat_le, List, [], ◌∷◌, length, if◌then◌else◌, Option, Some, None}

-- the number that decimal digits go on to from n, or none where another byte stands among them
abbrev pub number_from : ℕ → List ℕ → Option ℕ
number_from n [] = Some n
number_from n (b ∷ bytes) = if nat_le 48 b && nat_le b 57 then number_from (n * 10 + (b - 48)) bytes else None

-- the number that one to eighteen decimal digits stand for
abbrev pub number_of : List ℕ → Option ℕ
number_of bytes = if nat_le 1 (length bytes) && nat_le (length bytes) 18 then number_from 0 bytes else None

-- the number that the first argument stands for
abbrev pub first_number : List (List ℕ) → Option ℕ
first_number [] = None
first_number (argument ∷ arguments) = number_of argument
