-- The words of a command line.
use Rattle.std.specs.Prelude.{ℕ, ◌+◌, ◌*◌, ◌-◌, ◌==◌, ◌&&◌, not, nat_le, Bool, false, List, [], ◌∷◌, codes, drop, take, length, if◌then◌else◌, Option, Some, None, option_map, option_and_then}
use Rattle.std.specs.Char.{is_ascii_digit}
use Rattle.std.specs.Str.{bytes_eq}

-- what may start threads and wait, with a name or a number of images, and how many workers
pub data Threaded : Type 0 where
  Run : List ℕ → ℕ → Threaded
  EnsembleBy : List ℕ → ℕ → Threaded
  RehearseBy : ℕ → ℕ → Threaded

abbrev pub four_digits : ℕ → ℕ → ℕ → ℕ → ℕ → ℕ → Option ℕ
four_digits low high a b c d =
    let n = (a - 48) * 1000 + (b - 48) * 100 + (c - 48) * 10 + (d - 48) in
    if is_ascii_digit a && (is_ascii_digit b && (is_ascii_digit c && is_ascii_digit d))
    && (nat_le low n && nat_le n high)
    then Some n else None

-- one to four digits, of a number between the bounds
abbrev pub number_in : ℕ → ℕ → List ℕ → Option ℕ
number_in low high (d ∷ []) = four_digits low high 48 48 48 d
number_in low high (c ∷ d ∷ []) = four_digits low high 48 48 c d
number_in low high (b ∷ c ∷ d ∷ []) = four_digits low high 48 b c d
number_in low high (a ∷ b ∷ c ∷ d ∷ []) = four_digits low high a b c d
number_in low high _ = None

abbrev pub workers_in : List ℕ → Option ℕ
workers_in digits = number_in 1 16 digits

abbrev pub images_in : List ℕ → Option ℕ
images_in digits = number_in 2 3000 digits

-- ---- what words say: a command's word, one or two words more, and the digits of the option for workers

-- the word and what follows it
pub data Said : Type 0 where
  One : List ℕ → List ℕ → Said
  Two : List ℕ → List ℕ → List ℕ → Said
  WithWorkers : List ℕ → List ℕ → List ℕ → Said

abbrev pub workers_option : List ℕ
workers_option = codes "--workers"

abbrev pub begins_with : List ℕ → List ℕ → Bool
begins_with start word = bytes_eq (take (length start) word) start

-- a word that isn't empty and doesn't begin with a dash
abbrev pub is_name : List ℕ → Bool
is_name [] = false
is_name (b ∷ bs) = not (b == 45)

-- the option as one word `--workers=N`, and as two words
abbrev pub joined_option : List ℕ → List ℕ → List ℕ → Option Said
joined_option word name option = if is_name name && begins_with (codes "--workers=") option
    then Some (WithWorkers word name (drop 10 option)) else None

abbrev pub apart : List ℕ → List ℕ → List ℕ → List ℕ → Option Said
apart word name option digits = if is_name name && bytes_eq option workers_option
    then Some (WithWorkers word name digits) else None

abbrev pub one_more : List ℕ → List ℕ → Option Said
one_more word a = if is_name a then Some (One word a) else None

-- the option stands before or after the name
abbrev pub two_more : List ℕ → List ℕ → List ℕ → Option Said
two_more word a b = if is_name a then (if is_name b then Some (Two word a b) else joined_option word a b)
    else joined_option word b a

abbrev pub three_more : List ℕ → List ℕ → List ℕ → List ℕ → Option Said
three_more word a b c = if is_name a then apart word a b c else apart word c a b

abbrev pub said_in : List (List ℕ) → Option Said
said_in (word ∷ a ∷ []) = one_more word a
said_in (word ∷ a ∷ b ∷ []) = two_more word a b
said_in (word ∷ a ∷ b ∷ c ∷ []) = three_more word a b c
said_in _ = None

abbrev pub by_workers : List ℕ → List ℕ → ℕ → Option Threaded
by_workers word a workers =
    if bytes_eq word (codes "run") then Some (Run a workers)
    else if bytes_eq word (codes "ensemble") then Some (EnsembleBy a workers)
    else if bytes_eq word (codes "rehearse") then option_map (λ n. RehearseBy n workers) (images_in a)
    else None

abbrev pub threaded_in : Said → Option Threaded
threaded_in (WithWorkers word a digits) = option_and_then (by_workers word a) (workers_in digits)
threaded_in _ = None

abbrev pub threaded_command : List (List ℕ) → Option Threaded
threaded_command words = option_and_then threaded_in (said_in words)
