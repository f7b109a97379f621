-- Names of files as parts of a path.
use Rattle.std.specs.Prelude.{◌≡◌, ℕ, ◌==◌, ◌++◌, List, [], ◌∷◌, if◌then◌else◌, codes}
use Rattle.std.specs.List.{flat_map}
use Rattle.std.specs.Str.{chars}
use Rattle.std.specs.Char.{encode_utf8}

-- a character, with `%25` for `%` and `%2F` for `/`
abbrev pub escaped_char : ℕ → List ℕ
escaped_char c = if c == 37 then codes "%25" else (if c == 47 then codes "%2F" else encode_utf8 c)

-- a text, each character like this
unfoldable pub escaped_text : List ℕ → List ℕ
escaped_text text = flat_map escaped_char (chars text)

-- a name, with `%2E` for a `.` that begins it
abbrev pub escaped : List ℕ → List ℕ
escaped [] = []
escaped (b ∷ bs) = if b == 46 then codes "%2E" ++ escaped_text bs else escaped_text (b ∷ bs)

-- the path of a name in a folder
abbrev pub path_in : List ℕ → List ℕ → List ℕ
path_in folder name = folder ++ 47 ∷ escaped name

abbrev pub HasNoSlash : List ℕ → Type 0
HasNoSlash [] = Unit {0}
HasNoSlash (b ∷ bs) = (b ≡ 47 → ⊥) × HasNoSlash bs
