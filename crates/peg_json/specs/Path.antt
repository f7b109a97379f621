-- Paths into a tree, as RFC 6901 writes them.
use Rattle.std.specs.Prelude.{ℕ, List, [], ◌∷◌, ◌++◌, ◌==◌, if◌then◌else◌, decimal}
use Rattle.std.specs.List.{flat_map}
use Rattle.std.specs.Str.{chars}
use Rattle.std.specs.Char.{encode_utf8}

-- a character, with `~0` for `~` and `~1` for `/`
abbrev pub escaped_char : ℕ → List ℕ
escaped_char c = if c == 126 then 126 ∷ 48 ∷ [] else (if c == 47 then 126 ∷ 49 ∷ [] else encode_utf8 c)

-- a key, with `~0` for `~` and `~1` for `/`
unfoldable pub escaped : List ℕ → List ℕ
escaped key = flat_map escaped_char (chars key)

-- the path of an object's key
abbrev pub key_path : List ℕ → List ℕ → List ℕ
key_path path key = path ++ 47 ∷ escaped key

-- the path of a list's element
abbrev pub index_path : List ℕ → ℕ → List ℕ
index_path path i = path ++ 47 ∷ decimal i
