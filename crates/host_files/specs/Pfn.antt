-- Where a replica stands.
use Rattle.std.specs.Prelude.{ℕ, ◌==◌, Bool, false, ◌&&◌, ◌||◌, List, [], ◌∷◌, take, drop, Option, Some, None, option_map, if◌then◌else◌, bytes_eq, codes}
use Rattle.std.specs.Char.{is_ascii_alphabetic, is_ascii_alphanumeric}
use Rattle.std.specs.List.{list_all}

-- what a scheme has behind its first letter: letters, digits, `+`, `-` and `.`
abbrev pub is_scheme_byte : ℕ → Bool
is_scheme_byte b = is_ascii_alphanumeric b || (b == 43 || (b == 45 || b == 46))

-- whether a text is spelled as a URL's scheme (RFC 3986, 3.1)
abbrev pub is_scheme : List ℕ → Bool
is_scheme [] = false
is_scheme (b ∷ bs) = is_ascii_alphabetic b && list_all is_scheme_byte bs

-- the texts before and behind the first `://`
abbrev pub around_marks : List ℕ → Option (List ℕ × List ℕ)
around_marks [] = None
around_marks (b ∷ bs) = if bytes_eq (take 3 (b ∷ bs)) (codes "://") then Some ([], drop 2 bs)
    else option_map (λ p. (b ∷ p.0, p.1)) (around_marks bs)

-- the path of a pfn that has this before and behind the first `://`
abbrev pub url_path : List ℕ → List ℕ → List ℕ → Option (List ℕ)
url_path pfn scheme path = if bytes_eq scheme (codes "file") then Some path
    else (if is_scheme scheme then None else Some pfn)

abbrev pub path_by : List ℕ → Option (List ℕ × List ℕ) → Option (List ℕ)
path_by pfn None = Some pfn
path_by pfn (Some p) = url_path pfn p.0 p.1

-- The path of a pfn: what follows `file://`, nothing where there is another scheme, and else the pfn itself.
abbrev pub path_of : List ℕ → Option (List ℕ)
path_of pfn = path_by pfn (around_marks pfn)
