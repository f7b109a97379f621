-- A reading within a limit.
use Rattle.std.specs.Prelude.{◌≡◌, ℕ, ◌≤◌, ◌<◌, List, length, Option, IfSome}
use Rattle.std.specs.Io.KnownBytes.{Consumes}
use Rattle.host_files.specs.declared.reading.Reading.{Reading}
use Rattle.host_files.specs.declared.reading.Reading.TheVariants.{Whole, Longer, Failed, Memory}

-- How the reading of a file ended. The file's bytes may be told or not; `into` is what was kept.
abbrev pub HasRead : Option (List ℕ) → ℕ → Reading → List ℕ → Type 0
HasRead told limit Whole into = (length into ≤ limit) × IfSome told (λ bytes. into ≡ bytes)
HasRead told limit (Longer n) into = (limit < n) × IfSome told (λ bytes. length bytes ≡ n)
HasRead told limit Failed into = Unit {0}
HasRead told limit Memory into = Unit {0}

-- so many bytes were read, of those that were left
abbrev pub HasPassed : Option (List ℕ) → Option (List ℕ) → ℕ → Type 0
HasPassed before after n = (bytes : List ℕ) × Consumes before after bytes × (length bytes ≡ n)

-- how a reading ended that goes on no further than past the limit
abbrev pub HasReadFront : Option (List ℕ) → Option (List ℕ) → ℕ → Reading → List ℕ → Type 0
HasReadFront before after limit (Longer n) into = (limit < n) × HasPassed before after n
HasReadFront before after limit ended into = HasRead before limit ended into
