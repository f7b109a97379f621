-- The SHA-256 of the input, in hexadecimal digits.
use Rattle.std.specs.Prelude.{ℕ, ◌++◌, List, codes}
use Rattle.hex.specs.Hex.{encode_lower}
use Rattle.sha2.specs.Sha256.{sha256}

abbrev pub digest : List ℕ → List ℕ
digest input = encode_lower (sha256 input) ++ codes "\n"
