-- The documents of a call: which is asked for, and what comes of it.
use Rattle.std.specs.Prelude.{◌≡◌, ℕ, ◌≤◌, List, length, Option, Ok, IfSome}
use Rattle.values.specs.FileMap.{Files}
use Rattle.outside.specs.Docs.{fetched}

-- the longest document, in bytes
abbrev pub document_limit : ℕ
document_limit = 33554432

-- a document that came is within the limit, and the one of its name where documents are told
pub record IsDocument (told : Option Files) (name bytes : List ℕ) : Type 0 where
  pub within : length bytes ≤ document_limit
  pub told_is : IfSome told (λ files. fetched files name document_limit ≡ Ok bytes)
