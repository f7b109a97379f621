-- Documents under names, and what a fetch answers.
use Rattle.std.specs.Prelude.{ℕ, List, length, nat_lt, if◌then◌else◌, Result, Ok, Err, unwrap_or, option_map}
use Rattle.std.specs.FinMap as map
use Rattle.values.specs.FileMap.{Files}
use Rattle.outside.specs.declared.docs.DocFault.{DocFault}
use Rattle.outside.specs.declared.docs.DocFault.TheVariants.{Absent, TooLong}

-- what a fetch gives where the documents are told: the document, or why there is none within the limit
abbrev pub fetched : Files → List ℕ → ℕ → Result (List ℕ) DocFault
fetched files name limit = unwrap_or (option_map
    (λ bytes. if nat_lt limit (length bytes) then Err (TooLong limit) else Ok bytes) (map.get files name)) (Err Absent)
