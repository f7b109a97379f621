-- Beside `specs/Docs.antt`: what the code's own contracts say.
use Rattle.std.specs.Prelude.{◌≡◌, ℕ, ◌≤◌, List, [], length, Option, Result, Ok, Err, IfSome}
use Rattle.values.specs.FileMap.{Files}
use Rattle.outside.specs.code.Counts.{one_done, one_fault, one_miss}
use Rattle.outside.specs.declared.counts.Counts.{Counts}
use Rattle.outside.specs.declared.docs.DocFault.{DocFault}
use Rattle.outside.specs.declared.docs.DocFault.TheVariants.{Absent, Failed, TooLong, Memory}
use Rattle.outside.specs.Docs.{fetched}

-- The answers of a fetch. Each counts itself, but want of memory. A document that comes is within the limit, told or not.
abbrev pub Fetched : Option Files → List ℕ → ℕ → Counts → Counts → Result (Unit {0}) DocFault → List ℕ
    → Type 0
Fetched told name limit before after (Ok u) into = (after ≡ one_done before) × (length into ≤ limit)
    × IfSome told (λ files. fetched files name limit ≡ Ok into)
Fetched told name limit before after (Err Absent) into = (after ≡ one_miss before) × (into ≡ [])
    × IfSome told (λ files. fetched files name limit ≡ Err Absent)
Fetched told name limit before after (Err (TooLong n)) into = (after ≡ one_miss before) × (into ≡ [])
    × (n ≡ limit) × IfSome told (λ files. fetched files name limit ≡ Err (TooLong n))
Fetched told name limit before after (Err Failed) into = (after ≡ one_fault before) × (into ≡ [])
Fetched told name limit before after (Err Memory) into = (after ≡ before) × (into ≡ [])
