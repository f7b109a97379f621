-- Documents as files.
use Rattle.std.specs.Prelude.{◌≡◌, ℕ, ◌≤◌, ◌<◌, List, [], length, Option, Result, Ok, Err, IfSome}
use Rattle.outside.specs.code.Counts.{one_done, one_fault, one_miss}
use Rattle.outside.specs.declared.counts.Counts.{Counts}
use Rattle.outside.specs.declared.docs.DocFault.{DocFault}
use Rattle.outside.specs.declared.docs.DocFault.TheVariants.{Absent, Failed, TooLong, Memory}

-- The answers of a fetch from an open file, of which these bytes remain, where they are known.
abbrev pub Fetches : Option (List ℕ) → ℕ → Counts → Counts → Result (Unit {0}) DocFault → List ℕ → Type 0
Fetches known limit before after (Ok u) into = (after ≡ one_done before) × (length into ≤ limit)
    × IfSome known (λ bytes. into ≡ bytes)
Fetches known limit before after (Err (TooLong n)) into = (after ≡ one_miss before) × (into ≡ [])
    × (n ≡ limit) × IfSome known (λ bytes. limit < length bytes)
Fetches known limit before after (Err Failed) into = (after ≡ one_fault before) × (into ≡ [])
Fetches known limit before after (Err Memory) into = (after ≡ before) × (into ≡ [])
Fetches known limit before after (Err Absent) into = ⊥
