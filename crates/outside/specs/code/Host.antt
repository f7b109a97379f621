-- What the calls of a host answer.
use Rattle.std.specs.Prelude.{◌≡◌, ℕ, ◌≤◌, ◌<◌, Bool, List, length, nat_lt, if◌then◌else◌, Option, Some, None, option_map, Result, Ok, Err, IfSome, Decides}
use Rattle.std.specs.FinMap as map
use Rattle.values.specs.code.SiteMap.{IsEmptyAt}
use Rattle.outside.specs.code.Counts.{one_done, one_fault, one_miss}
use Rattle.outside.specs.code.Store.{Change, changed}
use Rattle.outside.specs.declared.counts.Counts.{Counts}
use Rattle.outside.specs.declared.store.Store.{Store}
use Rattle.outside.specs.declared.host.HostFault.{HostFault}
use Rattle.outside.specs.declared.host.HostFault.TheVariants.{Absent, Failed, Over, Memory}

-- the file, or why there is none within the limit
abbrev pub within : ℕ → Option (List ℕ) → Result (List ℕ) HostFault
within limit None = Err Absent
within limit (Some bytes) = if nat_lt limit (length bytes) then Err (Over limit (length bytes)) else Ok bytes

-- what the reading of a replica gives where the host tells
abbrev pub replica : Store → List ℕ → ℕ → Result (List ℕ) HostFault
replica s pfn limit = within limit (map.get s.replicas pfn)

-- bytes of this length
abbrev pub IsLong : Option (List ℕ) → ℕ → Type 0
IsLong found n = option_map length found ≡ Some n

-- The answers of a reading; `found` is what stands at the name, where it is told. Each counts itself, but want of memory.
-- What comes is within the limit, told or not.
abbrev pub Reads : Option (Option (List ℕ)) → ℕ → Counts → Counts → Result (List ℕ) HostFault → Type 0
Reads found limit before after (Ok bytes) = (after ≡ one_done before) × (length bytes ≤ limit)
    × IfSome found (λ x. x ≡ Some bytes)
Reads found limit before after (Err Absent) = (after ≡ one_miss before) × IfSome found (λ x. x ≡ None)
Reads found limit before after (Err (Over l n)) = (after ≡ one_miss before) × (l ≡ limit) × (limit < n)
    × IfSome found (λ x. IsLong x n)
Reads found limit before after (Err Failed) = after ≡ one_fault before
Reads found limit before after (Err Memory) = after ≡ before

-- The answers of a change: it is made, or all is as before. `absent` is what Absent says. Each counts itself, but want of memory.
abbrev pub Changes : Option Store → Option Store → Counts → Counts → Type 0 → Change
    → Result (Unit {0}) HostFault → Type 0
Changes old new before after absent c (Ok u) = (after ≡ one_done before)
    × (new ≡ option_map (λ s. changed s c) old)
Changes old new before after absent c (Err Absent) = (after ≡ one_miss before) × absent × (new ≡ old)
Changes old new before after absent c (Err Failed) = (after ≡ one_fault before) × (new ≡ old)
Changes old new before after absent c (Err Memory) = (after ≡ before) × (new ≡ old)
Changes old new before after absent c (Err (Over l n)) = ⊥

-- The answers to whether a site has no file. A site that has one counts as a miss.
abbrev pub Empties : Option Store → List ℕ → Counts → Counts → Result Bool HostFault → Type 0
Empties told site before after (Ok b) = (after ≡ (if b then one_done before else one_miss before))
    × IfSome told (λ s. Decides b (IsEmptyAt s.scratch site))
Empties told site before after (Err Failed) = after ≡ one_fault before
Empties told site before after (Err Memory) = after ≡ before
Empties told site before after (Err Absent) = ⊥
Empties told site before after (Err (Over l n)) = ⊥
