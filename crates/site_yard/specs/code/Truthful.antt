-- Truthful records: what the entries say of sizes and causes is so, over the told replicas and what tasks carry.
use Rattle.std.specs.Prelude.{◌≡◌, ℕ, ◌≤◌, Bool, true, false, cond, nat_lt, List, [], ◌∷◌, map, length, take, Option, Some, None, option_map}
use Rattle.sha2.specs.Sha256.{sha256}
use Rattle.values.specs.Apply.{Apply}
use Rattle.plan_core.specs.declared.plan.Plan.{Plan}
use Rattle.plan_core.specs.declared.plan.TaskKind.{TaskKind}
use Rattle.plan_core.specs.declared.plan.TaskKind.TheVariants.{Transfer}
use Rattle.plan_core.specs.declared.plan.Source.TheVariants.{Pfn}
use Rattle.plan_core.specs.code.Declined.{declined}
use Rattle.plan_core.specs.Numbers.{has}
use Rattle.plan_core.specs.Words.{declared, kind, outputs, writes}
use Rattle.plan_core.specs.Names.{pair_file}
use Rattle.storage_simulation.specs.Goods.{or_zero}
use Rattle.run_record.specs.declared.entry.Cause.{Cause}
use Rattle.run_record.specs.declared.entry.Cause.TheVariants.{Absent, TooLong, Checksum, Oversize, Declined, ToolFailed, HostFailed, Memory}
use Rattle.run_record.specs.Events.{Event, Grant, Arrive, End, Clean, Fail, Again, Regrant}
use Rattle.lease_rules.specs.Legal.{checksum}
use Rattle.site_yard.specs.code.Changes.{moved}

-- the sizes are those of what the task carries for the first of its writes
abbrev pub AreSizes : Plan → (ℕ → ℕ → Option (List ℕ)) → ℕ → List ℕ → Type 0
AreSizes p c t ns = map (λ q. option_map length (c t (pair_file p q))) (take (length ns) (writes p t))
    ≡ map Some ns

-- the first of the pairs for whose file the task carries more than is declared
abbrev pub is_over : ℕ → Option (List ℕ) → Bool
is_over limit None = false
is_over limit (Some bytes) = nat_lt limit (length bytes)

abbrev pub oversize_among : Plan → (ℕ → Option (List ℕ)) → List ℕ → Option ℕ
oversize_among p v [] = None
oversize_among p v (q ∷ qs) = cond (is_over (or_zero (declared p (pair_file p q))) (v (pair_file p q)))
    (Some (pair_file p q)) (oversize_among p v qs)

-- what stands at the pfn from which a Transfer comes
abbrev pub IsAtPfn : (List ℕ → Option (List ℕ)) → Option TaskKind → (ℕ → Option (List ℕ) → Type 0) → Type 0
IsAtPfn told (Some (Transfer f (Pfn x) to)) P = P f.0 (told x)
IsAtPfn told _ P = ⊥

-- these bytes have this digest, and no more of them are there than are declared
abbrev pub IsDigest : Plan → List ℕ → ℕ → Option (List ℕ) → Type 0
IsDigest p d f None = ⊥
IsDigest p d f (Some bytes) = (sha256 bytes ≡ d) × (length bytes ≤ or_zero (declared p f))

abbrev pub IsLongAs : ℕ → Option (List ℕ) → Type 0
IsLongAs n o = option_map length o ≡ Some n

-- The truth of a cause. Causes of the tool, of the host and of memory are shown by counts, or free.
abbrev pub IsCause : Apply → (List ℕ → Option (List ℕ)) → Plan → (ℕ → ℕ → Option (List ℕ)) → ℕ → Cause
    → Type 0
IsCause apply told p c t Absent = IsAtPfn told (kind p t) (λ f o. o ≡ None)
IsCause apply told p c t (TooLong n) = IsAtPfn told (kind p t) (λ f o. IsLongAs n o)
IsCause apply told p c t (Checksum d) = IsAtPfn told (kind p t) (IsDigest p d)
IsCause apply told p c t (Declined j) = declined apply p c t ≡ Some j.0
IsCause apply told p c t (Oversize j f n) = (declined apply p c t ≡ None)
    × (oversize_among p (c t) (writes p t) ≡ Some f.0) × (has (outputs p.jobs j.0) f.0 ≡ true)
    × IsLongAs n (c t f.0)
IsCause apply told p c t (ToolFailed j) = Unit {0}
IsCause apply told p c t HostFailed = Unit {0}
IsCause apply told p c t Memory = Unit {0}

-- what a Transfer from a pfn carries has the checksum that is registered for its file
abbrev pub HasSum : Option (List ℕ) → Option (List ℕ) → Type 0
HasSum None o = Unit {0}
HasSum (Some wanted) o = option_map sha256 o ≡ Some wanted

abbrev pub HasChecksum : Plan → (ℕ → Option (List ℕ)) → Option TaskKind → Type 0
HasChecksum p v (Some (Transfer f (Pfn x) to)) = HasSum (checksum p f.0) (v f.0)
HasChecksum p v _ = Unit {0}

-- an entry that says what is so
abbrev pub IsTrue : Apply → (List ℕ → Option (List ℕ)) → Plan → (ℕ → ℕ → Option (List ℕ)) → Event → Type 0
IsTrue apply told p c (Grant w t) = Unit {0}
IsTrue apply told p c (Regrant w t) = Unit {0}
IsTrue apply told p c (Arrive w t n) = IsLongAs n (moved (c t) (kind p t)) × HasChecksum p (c t) (kind p t)
IsTrue apply told p c (End w t ns) = AreSizes p c t ns
IsTrue apply told p c (Clean w t) = Unit {0}
IsTrue apply told p c (Fail w t cause ns) = AreSizes p c t ns × IsCause apply told p c t cause
IsTrue apply told p c (Again w t cause ns) = AreSizes p c t ns

abbrev pub Truthful : Apply → (List ℕ → Option (List ℕ)) → Plan → (ℕ → ℕ → Option (List ℕ)) → List Event
    → Type 0
Truthful apply told p c [] = Unit {0}
Truthful apply told p c (e ∷ r) = IsTrue apply told p c e × Truthful apply told p c r
