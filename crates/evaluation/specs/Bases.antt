-- The bases of a workflow's files: the bytes of those that no job makes, from their first places.
use Rattle.std.specs.Prelude.{◌≡◌, ℕ, ◌^◌, List, [], ◌∷◌, if◌then◌else◌, Option, Some, None, option_map, Result, Ok, Err}
use Rattle.std.specs.Str.{bytes_eq}
use Rattle.std.specs.FinMap as map
use Rattle.sha2.specs.Sha256.{sha256}
use Rattle.outside.specs.code.Host.{Reads, replica}
use Rattle.outside.specs.declared.counts.Counts.{Counts}
use Rattle.outside.specs.declared.host.HostFault.{HostFault}
use Rattle.outside.specs.declared.host.HostFault.TheVariants as host_faults
use Rattle.outside.specs.declared.store.Store.{Store}
use Rattle.peg_json.specs.Tree.{◌>>=◌}
use Rattle.run_record.specs.declared.run_fault.RunFault.TheVariants.{ReplicaAbsent, ReplicaTooLong, ChecksumDiffers, HostFailed, Memory}
use Rattle.evaluation.specs.declared.fault.EvaluationFault.{EvaluationFault}
use Rattle.evaluation.specs.declared.fault.EvaluationFault.TheVariants.{Failed}
use Rattle.evaluation.specs.declared.sources.Source.{Source}

-- the longest base, in bytes
abbrev pub base_limit : ℕ
base_limit = 2 ^ 40

-- a base of each file that no job makes, by number
abbrev pub Bases : Type 0
Bases = List (Option (List ℕ))

-- the bytes of a source, if they have the checksum that is registered
abbrev pub checked : Source → List ℕ → Option (List ℕ) → Result (List ℕ) EvaluationFault
checked s bytes None = Ok bytes
checked s bytes (Some wanted) =
    if bytes_eq (sha256 bytes) wanted then Ok bytes
    else Err (Failed (ChecksumDiffers s.lfn wanted (sha256 bytes)))

-- what the reading of a source gives
abbrev pub base_answer : Source → Result (List ℕ) HostFault → Result (List ℕ) EvaluationFault
base_answer s (Ok bytes) = checked s bytes s.checksum
base_answer s (Err host_faults.Absent) = Err (Failed (ReplicaAbsent s.lfn s.pfn))
base_answer s (Err host_faults.Failed) = Err (Failed (HostFailed None))
base_answer s (Err (host_faults.Over limit n)) = Err (Failed (ReplicaTooLong s.lfn limit n))
base_answer s (Err host_faults.Memory) = Err (Failed Memory)

-- one base more before those of later files
abbrev pub after_base : Option (List ℕ) → Result Bases EvaluationFault
    → Result Bases EvaluationFault
after_base base (Ok bases) = Ok (base ∷ bases)
after_base base (Err fault) = Err fault

-- What comes of a reading: later files go on from these counts, or it was the last one.
abbrev pub Continues : (Counts → Result Bases EvaluationFault → Type 0) → Result (List ℕ) EvaluationFault
    → Counts → Counts → Result Bases EvaluationFault → Type 0
Continues later (Ok bytes) now after result =
    (rest : Result Bases EvaluationFault) × later now rest × (result ≡ after_base (Some bytes) rest)
Continues later (Err fault) now after result = (after ≡ now) × (result ≡ Err fault)

-- the bytes of a replica, where the host tells
abbrev pub told_bytes : Option Store → List ℕ → Option (Option (List ℕ))
told_bytes told pfn = option_map (λ s. map.get s.replicas pfn) told

-- One call of the host read a source.
abbrev pub IsBaseRead : Option Store → Source → Counts → Counts → Result (List ℕ) EvaluationFault
    → Type 0
IsBaseRead told s before now result =
    (read : Result (List ℕ) HostFault) × Reads (told_bytes told s.pfn) base_limit before now read
    × (result ≡ base_answer s read)

-- The sources were read one after the other, each with one call of the host, up to the first fault.
abbrev pub ReadsBases : Option Store → List (Option Source) → Counts → Counts
    → Result Bases EvaluationFault → Type 0
ReadsBases told [] before after result = (after ≡ before) × (result ≡ Ok [])
ReadsBases told (None ∷ ss) before after result =
    (rest : Result Bases EvaluationFault) × ReadsBases told ss before after rest
    × (result ≡ after_base None rest)
ReadsBases told (Some s ∷ ss) before after result =
    (read : Result (List ℕ) HostFault) × (now : Counts)
    × Reads (told_bytes told s.pfn) base_limit before now read
    × Continues (λ c r. ReadsBases told ss c after r) (base_answer s read) now after result

-- the bytes that a host tells; of one that doesn't tell nothing can be said beforehand
abbrev pub told_replica : Option Store → List ℕ → Result (List ℕ) HostFault
told_replica None pfn = Err host_faults.Memory
told_replica (Some st) pfn = replica st pfn base_limit

-- the bases that a host tells, or the first fault
abbrev pub told_bases : Option Store → List (Option Source) → Result Bases EvaluationFault
told_bases told [] = Ok []
told_bases told (None ∷ ss) = do
  rest ← told_bases told ss
  Ok (None ∷ rest)
told_bases told (Some s ∷ ss) = do
  bytes ← base_answer s (told_replica told s.pfn)
  rest ← told_bases told ss
  Ok (Some bytes ∷ rest)
