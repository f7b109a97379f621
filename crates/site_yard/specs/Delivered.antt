-- What was delivered, by the record: one element for each delivery that arrived, in the order of the record.
use Rattle.std.specs.Prelude.{◌≡◌, ℕ, List, [], ◌∷◌, ◌++◌, map, length, Option, Some, None, option_map}
use Rattle.std.specs.List.{All}
use Rattle.sha2.specs.Sha256.{sha256}
use Rattle.values.specs.declared.numbers.FileId.{FileId}
use Rattle.plan_core.specs.declared.plan.Plan.{Plan}
use Rattle.plan_core.specs.declared.plan.TaskKind.{TaskKind}
use Rattle.plan_core.specs.declared.plan.TaskKind.TheVariants.{Transfer}
use Rattle.plan_core.specs.declared.plan.Target.TheVariants.{Delivery}
use Rattle.plan_core.specs.Words.{kind}
use Rattle.run_record.specs.Events.{Event, Arrive}
use Rattle.site_yard.specs.declared.delivered.Delivered.{Delivered}

-- a delivery that arrived: its task, the file of its Transfer and the size of its Arrive
pub record Arrival : Type 0 where
  pub task : ℕ
  pub file : ℕ
  pub size : ℕ

abbrev pub delivered_file : Option TaskKind → Option FileId
delivered_file (Some (Transfer f from Delivery)) = Some f
delivered_file _ = None

abbrev pub arrival_at : ℕ → ℕ → Option FileId → List Arrival
arrival_at t n None = []
arrival_at t n (Some f) = record { task = t; file = f.0; size = n } ∷ []

abbrev pub arrivals_of : Plan → Event → List Arrival
arrivals_of p (Arrive w t n) = arrival_at t n (delivered_file (kind p t))
arrivals_of p _ = []

-- the deliveries that arrived, in order
abbrev pub arrivals : Plan → List Event → List Arrival
arrivals p [] = []
arrivals p (e ∷ r) = arrivals_of p e ++ arrivals p r

-- the files of the deliveries, the sizes at which they arrived, and the digests of what their tasks carry
abbrev pub AreFiles : List Delivered → List Arrival → Type 0
AreFiles ds arrived = map (λ (d : Delivered). d.file.0) ds ≡ map (λ (a : Arrival). a.file) arrived

abbrev pub AreLengths : List Delivered → List Arrival → Type 0
AreLengths ds arrived = map (λ (d : Delivered). d.length) ds ≡ map (λ (a : Arrival). a.size) arrived

abbrev pub carried_digest : (ℕ → ℕ → Option (List ℕ)) → Arrival → Option (List ℕ)
carried_digest c a = option_map sha256 (c a.task a.file)

abbrev pub AreDigests : (ℕ → ℕ → Option (List ℕ)) → List Delivered → List Arrival → Type 0
AreDigests c ds arrived = map (λ (d : Delivered). Some d.digest) ds ≡ map (carried_digest c) arrived

-- some bytes have this length and this digest
abbrev pub IsDigestOf : ℕ → List ℕ → Type 0
IsDigestOf n digest = ∥ ((bytes : List ℕ) × (length bytes ≡ n) × (sha256 bytes ≡ digest)) ∥₁

-- told or not, each delivery has the length and the digest of some bytes
abbrev pub AreOfBytes : List Delivered → Type 0
AreOfBytes ds = All (λ (d : Delivered). IsDigestOf d.length d.digest) ds
