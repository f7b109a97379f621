-- What a task has outside the lock: a reading of each file that it reads, and a draft of each that it writes.
use Rattle.std.specs.Prelude.{◌≡◌, ℕ, ◌≤◌, List, [], ◌∷◌, map, length, Option, Some, None, option_map, is_some, IfSome}
use Rattle.std.specs.FinMap as files
use Rattle.sha2.specs.Sha256.{sha256}
use Rattle.values.specs.code.SiteMap.{pair_at}
use Rattle.values.specs.Apply.{Apply}
use Rattle.outside.specs.declared.store.Store.{Store}
use Rattle.outside.specs.code.Lending.{IsOpened, fresh}
use Rattle.outside.specs.code.Parts.{DraftState, Drafted, ReadState, part_faults}
use Rattle.outside.specs.declared.place.Place.{Place}
use Rattle.outside.specs.declared.place.Place.TheVariants.{Scratch, Delivery as Out}
use Rattle.plan_core.specs.declared.plan.Plan.{Plan}
use Rattle.plan_core.specs.declared.plan.Source.TheVariants.{Pfn}
use Rattle.plan_core.specs.declared.plan.Target.TheVariants.{Delivery}
use Rattle.plan_core.specs.declared.plan.TaskKind.{TaskKind}
use Rattle.plan_core.specs.declared.plan.TaskKind.TheVariants.{Transfer}
use Rattle.plan_core.specs.Words.{declared, kind, reads, writes}
use Rattle.plan_core.specs.Names.{file_name, pair_file, pair_file_name, pair_site_name}
use Rattle.plan_core.specs.code.Names.{content}
use Rattle.storage_simulation.specs.Goods.{is_delivery, or_zero}
use Rattle.run_record.specs.Events.{Event}
use Rattle.lease_rules.specs.code.Storing.{pair_limit}
use Rattle.site_yard.specs.Delivered.{IsDigestOf}
use Rattle.site_yard.specs.code.Kept.{IsOpening}
use Rattle.site_yard.specs.Changes.{carries}
use Rattle.site_yard.specs.code.Changes.{moved}
use Rattle.site_yard.specs.code.Truthful.{HasChecksum}

-- where a file is to stand, and its declared size
pub record Aim : Type 0 where
  pub place : Place
  pub file : ℕ
  pub limit : ℕ

abbrev pub pair_target : Plan → ℕ → Aim
pair_target p q = record {
  place = Scratch (pair_site_name p q) (pair_file_name p q);
  file = pair_file p q;
  limit = pair_limit p q;
}

abbrev pub delivery_target : Plan → ℕ → Aim
delivery_target p f = record { place = Out (file_name p f); file = f; limit = or_zero (declared p f) }

-- of a task in order: those of its writes; of a delivery the one of the delivery
abbrev pub targets_in : Plan → Option TaskKind → List ℕ → List Aim
targets_in p (Some (Transfer f from Delivery)) qs = delivery_target p f.0 ∷ []
targets_in p _ qs = map (pair_target p) qs

abbrev pub targets : Plan → ℕ → List Aim
targets p t = targets_in p (kind p t) (writes p t)

-- what stands at a pair's name
abbrev pub at_pair : Plan → Store → ℕ → Option (List ℕ)
at_pair p s q = pair_at s.scratch (pair_site_name p q) (pair_file_name p q)

-- readings that were just opened: of a Transfer from a pfn the one of the replica, else one of each pair that is read
abbrev pub AreOpened : Plan → List ℕ → Option Store → List ReadState → Type 0
AreOpened p [] told [] = Unit {0}
AreOpened p (q ∷ qs) told (s ∷ ss) = IsOpened (option_map (λ z. at_pair p z q) told) (pair_limit p q) s
    × AreOpened p qs told ss
AreOpened p _ told _ = ⊥

abbrev pub IsReplica : Plan → ℕ → List ℕ → Option Store → List ReadState → Type 0
IsReplica p f x told (s ∷ []) = IsOpened (option_map (λ z. files.get z.replicas x) told)
    (or_zero (declared p f)) s
IsReplica p f x told _ = ⊥

abbrev pub AreReadings : Plan → Option TaskKind → List ℕ → Option Store → List ReadState → Type 0
AreReadings p (Some (Transfer f (Pfn x) to)) qs told ss = IsReplica p f.0 x told ss
AreReadings p _ qs told ss = AreOpened p qs told ss

-- how many readings a task has
abbrev pub count_readings : Option TaskKind → List ℕ → ℕ
count_readings (Some (Transfer f (Pfn x) to)) qs = 1
count_readings _ qs = length qs

-- drafts that were just made
abbrev pub fresh_at : Option Store → Aim → DraftState
fresh_at told x = fresh told x.place x.limit

-- what a task reads: of a Transfer what it carries, else what the writers of its reads carry
abbrev pub inputs : Plan → (ℕ → ℕ → Option (List ℕ)) → ℕ → Option TaskKind → List ℕ → List (Option (List ℕ))
inputs p c t (Some (Transfer f from to)) qs = c t f.0 ∷ []
inputs p c t _ qs = map (content p c) qs

abbrev pub read_told : ReadState → Option (List ℕ)
read_told s = s.told

-- A loan that was just made. Under the premise on the opening its told readings hold what is carried.
pub record IsLent (apply : Apply) (p : Plan) (first : List Event) (marked : Store) (told : Option Store)
    (t : ℕ) (rs : List ReadState) (ds : List DraftState) : Type 0 where
  pub readings : AreReadings p (kind p t) (reads p t) told rs
  pub drafts : ds ≡ map (fresh_at told) (targets p t)
  pub carried : IsOpening apply p first marked
      → IfSome told (λ s. map read_told rs ≡ inputs p (carries apply p marked) t (kind p t) (reads p t))

-- A loan is the task's: one reading for each read and one draft for each write, in order; where the host tells, each draft
-- tells the place of its write.
abbrev pub IsDraftOf : Option Store → Aim → DraftState → Type 0
IsDraftOf None x d = d.told ≡ None
IsDraftOf (Some s) x d = (bytes : List ℕ) × (d.told ≡ Some (record { place = x.place; bytes = bytes }))
    × (d.size ≡ length bytes)

abbrev pub AreDrafts : Option Store → List Aim → List DraftState → Type 0
AreDrafts told [] [] = Unit {0}
AreDrafts told (x ∷ xs) (d ∷ ds) = IsDraftOf told x d × AreDrafts told xs ds
AreDrafts told _ _ = ⊥

-- a reading for each thing that the task reads, and a draft for each that it makes, empty or begun
pub record IsLoan (p : Plan) (told : Option Store) (t : ℕ) (rs : List ReadState)
    (ds : List DraftState) : Type 0 where
  pub readings : length rs ≡ count_readings (kind p t) (reads p t)
  pub drafts : AreDrafts told (targets p t) ds

-- the sizes are within the declared ones
abbrev pub AreSmall : List Aim → List ℕ → Type 0
AreSmall [] ns = Unit {0}
AreSmall (x ∷ xs) [] = Unit {0}
AreSmall (x ∷ xs) (n ∷ ns) = (n ≤ x.limit) × AreSmall xs ns

abbrev pub draft_bytes : DraftState → Option (List ℕ)
draft_bytes d = option_map (λ (x : Drafted). x.bytes) d.told

abbrev pub draft_size : DraftState → ℕ
draft_size d = d.size

-- drafts hold what the task carries, and a digest is that of it; of a Transfer from a pfn it has the registered checksum
pub record AreCarried (p : Plan) (c : ℕ → ℕ → Option (List ℕ)) (t : ℕ) (ds : List DraftState)
    (digest : Option (List ℕ)) : Type 0 where
  pub bytes : map draft_bytes ds ≡ map (λ (x : Aim). c t x.file) (targets p t)
  pub digest_is : IfSome digest (λ d. option_map sha256 (moved (c t) (kind p t)) ≡ Some d)
  pub sum : HasChecksum p (c t) (kind p t)

-- What may be settled: no call of a part has failed. The clause on what is carried stands under the premise on the opening.
pub record CanSettle (apply : Apply) (p : Plan) (first : List Event) (marked : Store) (told : Option Store)
    (t : ℕ) (rs : List ReadState) (ds : List DraftState) (sizes : List ℕ)
    (digest : Option (List ℕ)) : Type 0 where
  pub loan : IsLoan p told t rs ds
  pub whole : part_faults rs ds ≡ 0
  pub sizes_are : map draft_size ds ≡ sizes
  pub small : AreSmall (targets p t) sizes
  pub delivery : is_some digest ≡ is_delivery p t
  pub of_bytes : IfSome digest (λ d. (n : ℕ) × (sizes ≡ n ∷ []) × IsDigestOf n d)
  pub carried : IsOpening apply p first marked
      → IfSome told (λ s. AreCarried p (carries apply p marked) t ds digest)
