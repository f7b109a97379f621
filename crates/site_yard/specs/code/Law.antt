-- Beside `specs/Law.antt`: what the code's own contracts say.
use Rattle.std.specs.Prelude.{◌≡◌, ℕ, ◌<◌, ◌||◌, ◌++◌, Bool, true, false, List, length, Option, Some, None, is_some}
use Rattle.std.specs.FinMap as files
use Rattle.values.specs.code.SiteMap.{pair_at}
use Rattle.values.specs.Apply.{Apply}
use Rattle.outside.specs.declared.store.Store.{Store}
use Rattle.plan_core.specs.declared.plan.Plan.{Plan}
use Rattle.plan_core.specs.declared.plan.TaskKind.{TaskKind}
use Rattle.plan_core.specs.Carried.{Bytes, carried}
use Rattle.plan_core.specs.code.Carried.{IsCarrying}
use Rattle.plan_core.specs.Kinds.{reads_file, writes_file}
use Rattle.plan_core.specs.code.Numbers.{RisesFrom}
use Rattle.plan_core.specs.Numbers.{below, has}
use Rattle.plan_core.specs.code.Proper.{is_kind_in_range, is_parent}
use Rattle.plan_core.specs.Words.{cleans, count_pairs, is_clean, kind, reads, writes}
use Rattle.plan_core.specs.code.Words.{is_pair}
use Rattle.plan_core.specs.Names.{file_name, pair_file, pair_file_name, pair_site_name}
use Rattle.run_record.specs.Events.{Event}
use Rattle.lease_rules.specs.code.Law.{IsSoundState}
use Rattle.lease_rules.specs.Legal.{Legal}
use Rattle.lease_rules.specs.code.Reading.{IsRead}
use Rattle.lease_rules.specs.State.{now}
use Rattle.site_yard.specs.Changes.{carries}
use Rattle.site_yard.specs.code.Kept.{IsOpening, IsTruthful}
use Rattle.site_yard.specs.code.Places.{IsUndelivered, IsUntouched, is_delivered, is_published, is_swept}
use Rattle.site_yard.specs.Trace.{trace_of}
use Rattle.site_yard.specs.Law.{IsDeliveryOf}

-- the laws of a proper plan that the yard's proofs rest on
pub record HasPlanLaws (p : Plan) : Type 0 where
  pub rising : (n : ℕ) (test : ℕ → Bool) (xs : List ℕ) → RisesFrom 0 xs
      → ((x : ℕ) → has xs x ≡ true → (x < n) × (test x ≡ true))
      → ((x : ℕ) → x < n → test x ≡ true → has xs x ≡ true) → xs ≡ below n test
  pub once : (q r s f : ℕ) → is_pair p q s f ≡ true → is_pair p r s f ≡ true → q ≡ r
  pub in_range : (q s f : ℕ) → is_pair p q s f ≡ true → (s < length p.sites) × (f < length p.files)
  pub kinds : (t : ℕ) (k : TaskKind) → kind p t ≡ Some k → is_kind_in_range p k ≡ true
  pub lists_reads : (t q s f : ℕ) → is_pair p q s f ≡ true → has (reads p t) q ≡ reads_file p t s f
  pub lists_writes : (t q s f : ℕ) → is_pair p q s f ≡ true → has (writes p t) q ≡ writes_file p t s f
  pub listed : (t q : ℕ) → (has (reads p t) q || has (writes p t) q) ≡ true → q < count_pairs p
  pub writer : (q s f : ℕ) → is_pair p q s f ≡ true → (t : ℕ) × (writes_file p t s f ≡ true)
  pub one_writer : (t u s f : ℕ) → writes_file p t s f ≡ true → writes_file p u s f ≡ true → t ≡ u
  pub readers_after : (t u q : ℕ) → has (reads p t) q ≡ true → has (writes p u) q ≡ true
      → is_parent p u t ≡ true
  pub cleans_after : (t u q : ℕ) → cleans p t q ≡ true → (has (writes p u) q || has (reads p u) q) ≡ true
      → is_parent p u t ≡ true
  pub cleans_only : (t q : ℕ) → is_clean p t ≡ true → (has (writes p t) q || has (reads p t) q) ≡ false
  pub carrying : (apply : Apply) (told : Bytes → Option Bytes)
      → IsCarrying apply told p (carried apply told p)

-- What lease_book promises of the records of an order that fits from the start: the state says what the list says, and
-- is sound.
pub record HasRecordLaws (p : Plan) (order : List ℕ) : Type 0 where
  pub reads_so : (r : List Event) → Legal p order r → IsRead p r (now p order r)
  pub sound : (r : List Event) → Legal p order r → IsSoundState p (now p order r)

-- what the task that writes a pair carries for its file; what the task that delivers a file carries for it
abbrev pub IsPairOf : Plan → (ℕ → ℕ → Option (List ℕ)) → ℕ → Option (List ℕ) → Type 0
IsPairOf p c q x = (t : ℕ) × (has (writes p t) q ≡ true) × (x ≡ c t (pair_file p q)) × (is_some x ≡ true)

-- What a store shows of the entries since a yard's opening, where m is the store that was marked then, under the premise
-- on the entries before: the record is Truthful; a pair that was published since and not swept holds what its writer
-- carries, one that was swept since is gone; a file delivered since is what its delivery carries; every other name is as
-- it was marked.
pub record Holds (apply : Apply) (p : Plan) (first r : List Event) (m s : Store) : Type 0 where
  pub truthful : IsTruthful apply p m (first ++ r)
  pub published : (q : ℕ) → is_published p r q ≡ true → is_swept p r q ≡ false
      → IsPairOf p (carries apply p m) q (pair_at s.scratch (pair_site_name p q) (pair_file_name p q))
  pub swept : (q : ℕ) → is_swept p r q ≡ true
      → pair_at s.scratch (pair_site_name p q) (pair_file_name p q) ≡ None
  pub untouched : (site name : List ℕ) → IsUntouched p r site name
      → pair_at s.scratch site name ≡ pair_at m.scratch site name
  pub delivered : (f : ℕ) → is_delivered p r f ≡ true
      → IsDeliveryOf p (carries apply p m) f (files.get s.delivered (file_name p f))
  pub undelivered : (name : List ℕ) → IsUndelivered p r name
      → files.get s.delivered name ≡ files.get m.delivered name

-- and in any case: the replicas stay, and the operations of the entries since the opening follow the marked trace
pub record AgreesSince (apply : Apply) (p : Plan) (first r : List Event) (m s : Store) : Type 0 where
  pub replicas : s.replicas ≡ m.replicas
  pub trace : s.trace ≡ m.trace ++ trace_of p r
  pub holds : IsOpening apply p first m → Holds apply p first r m s
