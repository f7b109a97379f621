-- What a yard keeps.
use Rattle.std.specs.Prelude.{◌≡◌, ℕ, ◌<◌, true, false, List, ◌++◌, length, map, Option, Some, option_map, IfSome}
use Rattle.std.specs.List.{list_any}
use Rattle.std.specs.FinMap as files
use Rattle.values.specs.code.SiteMap.{pair_at}
use Rattle.values.specs.Apply.{Apply}
use Rattle.outside.specs.code.Store.{Change, changed_by, operation}
use Rattle.outside.specs.declared.counts.Counts.{Counts}
use Rattle.outside.specs.declared.store.Store.{Store}
use Rattle.plan_core.specs.declared.plan.Plan.{Plan}
use Rattle.plan_core.specs.Numbers.{has}
use Rattle.plan_core.specs.Words.{count_pairs, delivers, writes}
use Rattle.plan_core.specs.Names.{file_name, pair_file, pair_file_name, pair_site_name}
use Rattle.storage_simulation.specs.declared.standing.Held.{Held}
use Rattle.storage_simulation.specs.declared.standing.Held.TheVariants.{Stored}
use Rattle.run_record.specs.Events.{Event}
use Rattle.lease_rules.specs.code.Reading.{ends}
use Rattle.lease_rules.specs.State.{now}
use Rattle.site_yard.specs.Changes.{carries}
use Rattle.site_yard.specs.code.Changes.{changes}
use Rattle.site_yard.specs.code.Failures.{AreCounted}
use Rattle.site_yard.specs.code.Places.{is_delivered, is_swept}
use Rattle.site_yard.specs.Trace.{trace_of}
use Rattle.site_yard.specs.code.Truthful.{Truthful}

-- the record is Truthful over the replicas of the store
abbrev pub IsTruthful : Apply → Plan → Store → List Event → Type 0
IsTruthful apply p marked r = Truthful apply (λ pfn. files.get marked.replicas pfn) p
    (carries apply p marked) r

-- The premise on the entries with which a yard was opened: they are Truthful, and the store as it was then holds what is
-- carried for all that they store and have delivered. Of no entries it asks nothing.
pub record IsOpening (apply : Apply) (p : Plan) (first : List Event) (marked : Store) : Type 0 where
  pub truthful : IsTruthful apply p marked first
  pub stored : (t q : ℕ) → has (writes p t) q ≡ true → list_any (ends t) first ≡ true
      → is_swept p first q ≡ false
      → pair_at marked.scratch (pair_site_name p q) (pair_file_name p q)
      ≡ carries apply p marked t (pair_file p q)
  pub delivered : (t f : ℕ) → delivers p t f ≡ true → is_delivered p first f ≡ true
      → files.get marked.delivered (file_name p f) ≡ carries apply p marked t f

-- The store is the marked one with changes, whose operations are those of the entries since the opening; under the
-- premise they are the changes of these entries.
pub record HasBecome (apply : Apply) (p : Plan) (first r : List Event) (marked s : Store) : Type 0 where
  pub made : List Change
  pub is : s ≡ changed_by marked made
  pub operations : map operation made ≡ trace_of p r
  pub are : IsOpening apply p first marked → made ≡ changes p (carries apply p marked) r

-- Each pair that is stored stands in the store at its recorded size.
abbrev pub HoldsSizes : Plan → (ℕ → Held) → Store → Type 0
HoldsSizes p held s = (q n : ℕ) → q < count_pairs p → held q ≡ Stored n
    → option_map length (pair_at s.scratch (pair_site_name p q) (pair_file_name p q)) ≡ Some n

-- `first` are the entries of the opening, `r` those since. A loan that is out is no part of it.
pub record IsKept (apply : Apply) (p : Plan) (order : List ℕ) (first r : List Event) (told : Option Store)
    (marked : Store) (faults misses : ℕ) (counts : Counts) : Type 0 where
  pub become : IfSome told (HasBecome apply p first r marked)
  pub truthful : IsOpening apply p first marked → IfSome told (λ s. IsTruthful apply p marked (first ++ r))
  pub sized : IfSome told (HoldsSizes p (now p order (first ++ r)).held)
  pub counted : AreCounted told faults misses counts r
