-- What a store holds, and what changes it.
use Rattle.std.specs.Prelude.{ℕ, List, [], ◌∷◌, ◌++◌, length}
use Rattle.std.specs.FinMap as map
use Rattle.values.specs.code.SiteMap.{put_pair, take_pair}
use Rattle.outside.specs.declared.operation.Operation.{Operation}
use Rattle.outside.specs.declared.operation.Operation.TheVariants.{Publish, Deliver, Remove}
use Rattle.outside.specs.declared.store.Store.{Store}

-- nothing at all
abbrev pub blank : Store
blank = record { replicas = map.empty; scratch = map.empty; delivered = map.empty; trace = [] }

-- a change of a store: a file published at a site, delivered, or removed from a site
pub data Change : Type 0 where
  Publishes : (site name bytes : List ℕ) → Change
  Delivers : (name bytes : List ℕ) → Change
  Removes : (site name : List ℕ) → Change

-- the change as it stands in a trace
abbrev pub operation : Change → Operation
operation (Publishes site name bytes) = Publish site name (length bytes)
operation (Delivers name bytes) = Deliver name (length bytes)
operation (Removes site name) = Remove site name

-- the store after a change
abbrev pub changed : Store → Change → Store
changed s (Publishes site name bytes) = record s {
  scratch = put_pair s.scratch site name bytes;
  trace = s.trace ++ Publish site name (length bytes) ∷ [];
}
changed s (Delivers name bytes) = record s {
  delivered = map.insert s.delivered name bytes;
  trace = s.trace ++ Deliver name (length bytes) ∷ [];
}
changed s (Removes site name) = record s {
  scratch = take_pair s.scratch site name;
  trace = s.trace ++ Remove site name ∷ [];
}

-- the store after changes, in order
abbrev pub changed_by : Store → List Change → Store
changed_by s [] = s
changed_by s (c ∷ cs) = changed_by (changed s c) cs
