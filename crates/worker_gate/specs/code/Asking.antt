-- For what a worker's gate was asked, as the worker's own entries say.
use Rattle.std.specs.Prelude.{◌≡◌, ◌⊎◌, ℕ, ◌<◌, List, [], ◌∷◌, ◌++◌, length, get_or}
use Rattle.run_record.specs.declared.entry.Cause.{Cause}
use Rattle.run_record.specs.declared.entry.Cause.TheVariants.{Checksum, Oversize, Declined, ToolFailed}
use Rattle.run_record.specs.Events.{Event, Arrive, End, Fail, Again}
use Rattle.lease_rules.specs.code.Owning.{entries_by}

-- What only the filling of a task's drafts can find was found after the gate was asked, once. Any other cause may have
-- been found before that too, so the gate was asked once at most.
abbrev pub IsAskedAt : ℕ → Cause → List ℕ → Type 0
IsAskedAt t (Checksum digest) ts = ts ≡ t ∷ []
IsAskedAt t (Oversize j f n) ts = ts ≡ t ∷ []
IsAskedAt t (Declined j) ts = ts ≡ t ∷ []
IsAskedAt t (ToolFailed j) ts = ts ≡ t ∷ []
IsAskedAt t _ ts = (ts ≡ []) ⊎ (ts ≡ t ∷ [])

-- For the task of an Arrive or an End the gate was asked once, and for a grant or a sweep it wasn't.
abbrev pub IsAskedBy : Event → List ℕ → Type 0
IsAskedBy (Arrive w t n) ts = ts ≡ t ∷ []
IsAskedBy (End w t ns) ts = ts ≡ t ∷ []
IsAskedBy (Fail w t cause ns) ts = IsAskedAt t cause ts
IsAskedBy (Again w t cause ns) ts = IsAskedAt t cause ts
IsAskedBy _ ts = ts ≡ []

-- entry by entry, in their order
abbrev pub AreAskedBy : List Event → List ℕ → Type 0
AreAskedBy [] ts = ts ≡ []
AreAskedBy (e ∷ r) ts = (first : List ℕ) × (rest : List ℕ) × IsAskedBy e first × AreAskedBy r rest
    × (ts ≡ first ++ rest)

-- A gate that had been asked for these tasks was then asked for these, by entries.
pub record IsAskedFor (r : List Event) (earlier later : List ℕ) : Type 0 where
  pub asked : List ℕ
  pub is : later ≡ earlier ++ asked
  pub are : AreAskedBy r asked

-- the same by what was added to a worker's own entries
pub record AsksOwn (mine after : List Event) (earlier later : List ℕ) : Type 0 where
  pub added : List Event
  pub is : after ≡ mine ++ added
  pub asked : IsAskedFor added earlier later

-- Each worker's gate was asked as that worker's entries say: what it was asked for before and after, member by member.
pub record AreGatesAsked (r : List Event) (before after : List (List ℕ)) : Type 0 where
  pub each : (k : ℕ) → k < length before
      → IsAskedFor (entries_by k r) (get_or before k []) (get_or after k [])
