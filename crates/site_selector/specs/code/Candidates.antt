-- Beside `specs/Candidates.antt`: what the code's own contracts say.
use Rattle.std.specs.Prelude.{◌≡◌, ℕ, suc, ◌&&◌, Bool, false, if◌then◌else◌, List, [], ◌∷◌, get_or, Vec, Option, Some, None, Result, Ok, Err}
use Rattle.std.specs.declared.alloc.Global.{Global}
use Rattle.values.specs.declared.numbers.SiteId.{SiteId}
use Rattle.values.specs.declared.select_fault.SelectFault.{SelectFault}
use Rattle.values.specs.declared.select_fault.SelectFault.TheVariants.{NoSite, NoTransformation, Memory}
use Rattle.workflow_core.specs.declared.workflow.Job.{Job}
use Rattle.transformation_catalog.specs.declared.catalog.TransformationEntry.{TransformationEntry}
use Rattle.plan_request.specs.declared.request.Execution.{Execution}
use Rattle.site_selector.specs.Offers.{sites_of}
use Rattle.site_selector.specs.Candidates.{job_id, is_allowed, candidates, unknown_site}

-- the same by flags, which tell of each site whether it has the transformation
abbrev pub listed_from : List Bool → Option (List ℕ) → ℕ → List Execution → List ℕ
listed_from flags pinned s [] = []
listed_from flags pinned s (e ∷ es) = if get_or flags s false && is_allowed pinned e.site
    then s ∷ listed_from flags pinned (suc s) es else listed_from flags pinned (suc s) es

-- One job's answer is the definition's. Want of memory is free.
abbrev pub IsAnswer : Result SiteId SelectFault → Result SiteId SelectFault → Type 0
IsAnswer answer (Ok s) = answer ≡ Ok s
IsAnswer answer (Err Memory) = Unit {0}
IsAnswer answer (Err (NoSite a name)) = answer ≡ Err (NoSite a name)
IsAnswer answer (Err (NoTransformation a)) = answer ≡ Err (NoTransformation a)

-- the candidates of job a, or why it has none
abbrev pub offered : ℕ → List ℕ → Result (List ℕ) SelectFault
offered a [] = Err (NoTransformation (job_id a))
offered a (s ∷ ss) = Ok (s ∷ ss)

-- the same, unless an unknown site is named
abbrev pub offered_unless : ℕ → Option (List ℕ) → List ℕ → Result (List ℕ) SelectFault
offered_unless a (Some name) ss = Err (NoSite (job_id a) name)
offered_unless a None ss = offered a ss

-- the candidates of job a, or its fault
abbrev pub candidates_of : List Execution → List TransformationEntry → ℕ → Job
    → Result (List ℕ) SelectFault
candidates_of execute entries a j =
    offered_unless a (unknown_site execute j.pinned)
    (candidates execute (sites_of entries j.transformation) j.pinned)

-- One job's candidates are the definition's. Want of memory is free.
abbrev pub AreFound : Result (List ℕ) SelectFault → Result (Vec ℕ Global) SelectFault
    → Type 0
AreFound answer (Ok v) = answer ≡ Ok v.items
AreFound answer (Err Memory) = Unit {0}
AreFound answer (Err (NoSite a name)) = answer ≡ Err (NoSite a name)
AreFound answer (Err (NoTransformation a)) = answer ≡ Err (NoTransformation a)
