-- The sites among which a job's turn chooses, and its choice.
use Rattle.std.specs.Prelude.{ℕ, suc, ◌%◌, ◌&&◌, Bool, true, if◌then◌else◌, List, [], ◌∷◌, length, get_or, Option, Some, None, Result, Ok, Err}
use Rattle.std.specs.List.{list_any}
use Rattle.std.specs.Str.{bytes_eq}
use Rattle.values.specs.Numbers.{site_id}
use Rattle.values.specs.declared.numbers.JobId.{JobId}
use Rattle.values.specs.declared.numbers.SiteId.{SiteId}
use Rattle.values.specs.declared.select_fault.SelectFault.{SelectFault}
use Rattle.values.specs.declared.select_fault.SelectFault.TheVariants.{NoSite, NoTransformation}
use Rattle.workflow_core.specs.declared.workflow.Job.{Job}
use Rattle.transformation_catalog.specs.declared.catalog.TransformationEntry.{TransformationEntry}
use Rattle.transformation_catalog.specs.declared.catalog.TransformationSite.{TransformationSite}
use Rattle.plan_request.specs.declared.request.Execution.{Execution}
use Rattle.site_selector.specs.Offers.{are_offered_at, sites_of}

abbrev pub job_id : ℕ → JobId
job_id a = record { 0 = a }

-- a job that is pinned runs at that site alone
abbrev pub is_allowed : Option (List ℕ) → List ℕ → Bool
is_allowed None name = true
is_allowed (Some pinned) name = bytes_eq pinned name

-- the site has the transformation, and the job is pinned to no other
abbrev pub is_candidate : List TransformationSite → Option (List ℕ) → Execution → Bool
is_candidate sites pinned e = are_offered_at sites e.site && is_allowed pinned e.site

-- of execution sites, the first of which has number s, the candidates
abbrev pub candidates_from : (Execution → Bool) → ℕ → List Execution → List ℕ
candidates_from test s [] = []
candidates_from test s (e ∷ es) = if test e then s ∷ candidates_from test (suc s) es
    else candidates_from test (suc s) es

abbrev pub candidates : List Execution → List TransformationSite → Option (List ℕ) → List ℕ
candidates execute sites pinned = candidates_from (is_candidate sites pinned) 0 execute

abbrev pub is_named : List ℕ → Execution → Bool
is_named name e = bytes_eq name e.site

-- the pinned name where it is no execution site
abbrev pub unknown_site : List Execution → Option (List ℕ) → Option (List ℕ)
unknown_site execute None = None
unknown_site execute (Some pinned) = if list_any (is_named pinned) execute then None else Some pinned

-- the turn goes round the candidates
abbrev pub round_robin_site : ℕ → ℕ → List ℕ → Result SiteId SelectFault
round_robin_site a turn [] = Err (NoTransformation (job_id a))
round_robin_site a turn (s ∷ ss) = Ok (site_id (get_or (s ∷ ss) (turn % length (s ∷ ss)) 0))

abbrev pub chosen_unless : ℕ → ℕ → Option (List ℕ) → List ℕ → Result SiteId SelectFault
chosen_unless a turn (Some name) ss = Err (NoSite (job_id a) name)
chosen_unless a turn None ss = round_robin_site a turn ss

-- the site of job a at this turn, or why it has none
abbrev pub selected_site : List Execution → List TransformationEntry → ℕ → ℕ → Job → Result SiteId SelectFault
selected_site execute entries turn a j = chosen_unless a turn (unknown_site execute j.pinned)
    (candidates execute (sites_of entries j.transformation) j.pinned)
