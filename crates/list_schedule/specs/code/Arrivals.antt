-- The latest arrival at each site, by the latest from one site and the latest from the others.
use Rattle.std.specs.Prelude.{◌≡◌, ℕ, ◌+◌, ◌<◌, ◌≤◌, ◌&&◌, not, Bool, max, if◌then◌else◌, List, [], ◌∷◌, get_or, slice_index_or, Option, None}
use Rattle.values.specs.declared.numbers.JobId.{JobId}
use Rattle.values.specs.declared.numbers.SiteId.{SiteId}
use Rattle.dependency_graph.specs.Levels.{is_kept}
use Rattle.list_schedule.specs.declared.arrivals.Latest.{Latest}
use Rattle.list_schedule.specs.declared.choice.Slot.{Slot}
use Rattle.list_schedule.specs.Schedule.{is_site}

-- the latest from any other site than s
abbrev pub latest_at : Latest → ℕ → ℕ
latest_at x s = if is_site s x.site then x.second else x.first

-- what an arrival adds at site s, if it counts and comes from another site
abbrev pub counted : Bool → Option SiteId → ℕ → ℕ → ℕ
counted k site v s = if k && not (is_site s site) then v else 0

abbrev pub site_of : List (Option SiteId) → ℕ → Option SiteId
site_of sites p = slice_index_or sites p None

abbrev pub finish_of : List ℕ → ℕ → ℕ
finish_of finishes p = slice_index_or finishes p 0

-- the latest of the kept among some jobs that don't run at s, each with the move beside it
abbrev pub elsewhere : List Bool → List (Option SiteId) → List ℕ → ℕ → List JobId → List ℕ → ℕ
elsewhere kept sites finishes s [] ms = 0
elsewhere kept sites finishes s (p ∷ ps) [] = 0
elsewhere kept sites finishes s (p ∷ ps) (m ∷ ms) =
    max (counted (is_kept kept p.0) (site_of sites p.0) (finish_of finishes p.0 + m) s)
    (elsewhere kept sites finishes s ps ms)

-- when a job can begin at site s, by when the sites are free and by its latest arrivals
abbrev pub start_at : List ℕ → Latest → ℕ → ℕ
start_at free x s = max (slice_index_or free s 0) (latest_at x s)

-- when it then ends, at the site in place i of a list, of which the times stand beside it
abbrev pub finish_at : List ℕ → List ℕ → List ℕ → Latest → ℕ → ℕ
finish_at candidates times free x i = start_at free x (get_or candidates i 0) + get_or times i 0

-- the first of the sites before place n with the least finish
pub record IsEarliest (candidates times free : List ℕ) (x : Latest) (slot : Slot)
    (n : ℕ) : Type 0 where
  pub choice : ℕ
  pub among : choice < n
  pub site : slot.site ≡ get_or candidates choice 0
  pub start : slot.start ≡ start_at free x (get_or candidates choice 0)
  pub finish : slot.finish ≡ finish_at candidates times free x choice
  pub least : (i : ℕ) → i < n → slot.finish ≤ finish_at candidates times free x i
  pub first : (i : ℕ) → i < choice → slot.finish < finish_at candidates times free x i
