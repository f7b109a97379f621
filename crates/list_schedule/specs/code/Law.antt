-- What a schedule comes to.
use Rattle.std.specs.Prelude.{◌≡◌, ℕ, ◌+◌, ◌<◌, ◌≤◌, ◌⊎◌, if◌then◌else◌, Bool, true, false, eqb, List, length, take, get_or, Some}
use Rattle.values.specs.declared.numbers.SiteId.{SiteId}
use Rattle.digraph.specs.Adjacency.{has_node}
use Rattle.dependency_graph.specs.Graph.{Links, jobs_at, numbers}
use Rattle.dependency_graph.specs.Levels.{is_kept}
use Rattle.list_schedule.specs.Estimates.{Estimates}
use Rattle.list_schedule.specs.Schedule.{Schedule, site, start, finish, runs_at, earliest_finish, IsHeft}

-- a kept job begins once what it reads of its kept parents is at its site
abbrev pub StartsAfterParents : Type 0
StartsAfterParents = (g : Links) (kept : List Bool) (e : Estimates) (h : Schedule)
    → IsHeft g kept e h → (a p : ℕ) (s : SiteId) → is_kept kept a ≡ true → is_kept kept p ≡ true
    → has_node p (numbers (jobs_at g.parents a)) ≡ true → site h a ≡ Some s
    → finish h p + (if runs_at h s.0 p then 0 else e.move p a) ≤ start h a

-- a kept job runs at one of its candidates
abbrev pub RunsAtCandidate : Type 0
RunsAtCandidate = (g : Links) (kept : List Bool) (e : Estimates) (h : Schedule) → IsHeft g kept e h
    → (a : ℕ) → is_kept kept a ≡ true
    → (s : SiteId) × (site h a ≡ Some s) × (has_node s.0 (e.candidates a) ≡ true)

-- at no candidate would a job have finished earlier, after the jobs that were placed before it
abbrev pub FinishesFirst : Type 0
FinishesFirst = (g : Links) (kept : List Bool) (e : Estimates) (h : Schedule) → IsHeft g kept e h
    → (i s : ℕ) → i < length h.order → has_node s (e.candidates (get_or (numbers h.order) i 0)) ≡ true
    → finish h (get_or (numbers h.order) i 0)
    ≤ earliest_finish g kept e h (take i (numbers h.order)) (get_or (numbers h.order) i 0) s

-- of two kept jobs at one site one has ended before the other begins
abbrev pub NeverOverlaps : Type 0
NeverOverlaps = (g : Links) (kept : List Bool) (e : Estimates) (h : Schedule) → IsHeft g kept e h
    → (a b s : ℕ) → is_kept kept a ≡ true → is_kept kept b ≡ true → eqb a b ≡ false
    → runs_at h s a ≡ true → runs_at h s b ≡ true
    → (finish h a ≤ start h b) ⊎ (finish h b ≤ start h a)
