-- What stands on a board while jobs are placed.
use Rattle.std.specs.Prelude.{◌≡◌, ℕ, ◌<◌, ◌≤◌, Bool, true, Option, None, Some, List, length, take, get_or, slice_index_or, slice_set, replicate}
use Rattle.values.specs.declared.numbers.SiteId.{SiteId}
use Rattle.values.specs.declared.numbers.JobId.{JobId}
use Rattle.values.specs.Numbers.{site_id}
use Rattle.digraph.specs.Adjacency.{has_node}
use Rattle.dependency_graph.specs.Graph.{Links, numbers}
use Rattle.list_schedule.specs.declared.choice.Slot.{Slot}
use Rattle.list_schedule.specs.declared.board.Board.{Board}
use Rattle.list_schedule.specs.declared.heft.Heft.{Heft}
use Rattle.list_schedule.specs.code.Arrivals.{finish_of}
use Rattle.list_schedule.specs.Estimates.{Estimates}
use Rattle.list_schedule.specs.Schedule.{Schedule, runs_at, finish, free_after, IsPlaced}

abbrev pub no_site : Option SiteId
no_site = None

-- a schedule as it is seen
abbrev pub schedule_of : Heft → Schedule
schedule_of h =
    record {
      sites = h.sites.items;
      order = h.order.items;
      starts = h.starts.items;
      finishes = h.finishes.items;
    }

-- what a board says, with the order
abbrev pub schedule_at : Board → List JobId → Schedule
schedule_at b js =
    record {
      sites = b.sites.items;
      order = js;
      starts = b.starts.items;
      finishes = b.finishes.items;
    }

-- The first i jobs of an order are placed, and the sites are free after them.
pub record ArePlaced (g : Links) (kept : List Bool) (e : Estimates) (b : Board) (js : List JobId)
    (i : ℕ) : Type 0 where
  pub placed : (k : ℕ) → k < i
      → IsPlaced g kept e (schedule_at b js) (take k (numbers js)) (get_or (numbers js) k 0)
  pub free : (s : ℕ)
      → finish_of b.free.items s ≡ free_after (schedule_at b js) s 0 (take i (numbers js))
  pub past : (a s : ℕ) → has_node a (take i (numbers js)) ≡ true → runs_at (schedule_at b js) s a ≡ true
      → finish (schedule_at b js) a ≤ finish_of b.free.items s

-- nothing is said of a job
pub record IsUntouched (b : Board) (a : ℕ) : Type 0 where
  pub at : slice_index_or b.sites.items a None ≡ None
  pub begins : finish_of b.starts.items a ≡ 0
  pub ends : finish_of b.finishes.items a ≡ 0

-- nothing is placed
pub record IsEmpty (b : Board) (jobs count : ℕ) : Type 0 where
  pub sites : b.sites.items ≡ replicate jobs no_site
  pub starts : b.starts.items ≡ replicate jobs 0
  pub finishes : b.finishes.items ≡ replicate jobs 0
  pub free : b.free.items ≡ replicate count 0

-- a job was put into a slot
pub record IsPut (old new : Board) (a : ℕ) (slot : Slot) : Type 0 where
  pub sites : new.sites.items ≡ slice_set old.sites.items a (Some (site_id slot.site))
  pub starts : new.starts.items ≡ slice_set old.starts.items a slot.start
  pub finishes : new.finishes.items ≡ slice_set old.finishes.items a slot.finish
  pub free : new.free.items ≡ slice_set old.free.items slot.site slot.finish

-- finishes are small
abbrev pub AreSmall : Board → ℕ → Type 0
AreSmall b n = ((a : ℕ) → finish_of b.finishes.items a ≤ n)
    × ((s : ℕ) → finish_of b.free.items s ≤ n)

-- there is a site, a start and a finish for each of so many jobs
pub record IsLong (b : Board) (jobs : ℕ) : Type 0 where
  pub sites : length b.sites.items ≡ jobs
  pub starts : length b.starts.items ≡ jobs
  pub finishes : length b.finishes.items ≡ jobs
