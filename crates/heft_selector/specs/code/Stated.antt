-- A table of the stated seconds, by the numbers of two names.
use Rattle.std.specs.Prelude.{◌≡◌, ℕ, ◌+◌, ◌*◌, ◌<◌, ◌^◌, ◌&&◌, ◌==◌, Bool, true, max, if◌then◌else◌, List, [], ◌∷◌, length, map, get_or, slice_index_or}
use Rattle.workflow_core.specs.declared.workflow.Job.{Job}
use Rattle.workflow_core.specs.Names.{number}
use Rattle.plan_request.specs.declared.request.Execution.{Execution}
use Rattle.plan_request.specs.declared.request.Runtime.{Runtime}
use Rattle.digraph.specs.Adjacency.{neighbours}
use Rattle.dependency_graph.specs.Levels.{is_kept}
use Rattle.heft_selector.specs.Costs.{is_entry_for, transformation_name, seconds}

abbrev pub site_name : Execution → List ℕ
site_name e = e.site

-- the seconds of the first entry for a transformation and a site, else 0
abbrev pub stated : List Runtime → List ℕ → List ℕ → ℕ
stated [] transformation site = 0
stated (t ∷ ts) transformation site =
    if is_entry_for transformation site t then t.seconds else stated ts transformation site

-- the place of a pair of names, in rows for the first
abbrev pub cell : List (List ℕ) → List (List ℕ) → List ℕ → List ℕ → ℕ
cell rows columns n m = number rows n * length columns + number columns m

-- what stands at place i of a table once a number is written at a place where none stood
abbrev pub noted : List ℕ → ℕ → ℕ → ℕ → ℕ
noted table place number i =
    if (place == i) && (get_or table i 0 == 0) then number else get_or table i 0

-- The table says of each pair of known names what these entries state.
pub record IsTable (ts : List Runtime) (rows columns : List (List ℕ))
    (table : List ℕ) : Type 0 where
  pub long : length table ≡ length rows * length columns
  pub each : (n m : List ℕ) → number rows n < length rows → number columns m < length columns
      → get_or table (cell rows columns n m) 0 ≡ stated ts n m

-- the seconds that a table says for two names, 1 where it says none
abbrev pub said : List (List ℕ) → List (List ℕ) → List ℕ → List ℕ → List ℕ → ℕ
said rows columns table n m = max (get_or table (cell rows columns n m) 0) 1

-- the name of the execution site with this number
abbrev pub site_name_at : List Execution → ℕ → List ℕ
site_name_at execute s = slice_index_or (map site_name execute) s []

-- what a table says for a name and each of some sites
abbrev pub said_at : List (List ℕ) → List (List ℕ) → List ℕ → List ℕ → List Execution → List ℕ
    → List ℕ
said_at rows columns table n execute sites =
    map (λ s. said rows columns table n (site_name_at execute s)) sites

-- how long jobs of a transformation run at some sites
abbrev pub times_of : List Runtime → List Execution → List ℕ → List ℕ → List ℕ
times_of runtimes execute name sites =
    map (λ s. seconds runtimes name (site_name_at execute s)) sites

-- beside the candidates of each of the first n jobs that is kept its times
pub record AreTimes (jobs : List Job) (kept : List Bool) (execute : List Execution)
    (runtimes : List Runtime) (candidates times : List (List ℕ)) (n : ℕ) : Type 0 where
  pub long : length times ≡ n
  pub each : (a : ℕ) (j : Job) → a < n → is_kept kept a ≡ true → slice_index_or jobs a j ≡ j
      → neighbours times a ≡ times_of runtimes execute (transformation_name j) (neighbours candidates a)

-- The table is that of the entries, the names of its columns are those of the sites.
pub record IsClock (runtimes : List Runtime) (execute : List Execution)
    (rows columns : List (List ℕ)) (table : List ℕ) : Type 0 where
  pub entries : IsTable runtimes rows columns table
  pub fits : length rows * length columns < 2 ^ 64
  pub known : (s : ℕ) → s < length execute
      → number columns (site_name_at execute s) < length columns
