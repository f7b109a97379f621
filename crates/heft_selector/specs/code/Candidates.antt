-- Beside `specs/Candidates.antt`: what the code's own contracts say.
use Rattle.std.specs.Prelude.{◌≡◌, ℕ, ◌<◌, Bool, true, false, [], is_ok, List, length, slice_get, Vec, Some, Result, Ok, Err}
use Rattle.std.specs.declared.alloc.Global.{Global}
use Rattle.values.specs.declared.select_fault.SelectFault.{SelectFault}
use Rattle.values.specs.declared.select_fault.SelectFault.TheVariants.{NoSite, NoTransformation, Memory}
use Rattle.workflow_core.specs.declared.workflow.Job.{Job}
use Rattle.digraph.specs.code.Adjacency.{lists_of}
use Rattle.digraph.specs.Adjacency.{neighbours}
use Rattle.dependency_graph.specs.Levels.{is_kept}
use Rattle.site_selector.specs.code.Offers.{Offered}
use Rattle.site_selector.specs.code.Candidates.{candidates_of, AreFound}
use Rattle.heft_selector.specs.Candidates.{Offering}

-- the job of number a is j, and it is kept
abbrev pub IsKeptJob : Offering → ℕ → Job → Type 0
IsKeptJob x a j = (is_kept x.kept a ≡ true) × (slice_get x.jobs a ≡ Some j)

abbrev pub found : Offering → ℕ → Job → Result (List ℕ) SelectFault
found x a j = candidates_of x.execute x.entries a j

-- each of the first n jobs that is kept has its candidates beside it
pub record AreOffered (x : Offering) (lists : List (List ℕ)) (n : ℕ) : Type 0 where
  pub long : length lists ≡ n
  pub each : (a : ℕ) (j : Job) → a < n → IsKeptJob x a j → found x a j ≡ Ok (neighbours lists a)

-- the fault is that of a kept job, and no kept job of a lesser number has one
pub record IsFirstFault (x : Offering) (f : SelectFault) : Type 0 where
  pub number : ℕ
  pub job : Job
  pub kept : IsKeptJob x number job
  pub fault : found x number job ≡ Err f
  pub first : (b : ℕ) (j : Job) → IsKeptJob x b j → b < number → is_ok (found x b j) ≡ true

-- The candidates of the kept jobs, or the first fault. Want of memory is free.
abbrev pub FindsAll : Offering → Result (Vec (Vec ℕ Global) Global) SelectFault → Type 0
FindsAll x (Ok v) = AreOffered x (lists_of v.items) (length x.jobs)
FindsAll x (Err Memory) = Unit {0}
FindsAll x (Err (NoSite a name)) = IsFirstFault x (NoSite a name)
FindsAll x (Err (NoTransformation a)) = IsFirstFault x (NoTransformation a)

-- of a kept job what is found, of a dropped one nothing
abbrev pub FindsOne : Offered → Bool → ℕ → Job → Result (Vec ℕ Global) SelectFault → Type 0
FindsOne o true a j r = AreFound (candidates_of o.execute o.entries a j) r
FindsOne o false a j (Ok v) = v.items ≡ []
FindsOne o false a j (Err f) = ⊥
