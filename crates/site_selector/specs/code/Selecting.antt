-- Beside `specs/Selecting.antt`: what the code's own contracts say.
use Rattle.std.specs.Prelude.{◌≡◌, ℕ, true, is_ok, Vec, Option, Result, Ok, Err}
use Rattle.std.specs.declared.alloc.Global.{Global}
use Rattle.values.specs.declared.numbers.SiteId.{SiteId}
use Rattle.values.specs.declared.select_fault.SelectFault.{SelectFault}
use Rattle.values.specs.declared.select_fault.SelectFault.TheVariants.{NoSite, NoTransformation, Memory}
use Rattle.workflow_core.specs.declared.workflow.Job.{Job}
use Rattle.dependency_graph.specs.Ranking.{comes_before}
use Rattle.site_selector.specs.Selecting.{Selection, IsKeptJob, answer_of, IsSelected}

-- the fault is that of a kept job, and no kept job before it in order has one
pub record IsFirstFault (c : Selection) (e : SelectFault) : Type 0 where
  pub number : ℕ
  pub job : Job
  pub kept : IsKeptJob c number job
  pub fault : answer_of c number job ≡ Err e
  pub first : (b : ℕ) (j : Job) → IsKeptJob c b j → comes_before c.levels b number ≡ true
      → is_ok (answer_of c b j) ≡ true

-- The sites of the kept jobs, or the first fault. Want of memory is free.
abbrev pub Selects : Selection → Result (Vec (Option SiteId) Global) SelectFault → Type 0
Selects c (Ok v) = IsSelected c v.items
Selects c (Err Memory) = Unit {0}
Selects c (Err (NoSite a name)) = IsFirstFault c (NoSite a name)
Selects c (Err (NoTransformation a)) = IsFirstFault c (NoTransformation a)
