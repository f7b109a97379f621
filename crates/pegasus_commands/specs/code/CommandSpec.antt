-- What the contract of a command says.
use Rattle.std.specs.Prelude.{◌≡◌, ◌⊎◌, ℕ, List, [], Option, Result, Ok, Err}
use Rattle.values.specs.FileMap.{Files}
use Rattle.outside.specs.code.Counts.{Rose}
use Rattle.plan_run.specs.Moments.{Tools, Work}
use Rattle.plan_run.specs.code.Moments.{count_of}
use Rattle.pegasus_commands.specs.declared.fault.CallFault.{CallFault}
use Rattle.pegasus_commands.specs.code.Fault.{Answer, IsDoneOrMemory, not_for}
use Rattle.pegasus_commands.specs.Moments.{DocsMoment}

-- Each command states one, in its own file.
pub record CommandSpec : Type 1 where
  -- what it takes of its documents
  pub Inputs : Type 0
  -- what its documents give, or why they end it; each document that was asked for is in this course
  pub Comes : DocsMoment → DocsMoment → Result Inputs CallFault → Type 0
  -- when its work gives this answer, and what it leaves at the host, at the tools and in the text
  pub Works : Work → Tools → Inputs → List ℕ → Answer → Type 0
  -- where nothing but a fault that is counted, or want of memory, keeps it from Done
  pub CanFinish : Option Files → Work → Type 0

-- what a command meets: the documents, the host and the tools, before and after
pub record Doing : Type 0 where
  pub before : DocsMoment
  pub after : DocsMoment
  pub work : Work
  pub tools : Tools

abbrev pub doing : DocsMoment → DocsMoment → Work → Tools → Doing
doing before after work tools = record { before = before; after = after; work = work; tools = tools }

-- The documents ended the command, and nothing was done.
pub record IsStopped (k : CommandSpec) (d : Doing) (text : List ℕ) (answer : Answer) : Type 0 where
  pub fault : CallFault
  pub comes : k.Comes d.before d.after (Err fault)
  pub answers : answer ≡ not_for fault
  pub untouched : d.work.after ≡ d.work.before
  pub unused : d.tools.after ≡ d.tools.before
  pub no_text : text ≡ []

-- The documents let it go on, and it did its work.
pub record HasWorked (k : CommandSpec) (d : Doing) (text : List ℕ) (answer : Answer) : Type 0 where
  pub inputs : k.Inputs
  pub comes : k.Comes d.before d.after (Ok inputs)
  pub works : k.Works d.work d.tools inputs text answer

abbrev pub Does : CommandSpec → Doing → List ℕ → Answer → Type 0
Does k d text answer = IsStopped k d text answer ⊎ HasWorked k d text answer

-- of the crew no more may have changed than the first member's tool, and what its gate was told
abbrev pub OfFirst : Work → Tools → Type 0
OfFirst w t = w.after.tool ≡ w.before.tool → w.after.runs ≡ w.before.runs → w.after.entered ≡ w.before.entered
    → t.after ≡ t.before

-- no count of faults rose as it worked
pub record NoneRoseAtWork (w : Work) (t : Tools) : Type 0 where
  pub host : Rose w.before.counts.faults w.after.counts.faults → ⊥
  pub tool : Rose w.before.tool w.after.tool → ⊥
  pub tools : (k : ℕ) → Rose (count_of t.before k) (count_of t.after k) → ⊥

-- nor at the documents
pub record NoneRoseIn (d : Doing) : Type 0 where
  pub docs : Rose d.before.counts.faults d.after.counts.faults → ⊥
  pub work : NoneRoseAtWork d.work d.tools

-- what may finish does, where no count of faults rose, or memory runs out
abbrev pub Finishes : CommandSpec → Type 0
Finishes k = (d : Doing) (text : List ℕ) (answer : Answer) → Does k d text answer
    → k.CanFinish d.before.told d.work → NoneRoseIn d → IsDoneOrMemory answer
