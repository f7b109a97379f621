-- What the objects of a call show before and after it.
use Rattle.std.specs.Prelude.{ℕ, List, Option}
use Rattle.plan_run.specs.Moments.{Tools, Work}
use Rattle.pegasus_commands.specs.Moments.{DocsMoment}

-- the bytes written, where they are told, and how often the sink has failed
pub record SinkMoment : Type 0 where
  pub written : Option (List ℕ)
  pub faults : ℕ

-- what is asked: the words, and the documents before and after
pub record Asked : Type 0 where
  pub words : List (List ℕ)
  pub before : DocsMoment
  pub after : DocsMoment

-- where it is written
pub record Output : Type 0 where
  pub before : SinkMoment
  pub after : SinkMoment

-- a call: what it was asked, what its objects were before and after, and what it wrote
pub record Call : Type 0 where
  pub asked : Asked
  pub work : Work
  pub tools : Tools
  pub output : Output
