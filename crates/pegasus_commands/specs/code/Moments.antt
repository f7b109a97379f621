-- Beside `specs/Moments.antt`: what the code's own contracts say.
use Rattle.outside.specs.declared.docs.Docs as docs
use Rattle.plan_run.specs.Moments.{MemberMoment, WorkMoment}
use Rattle.pegasus_commands.specs.Moments.{DocsMoment}

-- the moment of these objects, by their bound's ghost members
abbrev pub docs_moment : {D : Type 0} → docs.Ghosts D → D → DocsMoment
docs_moment g d = record { told = g.told d; counts = g.counts d }

-- a moment of the work, with this first member of the crew
abbrev pub with_first : WorkMoment → MemberMoment → WorkMoment
with_first m x = record { told = m.told; counts = m.counts; tool = x.faults; runs = x.runs; entered = x.told }
