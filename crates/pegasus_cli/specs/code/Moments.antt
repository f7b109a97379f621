-- Beside `specs/Moments.antt`: what the code's own contracts say.
use Rattle.std.specs.Prelude.{ℕ, List}
use Rattle.outside.specs.declared.docs.Docs as docs
use Rattle.outside.specs.declared.host.Host as host
use Rattle.outside.specs.declared.sink.Sink as sink
use Rattle.outside.specs.declared.tool.Tool as tool
use Rattle.craft.specs.declared.crew.Crew.{Crew}
use Rattle.craft.specs.declared.gate.Gate as gate
use Rattle.plan_run.specs.Moments.{Tools, Work}
use Rattle.plan_run.specs.code.Moments.{counting, crew_moment, first_shown, work_moment, working}
use Rattle.pegasus_commands.specs.Moments.{DocsMoment}
use Rattle.pegasus_commands.specs.code.Moments.{docs_moment}
use Rattle.pegasus_cli.specs.Moments.{SinkMoment, Asked, Output, Call}

-- the moment of these objects, by their bound's ghost members
abbrev pub sink_moment : {K : Type 0} → sink.Ghosts K → K → SinkMoment
sink_moment g k = record { written = g.written k; faults = g.faults k }

-- a call, by its parts
abbrev pub asking : List (List ℕ) → DocsMoment → DocsMoment → Asked
asking words before after = record { words = words; before = before; after = after }

abbrev pub writing : SinkMoment → SinkMoment → Output
writing before after = record { before = before; after = after }

abbrev pub call : Asked → Work → Tools → Output → Call
call asked work tools output = record { asked = asked; work = work; tools = tools; output = output }

-- the objects of a call at one moment
pub record Objects (D K H T G : Type 0) : Type 0 where
  pub docs : D
  pub sink : K
  pub host : H
  pub crew : List (Crew T G)

abbrev pub objects : {D K H T G : Type 0} → D → K → H → List (Crew T G) → Objects D K H T G
objects docs sink host crew = record { docs = docs; sink = sink; host = host; crew = crew }

-- A call by its words, and by what its objects show before and after it. Callers see a word and not its parts.
unfoldable pub call_of : {D K H Reading Draft T G : Type 0} → docs.Ghosts D → sink.Ghosts K
    → host.Ghosts H Reading Draft → tool.Ghosts T → gate.Ghosts G → List (List ℕ) → Objects D K H T G
    → Objects D K H T G → Call
call_of d k h t g words old new =
    call (asking words (docs_moment d old.docs) (docs_moment d new.docs))
    (working t.apply t.known (work_moment h old.host (first_shown (crew_moment t g old.crew)))
    (work_moment h new.host (first_shown (crew_moment t g new.crew))))
    (counting (crew_moment t g old.crew) (crew_moment t g new.crew))
    (writing (sink_moment k old.sink) (sink_moment k new.sink))
