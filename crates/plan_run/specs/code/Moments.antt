-- Beside `specs/Moments.antt`: what the code's own contracts say.
use Rattle.std.specs.Prelude.{ℕ, Bool, List, [], ◌∷◌, map, Option, Some}
use Rattle.values.specs.Apply.{Apply}
use Rattle.outside.specs.declared.host.Host as host
use Rattle.outside.specs.declared.tool.Tool as tool
use Rattle.craft.specs.declared.crew.Crew.{Crew}
use Rattle.craft.specs.declared.gate.Gate as gate
use Rattle.plan_run.specs.Moments.{WorkMoment, Work, MemberMoment, Tools, gateless, shown_of}

-- the moment of a host, with the first member of the crew
abbrev pub work_moment : {H Reading Draft : Type 0} → host.Ghosts H Reading Draft → H → MemberMoment → WorkMoment
work_moment g h m = record { told = g.told h; counts = g.counts h; tool = m.faults; runs = m.runs; entered = m.told }

abbrev pub member_moment : {T G : Type 0} → tool.Ghosts T → gate.Ghosts G → Crew T G → MemberMoment
member_moment t g m = record {
  faults = t.faults m.tool;
  runs = t.runs m.tool;
  asked = Some (g.asked m.gate);
  told = g.told m.gate;
}

abbrev pub crew_moment : {T G : Type 0} → tool.Ghosts T → gate.Ghosts G → List (Crew T G) → List MemberMoment
crew_moment t g crew = map (member_moment t g) crew

-- its counts, the first member, and for what a member's gate was asked and what it was told
abbrev pub count_of : List MemberMoment → ℕ → ℕ
count_of ms k = (shown_of ms k).faults

abbrev pub runs_of : List MemberMoment → ℕ → ℕ
runs_of ms k = (shown_of ms k).runs

abbrev pub first_shown : List MemberMoment → MemberMoment
first_shown [] = gateless 0 0 []
first_shown (m ∷ ms) = m

abbrev pub asked_of : List MemberMoment → ℕ → Option (List ℕ)
asked_of ms k = (shown_of ms k).asked

abbrev pub working : Apply → (List ℕ → Bool) → WorkMoment → WorkMoment → Work
working apply known before after = record { apply = apply; known = known; before = before; after = after }

abbrev pub counting : List MemberMoment → List MemberMoment → Tools
counting before after = record { before = before; after = after }

-- those of a crew of its first member alone, which asks no gate
abbrev pub first_tool : Work → Tools
first_tool w = counting (gateless w.before.tool w.before.runs w.before.entered ∷ [])
    (gateless w.after.tool w.after.runs w.after.entered ∷ [])
