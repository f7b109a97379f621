-- `produce`: plans, and runs the plan with one worker, as `alone` does. Where all is done it prints the replica catalogue
-- of what was delivered, and nothing else.
use Rattle.std.specs.Prelude.{◌≡◌, ◌⊎◌, ℕ, ◌<◌, true, List, length, Some, None, Ok, Err}
use Rattle.std.specs.List.{All}
use Rattle.plan_core.specs.declared.plan.Plan.{Plan}
use Rattle.planner.specs.Deliveries.{IsRequested}
use Rattle.planner.specs.declared.inputs.Survey.{Survey}
use Rattle.planner.specs.declared.surveyed.Surveyed.{Surveyed}
use Rattle.site_yard.specs.declared.delivered.Delivered.{Delivered}
use Rattle.replica_writer.specs.Law.{AreReadAs, KeepsNothing}
use Rattle.replica_writer.specs.Writer.{catalogue_line, catalogue_says, is_flagged}
use Rattle.plan_run.specs.Moments.{Tools, Work}
use Rattle.plan_run.specs.code.Moments.{first_tool}
use Rattle.pegasus_commands.specs.declared.fault.CallFault.TheVariants.{Memory}
use Rattle.pegasus_commands.specs.code.Commands.Alone.{HasRunFirst}
use Rattle.pegasus_commands.specs.code.CommandSpec.{CommandSpec}
use Rattle.pegasus_commands.specs.code.Fault.{Answer, done, not_for}
use Rattle.pegasus_commands.specs.code.PlanRun.{CanRun, IsUnrun}
use Rattle.pegasus_commands.specs.code.Survey.{over_survey}

-- each requested file is to be registered
abbrev pub AreFlagged : Survey → Plan → Type 0
AreFlagged s p = (f : ℕ) → IsRequested s f → is_flagged p f ≡ true

-- The line is the catalogue of these deliveries, and is read as exactly those with their flag, each at its place with its
-- digest; and where each requested file has its flag, planning with it keeps no job.
pub record IsCatalogue (s : Survey) (p : Plan) (ds : List Delivered) (text : List ℕ) : Type 0 where
  pub text_is : text ≡ catalogue_line p ds
  pub reads_back : AreReadAs text p ds
  pub keeps_nothing : AreFlagged s p → KeepsNothing s.workflow (catalogue_says p ds).entries

-- What is told of a run that itself tells `said` and answers `ran`: of one that is done the catalogue of its deliveries, of
-- one that isn't the same. At want of memory nothing is written, so the text is free.
abbrev pub Catalogues : Survey → Plan → List Delivered → List ℕ → Answer → List ℕ → Answer → Type 0
Catalogues s p ds said ran text (Ok None) = (ran ≡ done) × IsCatalogue s p ds text
Catalogues s p ds said ran text (Ok (Some given)) = ⊥
Catalogues s p ds said ran text (Err Memory) = Unit {0}
Catalogues s p ds said ran text (Err fault) = (ran ≡ not_for fault) × (text ≡ said)

-- A plan was run by the first member of the crew, and this is told of it.
pub record HasProduced (w : Work) (s : Surveyed) (text : List ℕ) (answer : Answer) : Type 0 where
  pub said : List ℕ
  pub ran : Answer
  pub run : HasRunFirst w s said ran
  pub says : Catalogues s.survey run.planned.plan run.planned.report.delivered said ran text answer

abbrev pub Produces : Work → Tools → Surveyed → List ℕ → Answer → Type 0
Produces w t s text answer = IsUnrun w (first_tool w) s text answer ⊎ ∥ HasProduced w s text answer ∥₁

abbrev pub produce : List ℕ → CommandSpec
produce name = over_survey name Produces CanRun

-- ---- parts of what is told

-- the files of a survey have names
abbrev pub AreFilesNamed : Survey → Type 0
AreFilesNamed s = All (λ (name : List ℕ). 0 < length name) s.workflow.files

-- the line of a catalogue, and what it is read as
pub record IsWritten (p : Plan) (ds : List Delivered) (text : List ℕ) : Type 0 where
  pub text_is : text ≡ catalogue_line p ds
  pub reads_back : AreReadAs text p ds

-- that, or memory ran out
abbrev pub Writes : Plan → List Delivered → List ℕ → Answer → Type 0
Writes p ds text (Ok None) = IsWritten p ds text
Writes p ds text (Err Memory) = Unit {0}
Writes p ds text answer = ⊥

-- what is told of a run by how it ended
abbrev pub TellsRun : Plan → List Delivered → List ℕ → Answer → List ℕ → Answer → Type 0
TellsRun p ds said (Ok given) text answer = Writes p ds text answer
TellsRun p ds said (Err fault) text answer = (answer ≡ not_for fault) × (text ≡ said)
