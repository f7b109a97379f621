-- `ensemble`: plans and runs the joint of an ensemble's members, with one worker or with several. It prints the record of
-- the run and what was delivered: each file under its member's name.
use Rattle.std.specs.Prelude.{◌≡◌, ℕ, true, List, is_some}
use Rattle.std.specs.FinMap as files
use Rattle.outside.specs.declared.store.Store.{Store}
use Rattle.workflow_core.specs.Requested.{is_requested}
use Rattle.planner.specs.Meaning.{value_of}
use Rattle.planner.specs.declared.surveyed.Surveyed.{Surveyed}
use Rattle.ensemble.specs.Law.{AreHonestMembers, HasFile, name_of}
use Rattle.ensemble.specs.Prefix.{prefixed}
use Rattle.ensemble.specs.declared.member.Member.{Member}
use Rattle.plan_run.specs.Finishing.{replicas_of}
use Rattle.plan_run.specs.Moments.{Tools, Work}
use Rattle.pegasus_commands.specs.code.CommandSpec.{CommandSpec}
use Rattle.pegasus_commands.specs.code.Commands.Alone.{RunsAlone}
use Rattle.pegasus_commands.specs.code.Commands.Run.{RunsMany}
use Rattle.pegasus_commands.specs.code.Ensembles.{Joined, Joins, MayJoin}
use Rattle.pegasus_commands.specs.code.Fault.{Answer, done}
use Rattle.pegasus_commands.specs.code.PlanRun.{CanRun}
use Rattle.pegasus_commands.specs.PlanRun.{ShownBy}

-- ---- what is delivered

-- a file that a member's own workflow asks for
pub record IsAsked (ms : List Member) (i : ℕ) (m : Member) (f : ℕ) : Type 0 where
  pub has : HasFile ms i m f
  pub requested : is_requested m.survey.workflow f ≡ true

-- the name under which it is delivered
abbrev pub joint_name : Member → ℕ → List ℕ
joint_name m f = prefixed m.name (name_of m.survey f)

-- Each file that a member asks for stands as `m/f`, with m's own value of it: by its own workflow, tools and bases. Every
-- other name is as it was.
pub record AreDelivered (w : Work) (ms : List Member) (old new : Store) : Type 0 where
  pub there : (i : ℕ) (m : Member) (f : ℕ) → IsAsked ms i m f
      → is_some (files.get new.delivered (joint_name m f)) ≡ true
  pub valued : (i : ℕ) (m : Member) (f : ℕ) → IsAsked ms i m f
      → files.get new.delivered (joint_name m f) ≡ value_of w.apply (replicas_of old) m.request m.survey f
  pub others : (name : List ℕ)
      → ((i : ℕ) (m : Member) (f : ℕ) → IsAsked ms i m f → joint_name m f ≡ name → ⊥)
      → files.get new.delivered name ≡ files.get old.delivered name

-- where each member's replicas are honest
abbrev pub DeliversMembers : Work → List Member → Store → Store → Type 0
DeliversMembers w ms old new = AreHonestMembers w.apply (replicas_of old) ms → AreDelivered w ms old new

-- ---- the commands

-- The joint's plan was run, or why not; where it is done, all members have what they ask for.
pub record RunsJoint (Runs : Work → Tools → Surveyed → List ℕ → Answer → Type 0) (w : Work) (t : Tools)
    (j : Joined) (text : List ℕ) (answer : Answer) : Type 0 where
  pub runs : Runs w t j.surveyed text answer
  pub delivers : answer ≡ done → ∥ ShownBy w (DeliversMembers w j.members) ∥₁

abbrev pub over_ensemble : List ℕ → (Work → Tools → Surveyed → List ℕ → Answer → Type 0) → CommandSpec
over_ensemble name Runs = record {
  Inputs = Joined;
  Comes = Joins name;
  Works = RunsJoint Runs;
  CanFinish = MayJoin name CanRun;
}

-- by the first member of the crew, and by several
abbrev pub ensemble : List ℕ → CommandSpec
ensemble name = over_ensemble name RunsAlone

abbrev pub ensemble_by : List ℕ → ℕ → CommandSpec
ensemble_by name workers = over_ensemble name (RunsMany workers)
