-- The documents of an ensemble: its own, then those of each member's request, and the joint of what they say.
use Rattle.std.specs.Prelude.{◌≡◌, ◌⊎◌, ℕ, List, [], ◌∷◌, Option, Some, Result, Ok, Err}
use Rattle.std.specs.List.{AllByRecursion}
use Rattle.values.specs.FileMap.{Files}
use Rattle.workflow_core.specs.View.{workflow_view}
use Rattle.workflow_core.specs.declared.workflow.Workflow.{Workflow}
use Rattle.dependency_graph.specs.Graph.{IsSound}
use Rattle.planner.specs.code.Course.{IsSurvey, Refuses, SurveyEntry, surveyed}
use Rattle.planner.specs.declared.plan_fault.PlanFault.{PlanFault}
use Rattle.planner.specs.declared.surveyed.Surveyed.{Surveyed}
use Rattle.ensemble.specs.Applying.{of_ensemble, own_request}
use Rattle.ensemble.specs.Joining.{IsJoint, are_few}
use Rattle.ensemble.specs.Law.{MeansMembers}
use Rattle.ensemble.specs.Reader.{read_of}
use Rattle.ensemble.specs.declared.document.Ensemble.{Ensemble}
use Rattle.ensemble.specs.declared.document.MemberEntry.{MemberEntry}
use Rattle.ensemble.specs.declared.fault.EnsembleFault.{EnsembleFault}
use Rattle.ensemble.specs.declared.join_fault.JoinFault.{JoinFault}
use Rattle.ensemble.specs.declared.member.Member.{Member}
use Rattle.plan_run.specs.Moments.{Work}
use Rattle.pegasus_commands.specs.declared.course.Requested.{Requested}
use Rattle.pegasus_commands.specs.declared.fault.CallFault.{CallFault}
use Rattle.pegasus_commands.specs.declared.fault.CallFault.TheVariants as faults
use Rattle.pegasus_commands.specs.code.Course.{Course, IsStep, document, documents, read_from}
use Rattle.pegasus_commands.specs.code.Fault.{ensemble_answer, join_answer, member_answer, plan_answer}
use Rattle.pegasus_commands.specs.Moments.{DocsMoment}

-- ---- the ensemble's own document

abbrev pub ensemble_answered : Result Ensemble EnsembleFault → Result Ensemble CallFault
ensemble_answered (Ok e) = Ok e
ensemble_answered (Err fault) = Err (ensemble_answer fault)

abbrev pub ensemble_in_bytes : List ℕ → Result Ensemble CallFault
ensemble_in_bytes bytes = ensemble_answered (read_of bytes)

abbrev pub ensemble_document : List ℕ → Course Ensemble
ensemble_document name = document name ensemble_in_bytes

-- ---- a member

-- This is the member of a name: its request with the ensemble's keys, and a survey of the documents with that.
pub record IsSurveyedMember (e : Ensemble) (name : List ℕ) (r : Requested) (m : Member) : Type 0 where
  pub named : m.name ≡ name
  pub request : m.request ≡ of_ensemble e r.request
  pub survey : IsSurvey m.request r.documents m.survey

-- A member's documents came, and are those of this member.
pub record IsRead (e : Ensemble) (x : MemberEntry) (before after : DocsMoment) (m : Member) : Type 0 where
  pub requested : Requested
  pub came : IsStep (documents x.request) before after (Ok requested)
  pub is : IsSurveyedMember e x.name requested m

-- Planning refuses them with this fault.
pub record IsUnsurveyed (e : Ensemble) (name : List ℕ) (r : Requested) (answer : CallFault) : Type 0 where
  pub fault : PlanFault
  pub refuses : Refuses (of_ensemble e r.request) r.documents fault
  pub answers : answer ≡ member_answer name (plan_answer fault)

-- its documents came, and planning refuses them
pub record IsRefused (e : Ensemble) (x : MemberEntry) (before after : DocsMoment)
    (answer : CallFault) : Type 0 where
  pub requested : Requested
  pub came : IsStep (documents x.request) before after (Ok requested)
  pub unsurveyed : IsUnsurveyed e x.name requested answer

-- One of them could not be had or is no request.
pub record LacksDocument (x : MemberEntry) (before after : DocsMoment) (answer : CallFault) : Type 0 where
  pub fault : CallFault
  pub came : IsStep (documents x.request) before after (Err fault)
  pub answers : answer ≡ member_answer x.name fault

abbrev pub StopsMember : Ensemble → MemberEntry → DocsMoment → DocsMoment → CallFault → Type 0
StopsMember e x before after answer = LacksDocument x before after answer ⊎ IsRefused e x before after answer

abbrev pub ReadsMember : Ensemble → MemberEntry → DocsMoment → DocsMoment → Result Member CallFault → Type 0
ReadsMember e x before after (Ok m) = IsRead e x before after m
ReadsMember e x before after (Err answer) = StopsMember e x before after answer

-- ---- the members, of whom one is read before the next one's request is asked for

abbrev pub AreRead : Ensemble → List MemberEntry → DocsMoment → DocsMoment → List Member → Type 0
AreRead e [] before after [] = after ≡ before
AreRead e (x ∷ xs) before after (m ∷ ms) = (mid : DocsMoment) × IsRead e x before mid m
    × AreRead e xs mid after ms
AreRead e xs before after ms = ⊥

-- the first member that ends it, after those before it
abbrev pub StopsAt : Ensemble → List MemberEntry → DocsMoment → DocsMoment → CallFault → Type 0
StopsAt e [] before after answer = ⊥
StopsAt e (x ∷ xs) before after answer =
    StopsMember e x before after answer
    ⊎ ((mid : DocsMoment) × (m : Member) × IsRead e x before mid m × StopsAt e xs mid after answer)

-- ---- the joint

-- the members, and their joint
pub record Joined : Type 0 where
  pub members : List Member
  pub surveyed : Surveyed

abbrev pub joined : List Member → Surveyed → Joined
joined ms s = record { members = ms; surveyed = s }

-- An ensemble came, with its members.
pub record HasMembers (name : List ℕ) (before after : DocsMoment) (e : Ensemble)
    (ms : List Member) : Type 0 where
  pub mid : DocsMoment
  pub came : IsStep (ensemble_document name) before mid (Ok e)
  pub read : AreRead e e.members mid after ms

-- The command goes on with their joint, of which each part means what it means to its member.
pub record GoesOn (name : List ℕ) (before after : DocsMoment) (j : Joined) : Type 0 where
  pub ensemble : Ensemble
  pub has : HasMembers name before after ensemble j.members
  pub joint : IsJoint j.members (own_request ensemble) j.surveyed
  pub means : MeansMembers j.members j.surveyed

-- A member's documents end the command.
pub record StopsInside (name : List ℕ) (before after : DocsMoment) (answer : CallFault) : Type 0 where
  pub ensemble : Ensemble
  pub mid : DocsMoment
  pub came : IsStep (ensemble_document name) before mid (Ok ensemble)
  pub stops : StopsAt ensemble ensemble.members mid after answer

-- Members have too many jobs or files together.
pub record AreTooMany (ms : List Member) (answer : CallFault) : Type 0 where
  pub fault : JoinFault
  pub refuses : are_few ms ≡ Err fault
  pub answers : answer ≡ join_answer fault

-- all members came, and are too many together
pub record IsUnjoined (name : List ℕ) (before after : DocsMoment) (answer : CallFault) : Type 0 where
  pub ensemble : Ensemble
  pub members : List Member
  pub has : HasMembers name before after ensemble members
  pub too_many : AreTooMany members answer

abbrev pub Stops : List ℕ → DocsMoment → DocsMoment → CallFault → Type 0
Stops name before after answer =
    IsStep (ensemble_document name) before after (Err answer)
    ⊎ (StopsInside name before after answer ⊎ IsUnjoined name before after answer)

abbrev pub Joins : List ℕ → DocsMoment → DocsMoment → Result Joined CallFault → Type 0
Joins name before after (Ok j) = GoesOn name before after j
Joins name before after (Err answer) = Stops name before after answer

-- what a body has of the joint, whose members it doesn't keep
pub record IsJoinedOf (name : List ℕ) (before after : DocsMoment) (s : Surveyed) : Type 0 where
  pub members : List Member
  pub goes_on : GoesOn name before after (joined members s)

-- ---- what keeps a command from Done

-- Told documents of a member have no fault, and their workflow is sound.
pub record MayRead (e : Ensemble) (files : Files) (x : MemberEntry) : Type 0 where
  pub requested : Requested
  pub reads : read_from files (documents x.request) ≡ Ok requested
  pub said : SurveyEntry
  pub says : surveyed (of_ensemble e requested.request) requested.documents ≡ Ok said
  pub sound : (w : Workflow) → workflow_view w ≡ said.workflow → IsSound w

-- Told documents are those of this member.
pub record IsTold (e : Ensemble) (files : Files) (x : MemberEntry) (m : Member) : Type 0 where
  pub requested : Requested
  pub reads : read_from files (documents x.request) ≡ Ok requested
  pub is : IsSurveyedMember e x.name requested m

abbrev pub AreTold : Ensemble → Files → List MemberEntry → List Member → Type 0
AreTold e files [] [] = Unit {0}
AreTold e files (x ∷ xs) (m ∷ ms) = IsTold e files x m × AreTold e files xs ms
AreTold e files xs ms = ⊥

-- Told documents go on with few enough jobs and files, and nothing in their joint keeps the command from Done.
pub record MayJoin (name : List ℕ) (CanWork : Work → Surveyed → Type 0) (told : Option Files)
    (w : Work) : Type 0 where
  pub files : Files
  pub told_is : told ≡ Some files
  pub ensemble : Ensemble
  pub reads : read_from files (ensemble_document name) ≡ Ok ensemble
  pub each : AllByRecursion (MayRead ensemble files) ensemble.members
  pub few : (ms : List Member) → AreTold ensemble files ensemble.members ms → are_few ms ≡ Ok tt
  pub can_work : (j : Joined) → AreTold ensemble files ensemble.members j.members
      → IsJoint j.members (own_request ensemble) j.surveyed → CanWork w j.surveyed

-- ---- parts of a body

-- what comes of a member's documents, once they are there
abbrev pub SurveysMember : Ensemble → List ℕ → Requested → Result Member CallFault → Type 0
SurveysMember e name r (Ok m) = IsSurveyedMember e name r m
SurveysMember e name r (Err faults.Memory) = Unit {0}
SurveysMember e name r (Err answer) = IsUnsurveyed e name r answer

-- members without a joint, or memory ran out
abbrev pub HasNoJoint : List Member → CallFault → Type 0
HasNoJoint ms faults.Memory = Unit {0}
HasNoJoint ms answer = AreTooMany ms answer
