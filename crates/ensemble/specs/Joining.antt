-- When some members have a joint, and what it is.
use Rattle.std.specs.Prelude.{◌≡◌, ℕ, ◌-◌, ◌^◌, min, nat_lt, List, if◌then◌else◌, Result, Ok, Err}
use Rattle.peg_json.specs.Tree.{◌>>=◌}
use Rattle.peg_json.specs.declared.read_fault.Counted.{Counted}
use Rattle.peg_json.specs.declared.read_fault.Counted.TheVariants.{Files, Jobs}
use Rattle.plan_request.specs.declared.request.PlanRequest.{PlanRequest}
use Rattle.dependency_graph.specs.Graph.{IsGraphOf}
use Rattle.planner.specs.declared.inputs.Survey.{Survey}
use Rattle.planner.specs.declared.surveyed.Surveyed.{Surveyed}
use Rattle.ensemble.specs.declared.join_fault.JoinFault.{JoinFault}
use Rattle.ensemble.specs.declared.join_fault.JoinFault.TheVariants.{Memory, TooMany}
use Rattle.ensemble.specs.declared.member.Member.{Member}
use Rattle.ensemble.specs.Catalogues.{AreJointReplicas, AreJointTransformations, first_sites}
use Rattle.ensemble.specs.Member.{count_files, count_jobs}
use Rattle.ensemble.specs.Requests.{joint_request}
use Rattle.ensemble.specs.Workflows.{IsJointWorkflow}

-- no more of them than the limit; a count that no u64 can tell is told as the greatest
abbrev pub few : Counted → ℕ → ℕ → Result (Unit {0}) JoinFault
few counted limit count =
    if nat_lt limit count then Err (TooMany counted (min count (2 ^ 64 - 1)) limit) else Ok tt

-- no more than 10,000 jobs, and then no more than 50,000 files
abbrev pub are_few : List Member → Result (Unit {0}) JoinFault
are_few ms = few Jobs 10000 (count_jobs ms) >>= λ _. few Files 50000 (count_files ms)

-- what is said of the members together
pub record IsJointSurvey (ms : List Member) (s : Survey) : Type 0 where
  pub workflow : IsJointWorkflow ms s.workflow
  pub sites : s.sites ≡ first_sites ms
  pub replicas : AreJointReplicas ms s.replicas
  pub transformations : AreJointTransformations ms s.transformations
  pub graph : IsGraphOf s.workflow s.graph

-- The joint of some members, where the ensemble asks for this.
pub record IsJoint (ms : List Member) (r : PlanRequest) (s : Surveyed) : Type 0 where
  pub few : are_few ms ≡ Ok tt
  pub request : s.request ≡ joint_request ms r
  pub survey : IsJointSurvey ms s.survey

-- the joint, or that there are too many jobs or files; want of memory is free
abbrev pub Joins : List Member → PlanRequest → Result Surveyed JoinFault → Type 0
Joins ms r (Ok s) = IsJoint ms r s
Joins ms r (Err Memory) = Unit {0}
Joins ms r (Err fault) = are_few ms ≡ Err fault
