-- The members of an ensemble, and what is asked of them.
use Rattle.std.specs.Prelude.{◌≡◌, ℕ, ◌+◌, true, false, List, [], ◌∷◌, length, map}
use Rattle.std.specs.List.{All}
use Rattle.std.specs.Str.{bytes_eq}
use Rattle.workflow_core.specs.code.WellFormed.{IsWellFormed, are_distinct}
use Rattle.replica_catalog.specs.declared.catalog.Replica.{Replica}
use Rattle.replica_catalog.specs.Lookup.{joined}
use Rattle.replica_catalog.specs.Catalog.{CatalogEntry, replica_view}
use Rattle.plan_request.specs.code.Limits.{IsWithinLimits}
use Rattle.dependency_graph.specs.Graph.{IsGraphOf}
use Rattle.ensemble.specs.declared.member.Member.{Member}
use Rattle.ensemble.specs.MemberEntry.{has_slash}

-- how many jobs and files a member has
abbrev pub jobs_of : Member → ℕ
jobs_of m = length m.survey.workflow.jobs

abbrev pub files_of : Member → ℕ
files_of m = length m.survey.workflow.files

-- and all of them together
abbrev pub count_jobs : List Member → ℕ
count_jobs [] = 0
count_jobs (m ∷ ms) = jobs_of m + count_jobs ms

abbrev pub count_files : List Member → ℕ
count_files [] = 0
count_files (m ∷ ms) = files_of m + count_files ms

-- A catalogue has one entry for each name: several entries of one name are put together.
pub record IsJoined (c : CatalogEntry) : Type 0 where
  pub entries : List Replica
  pub joined_is : c.entries ≡ joined entries

-- A member's name has no `/`, its workflow is sound, its replicas are joined, its request is within the limits.
pub record IsMember (m : Member) : Type 0 where
  pub plain_name : has_slash m.name ≡ false
  pub well_formed : IsWellFormed m.survey.workflow
  pub graph : IsGraphOf m.survey.workflow m.survey.graph
  pub joined : IsJoined (replica_view m.survey.replicas)
  pub limits : IsWithinLimits m.request

-- Members have distinct names.
pub record AreMembers (ms : List Member) : Type 0 where
  pub distinct : are_distinct bytes_eq (map (λ (m : Member). m.name) ms) ≡ true
  pub each : All IsMember ms
