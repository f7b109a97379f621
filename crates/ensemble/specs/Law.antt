-- What the joint of some members means: each member's part is what it is by its own documents alone.
use Rattle.std.specs.Prelude.{◌≡◌, ℕ, zero, suc, ◌+◌, ◌<◌, List, [], ◌∷◌, length, Option, Some, None, slice_get, slice_index_or}
use Rattle.values.specs.Apply.{Apply}
use Rattle.workflow_core.specs.Requested.{is_requested}
use Rattle.replica_catalog.specs.Catalog.{replica_view}
use Rattle.plan_request.specs.declared.request.PlanRequest.{PlanRequest}
use Rattle.plan_request.specs.FileSizes.{declared_size}
use Rattle.planner.specs.Meaning.{AreHonest, Told, value_of}
use Rattle.planner.specs.declared.inputs.Survey.{Survey}
use Rattle.planner.specs.declared.surveyed.Surveyed.{Surveyed}
use Rattle.ensemble.specs.declared.member.Member.{Member}
use Rattle.ensemble.specs.Member.{IsJoined, files_of}
use Rattle.ensemble.specs.Prefix.{prefixed}

-- the number of a member's first file in the joint
abbrev pub first_file : List Member → ℕ → ℕ
first_file [] i = 0
first_file (m ∷ ms) zero = 0
first_file (m ∷ ms) (suc i) = files_of m + first_file ms i

-- the member at a place, and the number of one of its files
pub record HasFile (ms : List Member) (i : ℕ) (m : Member) (f : ℕ) : Type 0 where
  pub member : slice_get ms i ≡ Some m
  pub in_range : f < files_of m

-- a file of the joint is one of a member's
pub record IsOwned (ms : List Member) (g : ℕ) : Type 0 where
  pub place : ℕ
  pub owner : Member
  pub file : ℕ
  pub has : HasFile ms place owner file
  pub number : g ≡ first_file ms place + file

-- the name of a file, and its declared size
abbrev pub name_of : Survey → ℕ → List ℕ
name_of s f = slice_index_or s.workflow.files f []

abbrev pub size_of : PlanRequest → Survey → ℕ → Option ℕ
size_of r s f = declared_size r (name_of s f) (slice_index_or s.workflow.sizes f None)

-- each member's replicas are honest
abbrev pub AreHonestMembers : Apply → Told → List Member → Type 0
AreHonestMembers apply told ms =
    (i : ℕ) (m : Member) → slice_get ms i ≡ Some m → AreHonest apply told m.request m.survey

-- Each file of the joint is one of a member's. The file `m/f` is worth what f is worth to m, has f's declared size, and
-- is requested where f is. Each name stands once among the replicas, which are honest where each member's are.
pub record MeansMembers (ms : List Member) (s : Surveyed) : Type 0 where
  pub owned : (g : ℕ) → g < length s.survey.workflow.files → IsOwned ms g
  pub named : (i : ℕ) (m : Member) (f : ℕ) → HasFile ms i m f
      → name_of s.survey (first_file ms i + f) ≡ prefixed m.name (name_of m.survey f)
  pub sized : (i : ℕ) (m : Member) (f : ℕ) → HasFile ms i m f
      → size_of s.request s.survey (first_file ms i + f) ≡ size_of m.request m.survey f
  pub values : (apply : Apply) (told : Told) (i : ℕ) (m : Member) (f : ℕ) → HasFile ms i m f
      → value_of apply told s.request s.survey (first_file ms i + f)
      ≡ value_of apply told m.request m.survey f
  pub requested : (i : ℕ) (m : Member) (f : ℕ) → HasFile ms i m f
      → is_requested s.survey.workflow (first_file ms i + f) ≡ is_requested m.survey.workflow f
  pub joined : IsJoined (replica_view s.survey.replicas)
  pub honest : (apply : Apply) (told : Told) → AreHonestMembers apply told ms
      → AreHonest apply told s.request s.survey
