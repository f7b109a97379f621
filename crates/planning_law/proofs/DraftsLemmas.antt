-- A plan of a draft is one of each draft that differs in what isn't acted on.
use Rattle.std.proofs.Common.{◌≡◌, ℕ, ◌||◌, Bool, List, refl, ap, subst, ◌∙◌}
use Rattle.std.specs.Prelude.{Option}
use Rattle.values.specs.declared.numbers.JobId.{JobId}
use Rattle.values.specs.declared.numbers.SiteId.{SiteId}
use Rattle.workflow_core.specs.declared.workflow.Inlined.{Inlined}
use Rattle.workflow_core.specs.declared.workflow.Job.{Job}
use Rattle.workflow_core.specs.declared.workflow.Workflow.{Workflow}
use Rattle.replica_catalog.specs.declared.catalog.Replica.{Replica}
use Rattle.plan_request.specs.declared.request.PlanRequest.{PlanRequest}
use Rattle.plan_core.specs.declared.plan.Plan.{Plan}
use Rattle.plan_core.specs.Kinds.{waits_for}
use Rattle.plan_core.specs.Words.{count_tasks}
use Rattle.plan_core.proofs.NumbersLemmas.{same_below}
use Rattle.transfer_refiner.specs.Draft.{Draft, home, moves, stands}
use Rattle.transfer_refiner.specs.Refined.{IsRefined}
use Rattle.transfer_refiner.specs.Tasks.{comes_after, plan_files, kinds_of, pairs_of}

-- ---- two workflows that say the same

pub record SayTheSame (v w : Workflow) : Type 0 where
  pub name : v.name ≡ w.name
  pub jobs : v.jobs ≡ w.jobs
  pub pairs : v.pairs ≡ w.pairs
  pub files : v.files ≡ w.files
  pub sizes : v.sizes ≡ w.sizes

abbrev workflow_of : List ℕ → List Job → List (JobId × JobId) → List (List ℕ) → List (Option ℕ) → Inlined → List (List ℕ) → Workflow
workflow_of name jobs pairs files sizes inlined ignored =
    record { name = name; jobs = jobs; pairs = pairs; files = files; sizes = sizes; inlined = inlined; ignored = ignored }

-- a workflow with other catalogues in it, and other keys that aren't acted on
abbrev with_rest : Workflow → Inlined → List (List ℕ) → Workflow
with_rest w inlined ignored = workflow_of w.name w.jobs w.pairs w.files w.sizes inlined ignored

with_rest_is : (v w : Workflow) → SayTheSame v w → with_rest v w.inlined w.ignored ≡ w
with_rest_is v w same =
    ap (λ (x : List ℕ). workflow_of x v.jobs v.pairs v.files v.sizes w.inlined w.ignored) same.name
    ∙ ap (λ (x : List Job). workflow_of w.name x v.pairs v.files v.sizes w.inlined w.ignored) same.jobs
    ∙ ap (λ (x : List (JobId × JobId)). workflow_of w.name w.jobs x v.files v.sizes w.inlined w.ignored) same.pairs
    ∙ ap (λ (x : List (List ℕ)). workflow_of w.name w.jobs w.pairs x v.sizes w.inlined w.ignored) same.files
    ∙ ap (λ (x : List (Option ℕ)). workflow_of w.name w.jobs w.pairs w.files x w.inlined w.ignored) same.sizes

-- ---- their drafts

abbrev pub draft_of : Workflow → List (List JobId) → List (Option SiteId) → List Replica → PlanRequest → Draft
draft_of w parts sites replicas r = record { workflow = w; parts = parts; sites = sites; replicas = replicas; request = r }

abbrev other : Draft → Inlined → List (List ℕ) → Draft
other d inlined ignored = draft_of (with_rest (d.workflow) inlined ignored) d.parts d.sites d.replicas d.request

kinds_kept : (d : Draft) (inlined : Inlined) (ignored : List (List ℕ)) → kinds_of d ≡ kinds_of (other d inlined ignored)
unfolding kinds_of moves home
kinds_kept d inlined ignored = refl

pairs_kept : (d : Draft) (inlined : Inlined) (ignored : List (List ℕ)) → pairs_of d ≡ pairs_of (other d inlined ignored)
unfolding pairs_of stands
pairs_kept d inlined ignored = refl

files_kept : (d : Draft) (inlined : Inlined) (ignored : List (List ℕ)) → plan_files d ≡ plan_files (other d inlined ignored)
files_kept d inlined ignored = refl

after_kept : (d : Draft) (inlined : Inlined) (ignored : List (List ℕ)) (t u : ℕ) → comes_after d t u ≡ comes_after (other d inlined ignored) t u
unfolding comes_after
after_kept d inlined ignored t u = refl

refined_kept : (d : Draft) (inlined : Inlined) (ignored : List (List ℕ)) (p : Plan) → IsRefined d p → IsRefined (other d inlined ignored) p
refined_kept d inlined ignored p is = record {
  workflow = is.workflow;
  policy = is.policy;
  sites = is.sites;
  files = is.files ∙ files_kept d inlined ignored;
  jobs = is.jobs;
  pairs = is.pairs ∙ pairs_kept d inlined ignored;
  kinds = is.kinds ∙ kinds_kept d inlined ignored;
  reads = is.reads;
  writes = is.writes;
  parents = λ t low. is.parents t low ∙ same_below (count_tasks p) (λ u. waits_for p t u || comes_after d t u) (λ u. waits_for p t u || comes_after (other d inlined ignored) t u)
      (λ u inside. ap (λ (b : Bool). waits_for p t u || b) (after_kept d inlined ignored t u));
}

pub refined_over : (v w : Workflow) (parts : List (List JobId)) (sites : List (Option SiteId)) (es fs : List Replica) (r : PlanRequest) (p : Plan) → SayTheSame v w → es ≡ fs
    → IsRefined (draft_of v parts sites es r) p → IsRefined (draft_of w parts sites fs r) p
refined_over v w parts sites es fs r p same entries is = subst (λ (x : List Replica). IsRefined (draft_of w parts sites x r) p) entries
    (subst (λ (x : Workflow). IsRefined (draft_of x parts sites es r) p) (with_rest_is v w same) (refined_kept (draft_of v parts sites es r) w.inlined w.ignored p is))
