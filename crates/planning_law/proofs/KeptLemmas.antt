-- Which jobs are kept is one, and so are their levels.
use Rattle.std.proofs.Common.{◌≡◌, ℕ, ◌<◌, Bool, false, List, [], length, sym, ap, subst, ◌∙◌, arith}
use Rattle.std.specs.Prelude.{slice_index_or}
use Rattle.std.proofs.lemmas.Bool.Decides.{Decides-like, same_from_decides}
use Rattle.std.proofs.lemmas.List.{ext_get_or, length-map}
use Rattle.workflow_core.specs.declared.workflow.Job.{Job}
use Rattle.workflow_core.specs.declared.workflow.Workflow.{Workflow}
use Rattle.replica_catalog.specs.declared.catalog.Replica.{Replica}
use Rattle.dependency_graph.specs.Graph.{IsGraphOf, Links, numbers}
use Rattle.dependency_graph.specs.Levels.{AreLevels, is_kept}
use Rattle.dependency_graph.proofs.LevelsLemmas.{one_levels}
use Rattle.data_reuse.specs.Absent.{absent_in, is_absent}
use Rattle.data_reuse.specs.Kept.{AreKept, IsKept}

pub one_kept : (absent : ℕ → Bool) (w : Workflow) (one two : List Bool) → AreKept absent w one → AreKept absent w two → one ≡ two
one_kept absent w one two first second = ext_get_or false one two (first.long ∙ sym second.long) each
  where
    each : (a : ℕ) → a < length one → is_kept one a ≡ is_kept two a
    each a low =
        let inside : a < length w.jobs = omega (arith, low, first.long) in
        same_from_decides {P = IsKept absent w a} (is_kept one a) (is_kept two a) (first.each a inside) (second.each a inside)

-- a graph has a list of parents for each job
pub parents_long : (w : Workflow) (g : Links) → IsGraphOf w g → length g.parents ≡ length w.jobs
parents_long w g graph = let long = graph.parents.long in let same = length-map g.parents numbers in omega (arith, long, same)

-- the levels of the same jobs
pub one_level_list : (w : Workflow) (g : Links) (kept : List Bool) (one two : List ℕ) → IsGraphOf w g → length kept ≡ length w.jobs → AreLevels g kept one → AreLevels g kept two → one ≡ two
one_level_list w g kept one two graph long first second = one_levels w g kept one two graph (long ∙ sym (parents_long w g graph)) first second

-- ---- by workflows with the same jobs

abbrev with_jobs : Workflow → List Job → Workflow
with_jobs w js = record w { jobs = js }

kept_in : (absent : ℕ → Bool) (v w : Workflow) (a : ℕ) → IsKept absent v a → IsKept absent (with_jobs w v.jobs) a
kept_in absent v w a is = record { steps = is.steps; last = is.last; way = is.way; wanted = is.wanted }

kept_out : (absent : ℕ → Bool) (v w : Workflow) (a : ℕ) → IsKept absent (with_jobs w v.jobs) a → IsKept absent v a
kept_out absent v w a is = record { steps = is.steps; last = is.last; way = is.way; wanted = is.wanted }

pub kept_over : (absent : ℕ → Bool) (v w : Workflow) (kept : List Bool) → v.jobs ≡ w.jobs → AreKept absent v kept → AreKept absent w kept
kept_over absent v w kept jobs are = subst (λ (js : List Job). AreKept absent (with_jobs w js) kept) jobs moved
  where
    moved : AreKept absent (with_jobs w v.jobs) kept
    moved = record { long = are.long; each = λ a low. Decides-like (is_kept kept a) (kept_in absent v w a) (kept_out absent v w a) (are.each a low) }

abbrev absent_by : List (List ℕ) → List Replica → Bool → ℕ → Bool
absent_by files es force f = is_absent es force (slice_index_or files f [])

-- the same files would have to be made
pub same_absent : (v w : Workflow) (es fs : List Replica) (force : Bool) → v.files ≡ w.files → es ≡ fs → absent_in v es force ≡ absent_in w fs force
same_absent v w es fs force files entries = ap (λ (ns : List (List ℕ)). absent_by ns es force) files ∙ ap (λ (rs : List Replica). absent_by w.files rs force) entries
