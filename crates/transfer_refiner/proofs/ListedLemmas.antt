-- A task's lists.
use Rattle.std.proofs.Common.{◌≡◌, ◌<◌, ◌+◌, ℕ, List, [], ◌∷◌, ◌++◌, get_or, length, map, take, sym, ap, ◌∙◌}
use Rattle.std.proofs.lemmas.List.{map-append, take_more}
use Rattle.std.specs.Prelude.{Some, slice_get}
use Rattle.plan_core.specs.declared.plan.Pair.{Pair}
use Rattle.plan_core.specs.declared.plan.PlanJob.{PlanJob}
use Rattle.plan_core.specs.declared.plan.Task.{Task}
use Rattle.plan_core.specs.declared.plan.TaskKind.{TaskKind}
use Rattle.plan_core.specs.Kinds.{kind_reads, kind_writes, on_pair}
use Rattle.plan_core.specs.Numbers.{below}
use Rattle.plan_core.specs.Words.{pair_numbers}
use Rattle.transfer_refiner.specs.code.Steps.{IsListed}

pub listed_of : (jobs : List PlanJob) (pairs : List Pair) (kind : TaskKind) (t : Task) → t.kind ≡ kind → pair_numbers t.reads ≡ below (length pairs) (λ q. on_pair (kind_reads jobs (Some kind)) (slice_get pairs q)) → pair_numbers t.writes ≡ below (length pairs) (λ q. on_pair (kind_writes jobs (Some kind)) (slice_get pairs q)) → IsListed jobs pairs t
listed_of jobs pairs kind t is reads writes = record {
  reads = reads ∙ ap (λ (k : TaskKind). below (length pairs) (λ q. on_pair (kind_reads jobs (Some k)) (slice_get pairs q))) (sym is);
  writes = writes ∙ ap (λ (k : TaskKind). below (length pairs) (λ q. on_pair (kind_writes jobs (Some k)) (slice_get pairs q))) (sym is);
}

-- one task more, of the next kind
pub kinds_more : (given : List TaskKind) (i : ℕ) (k : TaskKind) (tasks after : List Task) (x : Task) → i < length given → k ≡ get_or given i k → map (λ (t : Task). t.kind) tasks ≡ take i given → x.kind ≡ k → after ≡ tasks ++ x ∷ [] → map (λ (t : Task). t.kind) after ≡ take (i + 1) given
kinds_more given i k tasks after x low at so_far is more =
    ap (map (λ (t : Task). t.kind)) more ∙ map-append (λ (t : Task). t.kind) tasks (x ∷ []) ∙ ap (λ (ks : List TaskKind). ks ++ x.kind ∷ []) so_far ∙ ap (λ (z : TaskKind). take i given ++ z ∷ []) (is ∙ at) ∙ sym (take_more given i k low)
