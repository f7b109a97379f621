-- A task is ready where the front says so.
use Rattle.std.proofs.Common.{◌≡◌, ℕ, ◌<◌, ◌&&◌, true, nat_eq, get_or, sym, ap, ◌∙◌}
use Rattle.std.specs.Prelude.{not}
use Rattle.plan_core.specs.declared.plan.Plan.{Plan}
use Rattle.plan_core.specs.Words.{count_tasks}
use Rattle.storage_simulation.specs.declared.front.Front.{Front}
use Rattle.storage_simulation.specs.declared.standing.Standing.{Standing}
use Rattle.storage_simulation.specs.code.Front.{IsSet, front_of}
use Rattle.storage_simulation.specs.code.Ordering.{progress, IsOpen}
use Rattle.storage_simulation.proofs.FollowingLemmas.{both, have_both, not_of, un_not}
use Rattle.storage_simulation.proofs.ScoringLemmas.{ready_missing}

-- a task is ready where the front says so
pub open_of : (p : Plan) (st : Standing) (b : Front) (t : ℕ) → IsSet p st b → t < count_tasks p → (not (get_or b.done.items t true) && nat_eq (get_or b.missing.items t 0) 0) ≡ true → IsOpen p (progress st) (front_of b) t
open_of p st b t is l h =
    let parts = both (not (get_or b.done.items t true)) (nat_eq (get_or b.missing.items t 0) 0) h in
    record {
      in_range = l;
      waits = sym (is.front.done_is t l) ∙ un_not (get_or b.done.items t true) parts.0;
      ready = ready_missing p (progress st) (front_of b) t ∙ ap (λ (n : ℕ). nat_eq n 0) (sym (is.front.missing_is t l)) ∙ parts.1;
    }

pub of_open : (p : Plan) (st : Standing) (b : Front) (t : ℕ) → IsSet p st b → IsOpen p (progress st) (front_of b) t → (not (get_or b.done.items t true) && nat_eq (get_or b.missing.items t 0) 0) ≡ true
of_open p st b t is opens =
    have_both (not (get_or b.done.items t true)) (nat_eq (get_or b.missing.items t 0) 0)
    (not_of (get_or b.done.items t true) (is.front.done_is t opens.in_range ∙ opens.waits))
    (ap (λ (n : ℕ). nat_eq n 0) (is.front.missing_is t opens.in_range) ∙ sym (ready_missing p (progress st) (front_of b) t) ∙ opens.ready)
