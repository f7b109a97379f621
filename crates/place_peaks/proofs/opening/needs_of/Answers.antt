use Rattle.std.proofs.Common.{◌≤◌, ◌+◌, ◌^◌, ℕ, List, [], ◌∷◌, length, length-append, get_or, sym, ap, subst, ◌∙◌}
use Rattle.place_peaks.proofs.NeedsLemmas.{need_more, small_more}
use Rattle.place_peaks.proofs.opening.needs_of.Goals as goal

pub loop-task-preserved : goal.loop-task-preserved
loop-task-preserved c =
    let needs = c.loop-task.needs.items in
    let need = c.need_of.result in
    record {
      long = ap length c.in_ok-push.ensures.items ∙ length-append needs (need ∷ []) ∙ ap (λ (n : ℕ). n + 1) c.loop-task.invariant.long;
      each = λ t q l at. ap (λ (vs : List ℕ). get_or vs t 0) c.in_ok-push.ensures.items ∙ need_more c.args.plan.now needs need c.loop-task.task c.loop-task.invariant.long c.loop-task.invariant.each c.need_of.ensures.sum t q l at;
      small = λ t. subst (λ (vs : List ℕ). get_or vs t 0 ≤ 2 ^ 62) (sym c.in_ok-push.ensures.items) (small_more needs need c.loop-task.invariant.small c.need_of.ensures.small t);
    }
