use Rattle.std.proofs.Common.{sym, ap, ◌∙◌}
use Rattle.lease_book.specs.Book.{state_at}
use Rattle.resume_run.specs.Lost.{lost_below}
use Rattle.resume_run.proofs.LostLemmas.{lost_none, lost_one}
use Rattle.resume_run.proofs.lost.lost_tasks.Goals.{in-Some+in_ok-push, in_default}
use Rattle.resume_run.proofs.lost.lost_tasks.Goals as goal

pub loop-number-init : goal.loop-number-init
unfolding lost_below
loop-number-init c = c.new-lost.ensures.items

pub loop-number-preserved : goal.loop-number-preserved
loop-number-preserved c =
    let s = state_at c.args.book.now in
    elim c.match-owner.branch [
      | in-Some+in_ok-push w ↦ ap (λ v. v.items) w.lost-is ∙ w.in_ok-push.ensures.items ∙ lost_one s c.loop-number.number w.in-Some.worker c.loop-number.lost.items c.loop-number.invariant (sym w.in-Some.is ∙ c.owner.ensures)
      | in_default w ↦ ap (λ v. v.items) w.lost-is ∙ lost_none s c.loop-number.number c.loop-number.lost.items c.loop-number.invariant (sym w.in_default.is ∙ c.owner.ensures)
    ]
