use Rattle.std.proofs.Common.{◌+◌, sym, subst, ◌∙◌, take}
use Rattle.plan_core.specs.Words.{task_numbers}
use Rattle.run_record.specs.code.Events.{event}
use Rattle.lease_book.specs.declared.book.Book.{Book}
use Rattle.resume_run.specs.Replaying.{HasFollowed, without_fails}
use Rattle.resume_run.proofs.ReplayingLemmas.{follows_allowed, follows_next, follows_skip}
use Rattle.resume_run.proofs.replaying.followed.Goals.{else-not-is_fail, then-not-is_fail}
use Rattle.resume_run.proofs.replaying.followed.Goals as goal

pub follow-requires-clause-allowed : goal.follow-requires-clause-allowed
follow-requires-clause-allowed c =
    follows_allowed c.args.ordered.now.plan (task_numbers c.args.ordered.now.tasks.items) c.args.history.now.events c.loop-k.k (event c.entry-entry.result) c.loop-k.book
    c.entry-entry.ensures (sym c.is_fail.ensures ∙ c.if-not-is_fail.true) c.requires.legal c.loop-k.invariant

pub loop-k-preserved : goal.loop-k-preserved
loop-k-preserved c =
    let p = c.args.ordered.now.plan in
    let order = task_numbers c.args.ordered.now.tasks.items in
    let r = c.args.history.now.events in
    let holds = λ (b : Book). HasFollowed p order (without_fails (take (c.loop-k.k + 1) r)) b in
    elim c.if-not-is_fail.branch [
      | then-not-is_fail w ↦ subst holds (sym w.book-is)
          (follows_next p order r c.loop-k.k (event c.entry-entry.result) c.loop-k.book w.follow.new.book c.entry-entry.ensures (sym c.is_fail.ensures ∙ w.if-not-is_fail.true) c.loop-k.invariant w.follow.ensures.history w.follow.ensures.plan w.follow.ensures.order)
      | else-not-is_fail w ↦ subst holds (sym w.book-is)
          (follows_skip p order r c.loop-k.k (event c.entry-entry.result) c.loop-k.book c.entry-entry.ensures (sym c.is_fail.ensures ∙ w.if-not-is_fail.false) c.loop-k.invariant)
    ]
