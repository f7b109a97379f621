use Rattle.std.proofs.Common.{ap, ◌∙◌}
use Rattle.run_record.specs.code.Events.{Log}
use Rattle.lease_book.specs.Book.{state_at}
use Rattle.lease_rules.specs.Legal.{IsComplete}
use Rattle.site_yard.specs.code.Ending.{fault_of, first_failed}
use Rattle.site_yard.proofs.LoanLemmas.{book_laws}
use Rattle.site_yard.proofs.EndingLemmas.{ends_complete, none_ends, some_ends}
use Rattle.site_yard.proofs.yard.Yard.ending.Goals as goal

pub returns-in-None-clause-ends : goal.returns-in-None-clause-ends
returns-in-None-clause-ends g c =
    let y = c.args.self.now in
    none_ends y.ordered.value.plan y.book.history.events _ (c.first_failed.ensures ∙ ap (λ (l : Log). first_failed l.events) c.record.ensures.value) c.in-None.is

pub returns-in-None-clause-done : goal.returns-in-None-clause-done
returns-in-None-clause-done g c =
    let y = c.args.self.now in
    ends_complete y.book (IsComplete y.ordered.value.plan (state_at y.book)) (book_laws y.book c.plan_laws.ensures c.record_laws.ensures) _ (c.first_failed.ensures ∙ ap (λ (l : Log). first_failed l.events) c.record.ensures.value) c.in-None.is c.requires.over

pub returns-in-Ok-clause-ends : goal.returns-in-Ok-clause-ends
returns-in-Ok-clause-ends g c =
    let y = c.args.self.now in
    some_ends y.ordered.value.plan y.book.history.events _ c.in-Some.failed c.in-Ok.fault (c.first_failed.ensures ∙ ap (λ (l : Log). first_failed l.events) c.record.ensures.value) c.in-Some.is (c.in-Ok.ensures ∙ ap (λ p. fault_of p c.in-Some.failed.task c.in-Some.failed.cause) (c.plan.ensures ∙ y.same_plan))
