use Rattle.std.proofs.Common.{◌+◌, map, sym, ap, refl, take, true, ◌≡◌, ◌∙◌, length, subst}
use Rattle.std.specs.Prelude.{None, Some, is_some}
use Rattle.plan_core.specs.Words.{is_transfer}
use Rattle.site_yard.specs.code.Failures.{AreMore}
use Rattle.outside.specs.code.Parts.{draft_faults}
use Rattle.site_yard.specs.code.Returning.{IsRefused, refusal_faults}
use Rattle.site_yard.proofs.LoanLemmas.{book_laws, worker_low}
use Rattle.lease_book.specs.Book.{failure, is_tried_again, state_at}
use Rattle.run_record.specs.Events.{Arrive, End}
use Rattle.site_yard.specs.code.Loan.{CanSettle, targets}
use Rattle.site_yard.proofs.ListLemmas.{list_still, none_fails}
use Rattle.site_yard.proofs.NextLemmas.{grown}
use Rattle.site_yard.proofs.RoomLemmas.{arrive_lists, settle_room}
use Rattle.site_yard.proofs.SettledLemmas.{arrive_keeps, end_keeps, refused_keeps, tells_by}
use Rattle.site_yard.proofs.PartLemmas.{later_both}
use Rattle.site_yard.specs.code.Yard.{Adds, IsSettled, TakesPublished}
use Rattle.site_yard.proofs.SettleLemmas.{arrive_adds, arrive_is_allowed, drafts_are, end_adds, end_is_allowed, one_is, open_run, refused_adds, refused_fits, settled_counts}
use Rattle.site_yard.proofs.yard.Yard.settle.Goals as goal

pub fail-requires-clause-worker : goal.fail-requires-clause-worker
fail-requires-clause-worker g c = worker_low c.args.self.now.book c.args.worker c.args.task.0 c.requires.open

pub fail-requires-clause-cause : goal.fail-requires-clause-cause
fail-requires-clause-cause g c =
    let y = c.args.self.now in
    let ds = map g.H.Draft.WritePart.state c.args.loan.drafts.items in
    let st = g.H.Host.counts in
    let why : IsRefused c.publish_all-done.result.count (length ds) (Some c.in-Some.fault) = subst (IsRefused c.publish_all-done.result.count (length ds)) c.in-Some.is c.publish_all-done.ensures.answer.refused_is in
    let asked : AreMore c.publish_all-done.result.count (draft_faults ds + refusal_faults (Some c.in-Some.fault)) 0 (st c.finish_all.new.host) (st c.publish_all-done.new.host) = subst (λ r. AreMore c.publish_all-done.result.count (draft_faults ds + refusal_faults r) 0 (st c.finish_all.new.host) (st c.publish_all-done.new.host)) c.in-Some.is c.publish_all-done.ensures.answer.asked in
    let more = settled_counts (map g.H.Reading.ReadPart.state c.args.loan.readings.items) ds c.publish_all-done.result.count (Some c.in-Some.fault) (st y.host) (st c.finish_all.new.host) (st c.publish_all-done.new.host) c.requires.settles.whole c.finish_all.ensures.asked asked c.publish_all-done.ensures.later in
    refused_fits y.book y.ordered.value.plan g.T.Tool.apply _ _ _ c.args.worker c.args.task.0 (map g.H.Reading.ReadPart.state c.args.loan.readings.items) ds c.args.sizes.now _ y.same_plan (book_laws y.book c.plan_laws.ensures c.record_laws.ensures) c.requires.open c.requires.settles c.publish_all-done.result.count (st y.host) (st c.publish_all-done.new.host) c.in-Some.fault c.scratch_cause-cause.result c.scratch_cause-cause.ensures why more

pub returns-in-Some-clause-entry : goal.returns-in-Some-clause-entry
returns-in-Some-clause-entry g c =
    let y = c.args.self.now in
    let ds = map g.H.Draft.WritePart.state c.args.loan.drafts.items in
    let st = g.H.Host.counts in
    let why : IsRefused c.publish_all-done.result.count (length ds) (Some c.in-Some.fault) = subst (IsRefused c.publish_all-done.result.count (length ds)) c.in-Some.is c.publish_all-done.ensures.answer.refused_is in
    let asked : AreMore c.publish_all-done.result.count (draft_faults ds + refusal_faults (Some c.in-Some.fault)) 0 (st c.finish_all.new.host) (st c.publish_all-done.new.host) = subst (λ r. AreMore c.publish_all-done.result.count (draft_faults ds + refusal_faults r) 0 (st c.finish_all.new.host) (st c.publish_all-done.new.host)) c.in-Some.is c.publish_all-done.ensures.answer.asked in
    let more = settled_counts (map g.H.Reading.ReadPart.state c.args.loan.readings.items) ds c.publish_all-done.result.count (Some c.in-Some.fault) (st y.host) (st c.finish_all.new.host) (st c.publish_all-done.new.host) c.requires.settles.whole c.finish_all.ensures.asked asked c.publish_all-done.ensures.later in
    subst (λ p. Adds y.book.history.events c.fail.new.self.history.events (IsSettled p c.args.worker c.args.task.0 c.args.sizes.now) (TakesPublished (length (targets p c.args.task.0))) (g.H.Host.told y.host) (g.H.Host.counts y.host) (g.H.Host.counts c.publish_all-done.new.host)) y.same_plan
    (refused_adds y.book y.ordered.value.plan g.T.Tool.apply _ _ _ c.args.worker c.args.task.0 (map g.H.Reading.ReadPart.state c.args.loan.readings.items) ds c.args.sizes.now _ y.same_plan (book_laws y.book c.plan_laws.ensures c.record_laws.ensures) c.requires.open c.requires.settles c.publish_all-done.result.count (st y.host) (st c.publish_all-done.new.host) c.in-Some.fault c.scratch_cause-cause.result _ c.scratch_cause-cause.ensures (later_both (st y.host) (st c.finish_all.new.host) (st c.publish_all-done.new.host) c.finish_all.ensures.later c.publish_all-done.ensures.later) why more c.fail.ensures.history)

pub only_size-size-requires : goal.only_size-size-requires
only_size-size-requires g c =
    let y = c.args.self.now in
    let moves : is_transfer y.book.plan c.args.task.0 ≡ true = ap (λ p. is_transfer p c.args.task.0) (sym c.plan-plan.ensures) ∙ sym c.is_transfer.ensures ∙ c.if-is_transfer.true in
    one_is y.book y.ordered.value.plan g.T.Tool.apply _ _ _ c.args.worker c.args.task.0 (map g.H.Reading.ReadPart.state c.args.loan.readings.items) (map g.H.Draft.WritePart.state c.args.loan.drafts.items) c.args.sizes.now _ y.same_plan (book_laws y.book c.plan_laws.ensures c.record_laws.ensures) c.requires.open c.requires.settles moves

pub end-requires : goal.end-requires
end-requires g c =
    let y = c.args.self.now in
    let off = ap (λ p. is_transfer p c.args.task.0) (sym c.plan-plan.ensures) ∙ sym c.is_transfer.ensures ∙ c.if-is_transfer.false in
    end_is_allowed y.book y.ordered.value.plan g.T.Tool.apply _ _ _ c.args.worker c.args.task.0 (map g.H.Reading.ReadPart.state c.args.loan.readings.items) (map g.H.Draft.WritePart.state c.args.loan.drafts.items) c.args.sizes.now _ y.same_plan (book_laws y.book c.plan_laws.ensures c.record_laws.ensures) c.requires.open c.requires.settles off

pub arrive-requires : goal.arrive-requires
arrive-requires g c =
    let y = c.args.self.now in
    let moves : is_transfer y.book.plan c.args.task.0 ≡ true = ap (λ p. is_transfer p c.args.task.0) (sym c.plan-plan.ensures) ∙ sym c.is_transfer.ensures ∙ c.if-is_transfer.true in
    arrive_is_allowed y.book y.ordered.value.plan g.T.Tool.apply _ _ _ c.args.worker c.args.task.0 c.only_size-size.result (map g.H.Reading.ReadPart.state c.args.loan.readings.items) (map g.H.Draft.WritePart.state c.args.loan.drafts.items) c.args.sizes.now _ y.same_plan (book_laws y.book c.plan_laws.ensures c.record_laws.ensures) c.requires.open c.requires.settles moves c.only_size-size.ensures

pub invariant_of-self-clause-begun : goal.invariant_of-self-clause-begun
invariant_of-self-clause-begun g c =
    let y = c.args.self.now in
    grown y.book.history.events _ (failure y.book.plan (state_at y.book) c.args.worker c.args.task.0 c.scratch_cause-cause.result (take c.publish_all-done.result.count c.args.sizes.now)) y.opened y.begun c.fail.ensures.history

pub invariant_of-self-then-is_transfer-clause-begun : goal.invariant_of-self-then-is_transfer-clause-begun
invariant_of-self-then-is_transfer-clause-begun g c =
    let y = c.args.self.now in
    grown y.book.history.events _ (Arrive c.args.worker c.args.task.0 c.only_size-size.result) y.opened y.begun c.arrive.ensures.history

pub invariant_of-self-else-is_transfer-clause-begun : goal.invariant_of-self-else-is_transfer-clause-begun
invariant_of-self-else-is_transfer-clause-begun g c =
    let y = c.args.self.now in
    grown y.book.history.events _ (End c.args.worker c.args.task.0 c.args.sizes.now) y.opened y.begun c.end.ensures.history

pub invariant_of-self-clause-listed : goal.invariant_of-self-clause-listed
invariant_of-self-clause-listed g c =
    let y = c.args.self.now in
    rw (c.fail.ensures.history, c.fail.ensures.plan, c.publish_all-done.ensures.marked, c.finish_all.ensures.marked)
    (list_still g.T.Tool.apply y.book.plan y.book.history.events y.opened (failure y.book.plan (state_at y.book) c.args.worker c.args.task.0 c.scratch_cause-cause.result (take c.publish_all-done.result.count c.args.sizes.now)) (g.H.Host.told y.host) (g.H.Host.told c.publish_all-done.new.host) (g.H.Host.marked y.host) y.delivered.items y.begun (none_fails y.book.plan (is_tried_again y.book.plan (state_at y.book) c.args.task.0 c.scratch_cause-cause.result) c.args.worker c.args.task.0 c.scratch_cause-cause.result (take c.publish_all-done.result.count c.args.sizes.now)) (tells_by _ _ _ c.publish_all-done.ensures.answer.told ∙ ap is_some c.finish_all.ensures.told) y.listed)

pub invariant_of-self-else-is_transfer-clause-listed : goal.invariant_of-self-else-is_transfer-clause-listed
invariant_of-self-else-is_transfer-clause-listed g c =
    let y = c.args.self.now in
    rw (c.end.ensures.history, c.end.ensures.plan, c.publish_all-done.ensures.marked, c.finish_all.ensures.marked)
    (list_still g.T.Tool.apply y.book.plan y.book.history.events y.opened (End c.args.worker c.args.task.0 c.args.sizes.now) (g.H.Host.told y.host) (g.H.Host.told c.publish_all-done.new.host) (g.H.Host.marked y.host) y.delivered.items y.begun refl (tells_by _ _ _ c.publish_all-done.ensures.answer.told ∙ ap is_some c.finish_all.ensures.told) y.listed)

pub invariant_of-self-else-is_transfer-clause-kept : goal.invariant_of-self-else-is_transfer-clause-kept
invariant_of-self-else-is_transfer-clause-kept g c =
    let y = c.args.self.now in
    let ds = map g.H.Draft.WritePart.state c.args.loan.drafts.items in
    let off = ap (λ p. is_transfer p c.args.task.0) (sym c.plan-plan.ensures) ∙ sym c.is_transfer.ensures ∙ c.if-is_transfer.false in
    let laws = book_laws y.book c.plan_laws.ensures c.record_laws.ensures in
    let st = g.H.Host.counts in
    let all : IsRefused c.publish_all-done.result.count (length ds) None = subst (IsRefused c.publish_all-done.result.count (length ds)) c.in-None.is c.publish_all-done.ensures.answer.refused_is in
    let asked : AreMore c.publish_all-done.result.count (draft_faults ds + refusal_faults None) 0 (st c.finish_all.new.host) (st c.publish_all-done.new.host) = subst (λ r. AreMore c.publish_all-done.result.count (draft_faults ds + refusal_faults r) 0 (st c.finish_all.new.host) (st c.publish_all-done.new.host)) c.in-None.is c.publish_all-done.ensures.answer.asked in
    let more = settled_counts (map g.H.Reading.ReadPart.state c.args.loan.readings.items) ds c.publish_all-done.result.count None (st y.host) (st c.finish_all.new.host) (st c.publish_all-done.new.host) c.requires.settles.whole c.finish_all.ensures.asked asked c.publish_all-done.ensures.later in
    rw (c.end.ensures.history, c.end.ensures.plan, c.end.ensures.order, c.publish_all-done.ensures.marked, c.finish_all.ensures.marked)
    (end_keeps y.book g.T.Tool.apply y.opened (g.H.Host.told y.host) (g.H.Host.told c.finish_all.new.host) (g.H.Host.told c.publish_all-done.new.host) (g.H.Host.marked y.host) y.faults y.misses (g.H.Host.counts y.host) (g.H.Host.counts c.publish_all-done.new.host) c.args.worker c.args.task.0 (map g.H.Reading.ReadPart.state c.args.loan.readings.items) ds c.args.sizes.now _
    (subst (λ p. CanSettle g.T.Tool.apply p (take y.opened y.book.history.events) (g.H.Host.marked y.host) (g.H.Host.told y.host) c.args.task.0 (map g.H.Reading.ReadPart.state c.args.loan.readings.items) ds c.args.sizes.now c.args.digest) (sym y.same_plan) c.requires.settles)
    y.begun y.kept (later_both (g.H.Host.counts y.host) (g.H.Host.counts c.finish_all.new.host) (g.H.Host.counts c.publish_all-done.new.host) c.finish_all.ensures.later c.publish_all-done.ensures.later) c.finish_all.ensures.told c.publish_all-done.result.count more all (open_run y.book c.args.worker c.args.task.0 laws.records c.requires.open off) c.publish_all-done.ensures.answer.told laws)

pub keep-requires : goal.keep-requires
keep-requires g c =
    let y = c.args.self.now in
    record { room = settle_room y.book _ g.T.Tool.apply y.opened (g.H.Host.told y.host) (g.H.Host.marked y.host) c.args.worker c.args.task.0 _ _ c.plan-plan.ensures (book_laws y.book c.plan_laws.ensures c.record_laws.ensures) c.requires.open y.listed y.room }

pub invariant_of-self-clause-kept : goal.invariant_of-self-clause-kept
invariant_of-self-clause-kept g c =
    let y = c.args.self.now in
    let ds = map g.H.Draft.WritePart.state c.args.loan.drafts.items in
    let laws = book_laws y.book c.plan_laws.ensures c.record_laws.ensures in
    let st = g.H.Host.counts in
    let why : IsRefused c.publish_all-done.result.count (length ds) (Some c.in-Some.fault) = subst (IsRefused c.publish_all-done.result.count (length ds)) c.in-Some.is c.publish_all-done.ensures.answer.refused_is in
    let asked : AreMore c.publish_all-done.result.count (draft_faults ds + refusal_faults (Some c.in-Some.fault)) 0 (st c.finish_all.new.host) (st c.publish_all-done.new.host) = subst (λ r. AreMore c.publish_all-done.result.count (draft_faults ds + refusal_faults r) 0 (st c.finish_all.new.host) (st c.publish_all-done.new.host)) c.in-Some.is c.publish_all-done.ensures.answer.asked in
    let more = settled_counts (map g.H.Reading.ReadPart.state c.args.loan.readings.items) ds c.publish_all-done.result.count (Some c.in-Some.fault) (st y.host) (st c.finish_all.new.host) (st c.publish_all-done.new.host) c.requires.settles.whole c.finish_all.ensures.asked asked c.publish_all-done.ensures.later in
    rw (c.fail.ensures.history, c.fail.ensures.plan, c.fail.ensures.order, c.publish_all-done.ensures.marked, c.finish_all.ensures.marked)
    (refused_keeps y.book g.T.Tool.apply y.opened (g.H.Host.told y.host) (g.H.Host.told c.finish_all.new.host) (g.H.Host.told c.publish_all-done.new.host) (g.H.Host.marked y.host) y.faults y.misses (g.H.Host.counts y.host) (g.H.Host.counts c.publish_all-done.new.host) c.args.worker c.args.task.0 (map g.H.Reading.ReadPart.state c.args.loan.readings.items) ds c.args.sizes.now _
    (subst (λ p. CanSettle g.T.Tool.apply p (take y.opened y.book.history.events) (g.H.Host.marked y.host) (g.H.Host.told y.host) c.args.task.0 (map g.H.Reading.ReadPart.state c.args.loan.readings.items) ds c.args.sizes.now c.args.digest) (sym y.same_plan) c.requires.settles)
    y.begun y.kept (later_both (g.H.Host.counts y.host) (g.H.Host.counts c.finish_all.new.host) (g.H.Host.counts c.publish_all-done.new.host) c.finish_all.ensures.later c.publish_all-done.ensures.later) c.finish_all.ensures.told
    laws c.requires.open c.publish_all-done.result.count c.in-Some.fault c.scratch_cause-cause.result c.scratch_cause-cause.ensures why more c.publish_all-done.ensures.answer.told)

pub invariant_of-self-then-is_transfer-clause-kept : goal.invariant_of-self-then-is_transfer-clause-kept
invariant_of-self-then-is_transfer-clause-kept g c =
    let y = c.args.self.now in
    let ds = map g.H.Draft.WritePart.state c.args.loan.drafts.items in
    let moves : is_transfer y.book.plan c.args.task.0 ≡ true = ap (λ p. is_transfer p c.args.task.0) (sym c.plan-plan.ensures) ∙ sym c.is_transfer.ensures ∙ c.if-is_transfer.true in
    let laws = book_laws y.book c.plan_laws.ensures c.record_laws.ensures in
    let st = g.H.Host.counts in
    let all : IsRefused c.publish_all-done.result.count (length ds) None = subst (IsRefused c.publish_all-done.result.count (length ds)) c.in-None.is c.publish_all-done.ensures.answer.refused_is in
    let asked : AreMore c.publish_all-done.result.count (draft_faults ds + refusal_faults None) 0 (st c.finish_all.new.host) (st c.publish_all-done.new.host) = subst (λ r. AreMore c.publish_all-done.result.count (draft_faults ds + refusal_faults r) 0 (st c.finish_all.new.host) (st c.publish_all-done.new.host)) c.in-None.is c.publish_all-done.ensures.answer.asked in
    let more = settled_counts (map g.H.Reading.ReadPart.state c.args.loan.readings.items) ds c.publish_all-done.result.count None (st y.host) (st c.finish_all.new.host) (st c.publish_all-done.new.host) c.requires.settles.whole c.finish_all.ensures.asked asked c.publish_all-done.ensures.later in
    rw (c.arrive.ensures.history, c.arrive.ensures.plan, c.arrive.ensures.order, c.publish_all-done.ensures.marked, c.finish_all.ensures.marked)
    (arrive_keeps y.book g.T.Tool.apply y.opened (g.H.Host.told y.host) (g.H.Host.told c.finish_all.new.host) (g.H.Host.told c.publish_all-done.new.host) (g.H.Host.marked y.host) y.faults y.misses (g.H.Host.counts y.host) (g.H.Host.counts c.publish_all-done.new.host) c.args.worker c.args.task.0 (map g.H.Reading.ReadPart.state c.args.loan.readings.items) ds c.args.sizes.now _
    (subst (λ p. CanSettle g.T.Tool.apply p (take y.opened y.book.history.events) (g.H.Host.marked y.host) (g.H.Host.told y.host) c.args.task.0 (map g.H.Reading.ReadPart.state c.args.loan.readings.items) ds c.args.sizes.now c.args.digest) (sym y.same_plan) c.requires.settles)
    y.begun y.kept (later_both (g.H.Host.counts y.host) (g.H.Host.counts c.finish_all.new.host) (g.H.Host.counts c.publish_all-done.new.host) c.finish_all.ensures.later c.publish_all-done.ensures.later) c.finish_all.ensures.told
    laws c.requires.open moves c.only_size-size.result c.only_size-size.ensures c.publish_all-done.result.count more all c.publish_all-done.ensures.answer.told)

pub invariant_of-self-then-is_transfer-clause-listed : goal.invariant_of-self-then-is_transfer-clause-listed
invariant_of-self-then-is_transfer-clause-listed g c =
    let y = c.args.self.now in
    let ds = map g.H.Draft.WritePart.state c.args.loan.drafts.items in
    rw (c.arrive.ensures.history, c.arrive.ensures.plan, c.publish_all-done.ensures.marked, c.finish_all.ensures.marked, c.keep.ensures.items)
    (arrive_lists g.T.Tool.apply y.book.plan _ y.book.history.events y.opened c.args.worker c.args.task.0 c.only_size-size.result (g.H.Host.told y.host) (g.H.Host.told c.publish_all-done.new.host) (g.H.Host.marked y.host) y.delivered.items (map g.H.Reading.ReadPart.state c.args.loan.readings.items) ds c.args.sizes.now _ c.plan-plan.ensures y.begun (tells_by _ _ _ c.publish_all-done.ensures.answer.told ∙ ap is_some c.finish_all.ensures.told) c.only_size-size.ensures
    (subst (λ p. CanSettle g.T.Tool.apply p (take y.opened y.book.history.events) (g.H.Host.marked y.host) (g.H.Host.told y.host) c.args.task.0 (map g.H.Reading.ReadPart.state c.args.loan.readings.items) ds c.args.sizes.now c.args.digest) (sym y.same_plan) c.requires.settles) y.listed)

pub returns-then-is_transfer-clause-entry : goal.returns-then-is_transfer-clause-entry
returns-then-is_transfer-clause-entry g c =
    let y = c.args.self.now in
    let ds = map g.H.Draft.WritePart.state c.args.loan.drafts.items in
    let laws = book_laws y.book c.plan_laws.ensures c.record_laws.ensures in
    let st = g.H.Host.counts in
    let all : IsRefused c.publish_all-done.result.count (length ds) None = subst (IsRefused c.publish_all-done.result.count (length ds)) c.in-None.is c.publish_all-done.ensures.answer.refused_is in
    let asked : AreMore c.publish_all-done.result.count (draft_faults ds + refusal_faults None) 0 (st c.finish_all.new.host) (st c.publish_all-done.new.host) = subst (λ r. AreMore c.publish_all-done.result.count (draft_faults ds + refusal_faults r) 0 (st c.finish_all.new.host) (st c.publish_all-done.new.host)) c.in-None.is c.publish_all-done.ensures.answer.asked in
    let more = settled_counts (map g.H.Reading.ReadPart.state c.args.loan.readings.items) ds c.publish_all-done.result.count None (st y.host) (st c.finish_all.new.host) (st c.publish_all-done.new.host) c.requires.settles.whole c.finish_all.ensures.asked asked c.publish_all-done.ensures.later in
    let later = later_both (st y.host) (st c.finish_all.new.host) (st c.publish_all-done.new.host) c.finish_all.ensures.later c.publish_all-done.ensures.later in
    let many = all ∙ drafts_are y.book y.ordered.value.plan g.T.Tool.apply _ _ _ c.args.worker c.args.task.0 (map g.H.Reading.ReadPart.state c.args.loan.readings.items) ds c.args.sizes.now _ y.same_plan laws c.requires.open c.requires.settles in
    let moves : is_transfer y.book.plan c.args.task.0 ≡ true = ap (λ p. is_transfer p c.args.task.0) (sym c.plan-plan.ensures) ∙ sym c.is_transfer.ensures ∙ c.if-is_transfer.true in
    subst (λ p. Adds y.book.history.events c.arrive.new.self.history.events (IsSettled p c.args.worker c.args.task.0 c.args.sizes.now) (TakesPublished (length (targets p c.args.task.0))) (g.H.Host.told y.host) (st y.host) (st c.publish_all-done.new.host)) y.same_plan
    (arrive_adds y.book (g.H.Host.told y.host) _ c.publish_all-done.result.count (st y.host) (st c.publish_all-done.new.host) c.args.worker c.args.task.0 c.only_size-size.result c.args.sizes.now _ moves c.only_size-size.ensures many more later c.arrive.ensures.history)

pub returns-else-is_transfer-clause-entry : goal.returns-else-is_transfer-clause-entry
returns-else-is_transfer-clause-entry g c =
    let y = c.args.self.now in
    let ds = map g.H.Draft.WritePart.state c.args.loan.drafts.items in
    let laws = book_laws y.book c.plan_laws.ensures c.record_laws.ensures in
    let st = g.H.Host.counts in
    let all : IsRefused c.publish_all-done.result.count (length ds) None = subst (IsRefused c.publish_all-done.result.count (length ds)) c.in-None.is c.publish_all-done.ensures.answer.refused_is in
    let asked : AreMore c.publish_all-done.result.count (draft_faults ds + refusal_faults None) 0 (st c.finish_all.new.host) (st c.publish_all-done.new.host) = subst (λ r. AreMore c.publish_all-done.result.count (draft_faults ds + refusal_faults r) 0 (st c.finish_all.new.host) (st c.publish_all-done.new.host)) c.in-None.is c.publish_all-done.ensures.answer.asked in
    let more = settled_counts (map g.H.Reading.ReadPart.state c.args.loan.readings.items) ds c.publish_all-done.result.count None (st y.host) (st c.finish_all.new.host) (st c.publish_all-done.new.host) c.requires.settles.whole c.finish_all.ensures.asked asked c.publish_all-done.ensures.later in
    let later = later_both (st y.host) (st c.finish_all.new.host) (st c.publish_all-done.new.host) c.finish_all.ensures.later c.publish_all-done.ensures.later in
    let many = all ∙ drafts_are y.book y.ordered.value.plan g.T.Tool.apply _ _ _ c.args.worker c.args.task.0 (map g.H.Reading.ReadPart.state c.args.loan.readings.items) ds c.args.sizes.now _ y.same_plan laws c.requires.open c.requires.settles in
    let off = ap (λ p. is_transfer p c.args.task.0) (sym c.plan-plan.ensures) ∙ sym c.is_transfer.ensures ∙ c.if-is_transfer.false in
    subst (λ p. Adds y.book.history.events c.end.new.self.history.events (IsSettled p c.args.worker c.args.task.0 c.args.sizes.now) (TakesPublished (length (targets p c.args.task.0))) (g.H.Host.told y.host) (st y.host) (st c.publish_all-done.new.host)) y.same_plan
    (end_adds y.book (g.H.Host.told y.host) _ c.publish_all-done.result.count (st y.host) (st c.publish_all-done.new.host) c.args.worker c.args.task.0 c.args.sizes.now _ off many more later c.end.ensures.history)
