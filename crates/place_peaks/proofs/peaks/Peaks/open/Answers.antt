use Rattle.std.proofs.Common.{[], false, refl}
use Rattle.plan_core.specs.Words.{task_numbers}
use Rattle.lease_rules.specs.State.{opened}
use Rattle.place_peaks.proofs.EntryLemmas.{tied_none}
use Rattle.place_peaks.proofs.ReadyLemmas.{indexed_with, rising_of, tied_with}
use Rattle.place_peaks.proofs.peaks.Peaks.open.Goals as goal

pub returns-clause-tied : goal.returns-clause-tied
returns-clause-tied c = tied_with c.args.plan.now (opened (task_numbers c.args.order.now)) c.in_ok-peaks.peaks c.refresh_all.new.self
    (tied_none c.args.plan.now (opened (task_numbers c.args.order.now)) c.in_ok-peaks.peaks c.in_ok-peaks.ensures.stack c.in_ok-peaks.ensures.tied c.in_ok-peaks.ensures.whole)
    c.refresh_all.ensures.same
    (indexed_with c.args.plan.now c.in_ok-peaks.peaks c.refresh_all.new.self (λ t. false) c.in_ok-peaks.ensures.small (rising_of c.args.plan.now (opened (task_numbers c.args.order.now)) c.in_ok-peaks.peaks [] c.in_ok-peaks.ensures.tied)
    c.refresh_all.ensures.same c.refresh_all.ensures.groups c.refresh_all.ensures.indexed (λ u. refl))
