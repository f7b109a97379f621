use Rattle.std.proofs.Common.{length, refl, false}
use Rattle.plan_core.specs.Words.{task_numbers}
use Rattle.lease_book.proofs.StateLemmas.{opened_peaks, opened_state}
use Rattle.lease_book.proofs.state.RunState.open.Goals as goal

pub returns-clause-state : goal.returns-clause-state
returns-clause-state c =
    opened_state c.args.plan.now (task_numbers c.args.order.now)
    (record {
      alloc = c.args.alloc;
      standing = c.in_ok-standing.standing;
      holders = c.in_ok-holders.holders;
      agains = c.in_ok-agains.agains;
      failed = c.in_ok-failed.failed;
      failing = false;
      peaks = c.in_ok-peaks.peaks;
      links = c.in_ok-links.links;
      levels = c.in_ok-levels.levels;
    })
    (length c.as_slice-tasks.result.now) c.in_ok-peaks.ensures.tied c.in_ok-standing.ensures.tasks c.in_ok-standing.ensures.held
    (c.in_ok-holders.ensures.items_if_clones_equal (λ y e. e)) (c.in_ok-agains.ensures.items_if_clones_equal (λ y e. e)) (c.in_ok-failed.ensures.items_if_clones_equal (λ y e. e)) refl

pub returns-clause-peaks : goal.returns-clause-peaks
returns-clause-peaks c = opened_peaks c.args.plan.now (task_numbers c.args.order.now) _ (returns-clause-state c) c.in_ok-peaks.ensures.tied c.in_ok-links.ensures
