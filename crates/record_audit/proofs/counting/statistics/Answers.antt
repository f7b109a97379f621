use Rattle.std.proofs.Common.{◌≡◌, ◌+◌, ◌≤◌, ◌*◌, ◌^◌, ℕ, List, [], ◌∷◌, ◌++◌, length, take, arith, sym, ap, subst, ◌∙◌}
use Rattle.std.specs.Prelude.{sum_by}
use Rattle.plan_core.specs.declared.plan.Plan.{Plan}
use Rattle.plan_core.specs.Words.{task_numbers}
use Rattle.storage_simulation.specs.code.Standings.{at_in}
use Rattle.run_record.specs.Events.{Event}
use Rattle.run_record.specs.code.Events.{event}
use Rattle.lease_rules.specs.State.{now, opened}
use Rattle.record_audit.specs.Holdings.{AddsUp, IsSized, Shows}
use Rattle.record_audit.specs.Sums.{AreCounts, ArePeaks, arrived}
use Rattle.record_audit.proofs.LawLemmas.{legal_at, legal_take, take_all, take_few, take_next}
use Rattle.record_audit.proofs.SumLemmas.{counts_more, counts_none, counts_small, follow_next, moved_small, peak_none, peaks_next, shows_first}
use Rattle.record_audit.proofs.counting.statistics.Goals as goal

pub loop-k-init : goal.loop-k-init
loop-k-init c = record {
  adds_up = subst (λ (p : Plan). AddsUp p c.in_ok-holdings.holdings) c.plan-plan.ensures c.in_ok-holdings.ensures.adds_up;
  shows = shows_first c.args.ordered.now.plan (task_numbers c.args.ordered.now.tasks.items) c.args.history.now.events (at_in 0 c.in_ok-holdings.holdings.sizes.items) c.in_ok-holdings.ensures.nothing;
  counts = counts_none c.in_ok-sums.sums c.in_ok-sums.ensures.counts;
  peaks = record {
    long = c.in_ok-sums.ensures.long ∙ ap length (c.as_slice.ensures ∙ ap (λ (p : Plan). p.sites) c.plan-plan.ensures);
    each = λ q l. peak_none c.args.ordered.now.plan (task_numbers c.args.ordered.now.tasks.items) q _ (c.in_ok-sums.ensures.peaks q);
  };
}

pub follow-requires-clause-sized : goal.follow-requires-clause-sized
follow-requires-clause-sized c =
    let allowed = legal_at c.args.ordered.now.plan (opened (task_numbers c.args.ordered.now.tasks.items)) c.args.history.now.events c.loop-k.k (event c.entry-entry.result) c.requires.legal c.entry-entry.ensures in
    subst (λ (p : Plan). IsSized p (event c.entry-entry.result)) (sym c.plan-plan.ensures)
    (c.allowed_entries_are_sized.ensures c.args.ordered.now.plan (now c.args.ordered.now.plan (task_numbers c.args.ordered.now.tasks.items) (take c.loop-k.k c.args.history.now.events)) (event c.entry-entry.result) c.args.ordered.now.proper c.args.ordered.now.limits allowed)

pub follow-requires-clause-adds_up : goal.follow-requires-clause-adds_up
follow-requires-clause-adds_up c = subst (λ (p : Plan). AddsUp p c.loop-k.holdings) (sym c.plan-plan.ensures) c.loop-k.invariant.adds_up

pub count-requires-clause-small : goal.count-requires-clause-small
count-requires-clause-small c =
    let few = take_few c.args.history.now.events c.loop-k.k in
    counts_small (take c.loop-k.k c.args.history.now.events) c.loop-k.sums c.loop-k.invariant.counts (omega (arith, few, c.loop-k-test.true, c.len-k-end.ensures.small))

pub count-requires-clause-moved : goal.count-requires-clause-moved
count-requires-clause-moved c =
    let next : take (c.loop-k.k + 1) c.args.history.now.events ≡ take c.loop-k.k c.args.history.now.events ++ event c.entry-entry.result ∷ [] = take_next c.args.history.now.events c.loop-k.k (event c.entry-entry.result) c.entry-entry.ensures in
    let legal = legal_take c.args.ordered.now.plan (opened (task_numbers c.args.ordered.now.tasks.items)) c.args.history.now.events (c.loop-k.k + 1) c.requires.legal in
    let few = c.legal_records_are_short.ensures.entries c.args.ordered.now.plan (task_numbers c.args.ordered.now.tasks.items) (take (c.loop-k.k + 1) c.args.history.now.events) c.args.ordered.now.proper c.args.ordered.now.limits c.requires.retries (c.ordered_plans_fit.ensures c.args.ordered.now) legal in
    let sum = c.legal_records_are_short.ensures.moved c.args.ordered.now.plan (task_numbers c.args.ordered.now.tasks.items) (take (c.loop-k.k + 1) c.args.history.now.events) c.args.ordered.now.proper c.args.ordered.now.limits (c.ordered_plans_fit.ensures c.args.ordered.now) legal in
    moved_small (take c.loop-k.k c.args.history.now.events) c.loop-k.sums (event c.entry-entry.result) c.loop-k.invariant.counts
    (subst (λ (r : List Event). length r ≤ 120000 * 22) next few) (subst (λ (r : List Event). sum_by arrived r ≤ length r * 2 ^ 40) next sum)

pub loop-k-preserved : goal.loop-k-preserved
loop-k-preserved c =
    let adds_up : AddsUp c.args.ordered.now.plan c.follow.new.self = subst (λ (p : Plan). AddsUp p c.follow.new.self) c.plan-plan.ensures c.follow.ensures.adds_up in
    let shows : Shows c.args.ordered.now.plan c.follow.new.self (now c.args.ordered.now.plan (task_numbers c.args.ordered.now.tasks.items) (take (c.loop-k.k + 1) c.args.history.now.events)).held
    = follow_next c.args.ordered.now.plan c.plan-plan.result.now (task_numbers c.args.ordered.now.tasks.items) c.args.history.now.events c.loop-k.k (event c.entry-entry.result) c.loop-k.holdings c.follow.new.self
    c.plan-plan.ensures c.entry-entry.ensures c.loop-k.invariant.shows c.follow.ensures.shows in
    let counts : AreCounts (take (c.loop-k.k + 1) c.args.history.now.events) c.count.new.self
    = subst (λ (r : List Event). AreCounts r c.count.new.self) (sym (take_next c.args.history.now.events c.loop-k.k (event c.entry-entry.result) c.entry-entry.ensures)) (counts_more (take c.loop-k.k c.args.history.now.events) (event c.entry-entry.result) c.loop-k.sums c.count.new.self c.loop-k.invariant.counts c.count.ensures.counted) in
    record {
      adds_up = adds_up;
      shows = shows;
      counts = record { grants = counts.grants; arrives = counts.arrives; ends = counts.ends; cleans = counts.cleans; fails = counts.fails; agains = counts.agains; moved = counts.moved };
      peaks = peaks_next c.args.ordered.now.plan (task_numbers c.args.ordered.now.tasks.items) c.args.history.now.events c.loop-k.k (event c.entry-entry.result) c.follow.new.self c.loop-k.sums.peaks c.count.new.self.peaks c.raise.new.peaks
          c.entry-entry.ensures adds_up shows c.count.ensures.peaks c.loop-k.invariant.peaks c.raise.ensures.long c.raise.ensures.raised;
    }

pub returns : goal.returns
returns c =
    let end : c.loop-k.k ≡ length c.args.history.now.events = omega (arith, c.loop-k-test.false, c.loop-k.auto.k-end, c.len-k-end.ensures.events) in
    let whole : take c.loop-k.k c.args.history.now.events ≡ c.args.history.now.events = ap (λ (n : ℕ). take n c.args.history.now.events) end ∙ take_all c.args.history.now.events in
    record {
      counts = subst (λ (r : List Event). AreCounts r c.loop-k.sums) whole c.loop-k.invariant.counts;
      peaks = subst (λ (r : List Event). ArePeaks c.args.ordered.now.plan (task_numbers c.args.ordered.now.tasks.items) r c.loop-k.sums.peaks.items) whole c.loop-k.invariant.peaks;
    }
