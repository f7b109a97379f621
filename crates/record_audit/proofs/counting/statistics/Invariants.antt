use Rattle.std.proofs.Common.{take}
use Rattle.plan_core.specs.Words.{task_numbers}
use Rattle.lease_rules.specs.State.{now}
use Rattle.record_audit.specs.Holdings.{AddsUp, Shows}
use Rattle.record_audit.specs.Sums.{AreCounts, ArePeaks}
use Rattle.record_audit.proofs.counting.statistics.Given as goal

abbrev pub invariant-loop-k : goal.invariant-loop-k
invariant-loop-k l = record {
  adds_up : AddsUp l.ordered.plan l.holdings;
  shows : Shows l.ordered.plan l.holdings (now l.ordered.plan (task_numbers l.ordered.tasks.items) (take l.k l.history.events)).held;
  counts : AreCounts (take l.k l.history.events) l.sums;
  peaks : ArePeaks l.ordered.plan (task_numbers l.ordered.tasks.items) (take l.k l.history.events) l.sums.peaks.items;
}
