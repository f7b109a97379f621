use Rattle.std.proofs.Common.{◌<◌, length, arith}
use Rattle.place_peaks.specs.Peaks.{line_of}
use Rattle.place_peaks.proofs.SearchingLemmas.{long_of, passed_all, passed_none, passed_refused, passed_taken, room_falls}
use Rattle.place_peaks.proofs.peaks.Peaks.first_of_group.Goals as goal
use Rattle.place_peaks.proofs.peaks.Peaks.first_of_group.Goals.{In-Some}

in_line : (c : In-Some) → c.in-Some.k < length (line_of c.args.self.now)
in_line c = let long = long_of c.args.plan.now c.args.self.now c.requires.indexed in let within = c.in-Some.ensures.within in omega (arith, long, within)

pub loop-k-init : goal.loop-k-init
loop-k-init c = record { end = tt; first = passed_none c.args.plan.now c.args.self.now c.args.group }

pub least_before-requires-clause-group : goal.least_before-requires-clause-group
least_before-requires-clause-group c = let long = c.requires.indexed.grouped.trees_long in let low = c.requires.group in omega (arith, long, low)

pub can_begin_at-requires-clause-within : goal.can_begin_at-requires-clause-within
can_begin_at-requires-clause-within c = in_line c

pub loop-k-smaller-then-can_begin_at : goal.loop-k-smaller-then-can_begin_at
loop-k-smaller-then-can_begin_at c = room_falls (length (line_of c.args.self.now)) c.in-Some.k c.loop-k.end (in_line (goal.at.loop-k-smaller-then-can_begin_at c).In-Some) c.in-Some.ensures.before

pub loop-k-preserved-then-can_begin_at : goal.loop-k-preserved-then-can_begin_at
loop-k-preserved-then-can_begin_at c = record {
  end = (c.in-Some.ensures.within, c.in-Some.ensures.in_group);
  first = passed_taken c.args.plan.now c.args.self.now c.args.group c.in-Some.k (in_line (goal.at.loop-k-preserved-then-can_begin_at c).In-Some) (c.can_begin_at.ensures.0 c.if-can_begin_at.true);
}

pub loop-k-smaller : goal.loop-k-smaller
loop-k-smaller c = room_falls (length (line_of c.args.self.now)) c.in-Some.k c.loop-k.end (in_line (goal.at.loop-k-smaller c).In-Some) c.in-Some.ensures.before

pub loop-k-preserved : goal.loop-k-preserved
loop-k-preserved c = record {
  end = (c.in-Some.ensures.within, c.in-Some.ensures.in_group);
  first = passed_refused c.args.plan.now c.args.self.now c.args.group c.loop-k.end c.in-Some.k c.loop-k.first c.requires.indexed c.in-Some.ensures (λ can. absurd (let yes = c.can_begin_at.ensures.1 can in let no = c.if-can_begin_at.false in cc)) c.loop-k.invariant.first;
}

pub returns : goal.returns
returns c = passed_all c.args.plan.now c.args.self.now c.args.group c.loop-k.end c.loop-k.first c.requires.indexed c.in_default.ensures c.loop-k.invariant.first
