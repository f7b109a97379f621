use Rattle.std.proofs.Common.{◌<◌, ◌+◌, ◌++◌, ℕ, List, length, subst, sym, refl, ap, arith}
use Rattle.std.specs.Prelude.{filter}
use Rattle.storage_simulation.specs.declared.bench.Bench.{Bench}
use Rattle.storage_simulation.specs.code.Bench.{IsFor}
use Rattle.storage_simulation.specs.code.Front.{front_of}
use Rattle.place_peaks.specs.Peaks.{left_of, line_of}
use Rattle.lease_book.specs.RunState.{state_of}
use Rattle.lease_book.proofs.FreshLemmas.{FreshLeft, fresh_at_first, fresh_found, fresh_none, fresh_pass, fresh_skip, fresh_spent}
use Rattle.lease_book.proofs.fresh.first_with_order.Goals.{then-is_candidate_at+else-has_order, else-is_candidate_at}
use Rattle.lease_book.proofs.fresh.first_with_order.Goals as goal

pub loop-k-init : goal.loop-k-init
loop-k-init c = record {
  left = fresh_at_first c.args.plan.now (state_of c.args.state.now) (left_of c.args.state.now.peaks) (line_of c.args.state.now.peaks) (ap (λ (front : List ℕ). front ++ filter (left_of c.args.state.now.peaks) (line_of c.args.state.now.peaks)) c.requires.line);
  place = c.requires.place;
  bench = c.requires.bench;
}

pub returns-then-left-eq0-clause-among : goal.returns-then-left-eq0-clause-among
returns-then-left-eq0-clause-among c = fresh_spent c.args.plan.now (state_of c.args.state.now) (left_of c.args.state.now.peaks) (line_of c.args.state.now.peaks) c.loop-k.k (subst (λ (n : ℕ). FreshLeft c.args.plan.now (state_of c.args.state.now) (left_of c.args.state.now.peaks) (line_of c.args.state.now.peaks) n c.loop-k.k) c.if-left-eq0.true c.loop-k.invariant.left)

pub returns-clause-among : goal.returns-clause-among
returns-clause-among c = fresh_none c.args.plan.now (state_of c.args.state.now) (left_of c.args.state.now.peaks) (line_of c.args.state.now.peaks) c.loop-k.left c.loop-k.k (omega (arith, c.count_line-k-end.ensures)) c.loop-k.invariant.left

pub loop-k-preserved : goal.loop-k-preserved
loop-k-preserved c =
    let p = c.args.plan.now in
    let s = state_of c.args.state.now in
    let left = left_of c.args.state.now.peaks in
    let line = line_of c.args.state.now.peaks in
    let below : c.loop-k.k < length line = (let test = c.loop-k-test.true in omega (arith, test, c.count_line-k-end.ensures)) in
    let some : 0 < c.loop-k.left = (let ne = c.if-left-eq0.false in omega (arith, ne)) in
    record {
      left = elim c.if-is_candidate_at.branch [
        | then-is_candidate_at+else-has_order w ↦ subst (λ (n : ℕ). FreshLeft p s left line n (c.loop-k.k + 1)) (sym w.left-is) (fresh_pass p s left line c.loop-k.left c.loop-k.k w.line_task-task.result below some w.line_task-task.ensures (w.if-is_candidate_at.ensures.value.0 refl).0 (w.if-is_candidate_at.ensures.value.0 refl).1 (w.if-has_order.ensures.none refl) c.loop-k.invariant.left)
        | else-is_candidate_at w ↦ subst (λ (n : ℕ). FreshLeft p s left line n (c.loop-k.k + 1)) (sym w.left-is) (fresh_skip p s left line c.loop-k.left c.loop-k.k below some (λ can. let e = w.if-is_candidate_at.ensures.value.1 can in absurd cc) c.loop-k.invariant.left)
      ];
      place = c.is_candidate_at.ensures.place;
      bench = elim c.if-is_candidate_at.branch [
        | then-is_candidate_at+else-has_order w ↦ subst (λ (b : Bench). IsFor c.args.plan.now b) (sym w.bench-is) w.has_order.ensures.bench
        | else-is_candidate_at w ↦ subst (λ (b : Bench). IsFor c.args.plan.now b) (sym w.bench-is) c.loop-k.invariant.bench
      ];
    }

pub returns-then-has_order-clause-among : goal.returns-then-has_order-clause-among
returns-then-has_order-clause-among c =
    let p = c.args.plan.now in
    let s = state_of c.args.state.now in
    let left = left_of c.args.state.now.peaks in
    let line = line_of c.args.state.now.peaks in
    let below : c.loop-k.k < length line = (let test = c.loop-k-test.true in omega (arith, test, c.count_line-k-end.ensures)) in
    let some : 0 < c.loop-k.left = (let ne = c.if-left-eq0.false in omega (arith, ne)) in
    fresh_found p s left line c.loop-k.left c.loop-k.k c.line_task-task.result (front_of c.has_order.new.bench.front) below some c.line_task-task.ensures
    (c.if-is_candidate_at.ensures.value.0 refl).0 (c.if-is_candidate_at.ensures.value.0 refl).1 (c.if-has_order.ensures.gives refl) c.loop-k.invariant.left
