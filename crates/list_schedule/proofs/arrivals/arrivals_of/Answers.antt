use Rattle.std.proofs.Common.{ℕ, ◌+◌, ◌^◌, get_or, ap, arith}
use Rattle.dependency_graph.specs.Levels.{is_kept}
use Rattle.list_schedule.specs.code.Arrivals.{counted, site_of}
use Rattle.list_schedule.proofs.ArrivalLemmas.{elsewhere_more}
use Rattle.list_schedule.proofs.arrivals.arrivals_of.Goals as goal

pub loop-place-preserved : goal.loop-place-preserved
loop-place-preserved c =
    let j : ℕ = (get_or c.args.jobs.now c.loop-place.place (record { 0 = 0 })).0 in
    record {
      each = λ s.
          let old = c.loop-place.invariant.each s in
          let step = c.note-latest.ensures.each s in
          let value = ap (λ (v : ℕ). counted (is_kept c.args.kept.now j) (site_of c.args.sites.now j) v s) c.added-value.ensures.sum in
          let more = elsewhere_more c.args.kept.now c.args.sites.now c.args.finishes.now s c.args.jobs.now c.args.moves.now c.loop-place.place c.requires.one_each (omega arith) in
          omega (arith, old, step, value, more);
      small = λ n all.
          let few = c.added-value.ensures.small in
          c.note-latest.ensures.small (n + 2 ^ 64) (c.loop-place.invariant.small n all) (omega (arith, few, all j));
      in_order = c.note-latest.ensures.in_order;
    }
