use Rattle.std.proofs.Common.{length, get_or, ap, ◌∙◌}
use Rattle.place_peaks.specs.declared.peaks.Peaks.{Peaks}
use Rattle.place_peaks.proofs.EndingLemmas.{can_end_then}
use Rattle.place_peaks.proofs.peaks.Peaks.settle_run.Goals as goal

pub end_for_children-requires-clause-ends : goal.end_for_children-requires-clause-ends
end_for_children-requires-clause-ends c = can_end_then c.args.plan.now c.args.links.now c.args.self.now c.settle_sizes.new.self c.args.task c.args.sizes.now c.requires.settles c.settle_sizes.ensures.kept

pub returns : goal.returns
returns c = record {
  same = ap (λ (b : Peaks). record b { missing = c.end_for_children.new.missing }) c.settle_sizes.ensures.kept.same;
  missing_long = c.end_for_children.ensures.long ∙ ap (λ (b : Peaks). length b.missing.items) c.settle_sizes.ensures.kept.same;
  missing = λ u l. c.end_for_children.ensures.each u l ∙ ap (λ (b : Peaks). get_or b.missing.items u 1) c.settle_sizes.ensures.kept.same;
  bases_long = c.settle_sizes.ensures.kept.bases_long;
  trees_long = c.settle_sizes.ensures.kept.trees_long;
  lowered = c.settle_sizes.ensures.lowered;
}
