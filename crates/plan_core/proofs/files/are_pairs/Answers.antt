use Rattle.std.proofs.Common.{◌∙◌, sym}
use Rattle.plan_core.proofs.FilesLemmas.{more_pairs}
use Rattle.plan_core.proofs.files.are_pairs.Goals as goal

pub returns-in-empty : goal.returns-in-empty
returns-in-empty c = sym (more_pairs c.args.pairs.now c.args.found.now.site.0 c.args.listed.now c.loop-pair.pair-index c.loop-pair.left.now c.loop-pair-test.true c.in-empty.len_below) ∙ c.loop-pair.invariant
