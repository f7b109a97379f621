use Rattle.std.proofs.Common.{◌∙◌}
use Rattle.toolbox.proofs.HoldsLemmas.{found_is}
use Rattle.toolbox.proofs.transformation.holds.stands_in.Goals as goal

pub returns : goal.returns
returns c = c.is_some.ensures ∙ found_is c.args.finder.now c.args.line.now c.find.result c.find.ensures
