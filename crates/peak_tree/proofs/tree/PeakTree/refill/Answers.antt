use Rattle.std.proofs.Common.{ap, sym, length, ◌∙◌, arith}
use Rattle.peak_tree.specs.Numbers.{filled}
use Rattle.peak_tree.proofs.NodeLemmas.{length-numbers}
use Rattle.peak_tree.proofs.TreeLemmas.{few_in_all}
use Rattle.peak_tree.proofs.tree.PeakTree.refill.Goals as goal

pub fill-self-inside-requires-clause-few : goal.fill-self-inside-requires-clause-few
fill-self-inside-requires-clause-few g c = omega (arith, c.requires, ap length c.self.view_is, length-numbers c.self.inside.greatest c.self.inside.root)

pub returns-clause-numbers : goal.returns-clause-numbers
returns-clause-numbers g c = c.fill-self-inside.ensures.numbers ∙ ap (filled c.args.values.now) (sym (length-numbers c.self.inside.greatest c.self.inside.root) ∙ ap length c.self.view_is)

pub returns-clause-few : goal.returns-clause-few
returns-clause-few g c d long = few_in_all c.self.inside d c.args.steps.now c.fill-self-inside.new.steps c.self.invariant (omega (arith, long, ap length c.self.view_is)) c.fill-self-inside.ensures.steps
