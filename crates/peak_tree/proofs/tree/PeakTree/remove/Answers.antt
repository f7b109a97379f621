use Rattle.std.proofs.Common.{◌+◌, ap, take, length, ◌∙◌, arith, Option, None, List, set, ℕ}
use Rattle.peak_tree.specs.Node.{numbers}
use Rattle.peak_tree.proofs.NodeLemmas.{length-numbers}
use Rattle.peak_tree.proofs.TreeLemmas.{remove_is, takes_remove, few_on_the_way}
use Rattle.peak_tree.proofs.tree.PeakTree.remove.Goals as goal

pub apply-self-inside-requires-clause-position : goal.apply-self-inside-requires-clause-position
apply-self-inside-requires-clause-position g c = omega (arith, c.requires, ap length c.self.view_is, length-numbers c.self.inside.greatest c.self.inside.root)

pub apply-self-inside-requires-clause-numbers : goal.apply-self-inside-requires-clause-numbers
apply-self-inside-requires-clause-numbers g c = takes_remove (take (c.args.position + 1) (numbers c.self.inside.greatest c.self.inside.root))

pub returns-clause-numbers : goal.returns-clause-numbers
returns-clause-numbers g c = c.apply-self-inside.ensures.numbers ∙ remove_is c.args.position (numbers c.self.inside.greatest c.self.inside.root) ∙ ap (λ (xs : List (Option ℕ)). set xs c.args.position None) c.self.view_is

pub returns-clause-few : goal.returns-clause-few
returns-clause-few g c d long =
    few_on_the_way c.self.inside c.args.position d c.args.steps.now c.apply-self-inside.new.steps c.self.invariant (omega (arith, long, ap length c.self.view_is)) c.apply-self-inside.ensures.steps
