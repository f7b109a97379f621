use Rattle.std.proofs.Common.{◌++◌, ℕ, List, Option, refl, ap₂, ◌∙◌}
use Rattle.peak_tree.proofs.NodeLemmas.{boxed, fork_of, joined_numbers}
use Rattle.peak_tree.proofs.TreeLemmas.{filled_fork}
use Rattle.peak_tree.proofs.shape.+fill.Goals as goal

pub returns-in-Fork-clause-numbers : goal.returns-in-Fork-clause-numbers
returns-in-Fork-clause-numbers g t c =
    let n = c.deref_mut.result.now in
    let is = fork_of c.args.node.now c.in-Fork.fork n c.in-Fork.is c.deref_mut.ensures.value in
    joined_numbers c.fill-first.result c.fill-second.result c.greater.result c.of.result c.fill-first.new.node c.fill-second.new.node c.greater.ensures c.of.ensures
    ∙ ap₂ (λ (xs ys : List (Option ℕ)). xs ++ ys) c.fill-first.ensures.numbers c.fill-second.ensures.numbers
    ∙ filled_fork c.args.values.now c.args.node.now (boxed c.in-Fork.fork n) c.min.result c.split_at.result.0.now c.split_at.result.1.now n.left n.right
    is c.requires.shaped c.min.ensures c.split_at.ensures.front c.split_at.ensures.back refl refl
