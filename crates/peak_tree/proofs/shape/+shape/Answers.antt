use Rattle.std.proofs.Common.{ap, arith}
use Rattle.peak_tree.specs.Node.{depth}
use Rattle.peak_tree.specs.declared.node.Parts.{Parts}
use Rattle.peak_tree.proofs.TreeLemmas.{deep_halves}
use Rattle.peak_tree.proofs.shape.+shape.Goals as goal

pub returns-clause-depth : goal.returns-clause-depth
returns-clause-depth t c d few =
    let left = ap (λ (n : Parts). depth n.left) c.in_ok-fork.ensures.ok in
    let right = ap (λ (n : Parts). depth n.right) c.in_ok-fork.ensures.ok in
    deep_halves c.args.count (depth c.in_ok-fork.fork.value.left) (depth c.in_ok-fork.fork.value.right) d (omega (arith, c.if-count-eq0.false, c.if-count-eq1.false))
    (λ e some. omega (arith, left, c.in_ok-left.ensures.depth e some)) (λ e some. omega (arith, right, c.in_ok-right.ensures.depth e some)) few
