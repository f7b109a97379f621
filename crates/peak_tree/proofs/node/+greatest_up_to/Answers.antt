use Rattle.std.proofs.Common.{ℕ, ◌+◌, ◌-◌, Option, take, sym, ap, ap₂, ◌∙◌}
use Rattle.peak_tree.specs.Numbers.{greater, greatest}
use Rattle.peak_tree.specs.Node.{numbers}
use Rattle.peak_tree.proofs.NodeLemmas.{boxed, fork_of, greatest_left, greatest_right}
use Rattle.peak_tree.proofs.node.+greatest_up_to.Goals as goal

pub returns-then-position-middle-clause-greatest : goal.returns-then-position-middle-clause-greatest
returns-then-position-middle-clause-greatest g t c =
    let n = c.deref.result.now in
    let is = fork_of c.args.node.now c.in-Fork.fork n (sym c.visit.ensures.node ∙ c.in-Fork.is) c.deref.ensures in
    c.greatest_up_to.ensures.greatest ∙ ap (λ (top : Option ℕ). greatest (take (c.args.position + 1) (numbers top n.left))) c.parts-first.ensures.left
    ∙ greatest_left c.args.top c.args.node.now (boxed c.in-Fork.fork n) c.args.position is c.requires.shaped c.if-position-middle.true

pub returns-else-position-middle-clause-greatest : goal.returns-else-position-middle-clause-greatest
returns-else-position-middle-clause-greatest g t c =
    let n = c.deref.result.now in
    let is = fork_of c.args.node.now c.in-Fork.fork n (sym c.visit.ensures.node ∙ c.in-Fork.is) c.deref.ensures in
    let right = c.greatest_up_to-best.ensures.greatest ∙ ap (λ (top : Option ℕ). greatest (take (c.args.position - n.middle + 1) (numbers top n.right))) c.parts-first.ensures.right in
    c.greater.ensures ∙ ap₂ greater c.parts-first.ensures.left right
    ∙ greatest_right c.args.top c.args.node.now (boxed c.in-Fork.fork n) c.args.position is c.requires.shaped c.requires.under c.if-position-middle.false
