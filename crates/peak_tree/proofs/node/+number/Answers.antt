use Rattle.std.proofs.Common.{ℕ, ◌-◌, None, Option, get_or, ap, ◌∙◌}
use Rattle.std.proofs.Common.{sym}
use Rattle.peak_tree.specs.Node.{numbers}
use Rattle.peak_tree.proofs.NodeLemmas.{boxed, fork_of, number_left, number_right}
use Rattle.peak_tree.proofs.node.+number.Goals as goal

pub returns-then-position-middle-clause-number : goal.returns-then-position-middle-clause-number
returns-then-position-middle-clause-number g t c =
    let n = c.deref.result.now in
    let is = fork_of c.args.node.now c.in-Fork.fork n (sym c.visit.ensures.node ∙ c.in-Fork.is) c.deref.ensures in
    c.number.ensures.number ∙ ap (λ (top : Option ℕ). get_or (numbers top n.left) c.args.position None) c.parts-first.ensures.left
    ∙ number_left c.args.top c.args.node.now (boxed c.in-Fork.fork n) c.args.position is c.requires.shaped c.if-position-middle.true

pub returns-else-position-middle-clause-number : goal.returns-else-position-middle-clause-number
returns-else-position-middle-clause-number g t c =
    let n = c.deref.result.now in
    let is = fork_of c.args.node.now c.in-Fork.fork n (sym c.visit.ensures.node ∙ c.in-Fork.is) c.deref.ensures in
    c.number-else-position-middle.ensures.number ∙ ap (λ (top : Option ℕ). get_or (numbers top n.right) (c.args.position - n.middle) None) c.parts-first.ensures.right
    ∙ number_right c.args.top c.args.node.now (boxed c.in-Fork.fork n) c.args.position is c.requires.shaped c.if-position-middle.false
