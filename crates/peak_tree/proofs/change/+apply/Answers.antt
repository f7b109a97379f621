use Rattle.std.proofs.Common.{ℕ, ◌-◌, ◌++◌, List, Option, refl, sym, ap, ap₂, subst, ◌∙◌, rules, arith}
use Rattle.peak_tree.specs.Node.{numbers, IsUnder}
use Rattle.peak_tree.specs.Change.{before, CanTake, changed}
use Rattle.peak_tree.proofs.NodeLemmas.{boxed, fork_of, deeper_right, joined_under, joined_numbers}
use Rattle.peak_tree.proofs.ChangeLemmas.{takes_right, takes_second, take_top, left_under, before_under, made_left, made_right}
use Rattle.peak_tree.proofs.change.+apply.Goals as goal

pub before-first-requires : goal.before-first-requires
before-first-requires g t c =
    let n = c.deref_mut.result.now in
    let b = boxed c.in-Fork.fork n in
    let is = fork_of c.args.node.now c.in-Fork.fork n c.in-Fork.is c.deref_mut.ensures.value in
    let both = takes_right c.args.change c.args.top c.args.node.now b c.args.position is c.requires.shaped c.if-position-middle.false c.requires.numbers in
    subst (CanTake c.args.change) (sym c.parts-first.ensures.left) (take_top c.args.change _ n.left (left_under c.args.top c.args.node.now b is c.requires.under) both.0)

pub apply-second-requires : goal.apply-second-requires
apply-second-requires g t c κs within =
    let n = c.deref_mut.result.now in
    let b = boxed c.in-Fork.fork n in
    let is = fork_of c.args.node.now c.in-Fork.fork n c.in-Fork.is c.deref_mut.ensures.value in
    let lower = deeper_right c.args.node.now b n.right t is refl c.decreases in
    let fits = takes_second c.args.change c.args.top c.args.node.now b c.args.position c.parts-first.result.1 n.right is c.requires.shaped c.if-position-middle.false c.requires.numbers c.parts-first.ensures.right refl in
    (lower, (search rules, (search rules, (search rules, (search (rules, arith), fits)))))

pub returns-then-position-middle-clause-numbers : goal.returns-then-position-middle-clause-numbers
returns-then-position-middle-clause-numbers g t c =
    let n = c.deref_mut.result.now in
    let b = boxed c.in-Fork.fork n in
    let is = fork_of c.args.node.now c.in-Fork.fork n c.in-Fork.is c.deref_mut.ensures.value in
    let first = c.apply-first.ensures.numbers ∙ ap (λ (top : Option ℕ). changed c.args.change c.args.position (numbers top n.left)) c.parts-first.ensures.left in
    let second = ap (λ (top : Option ℕ). numbers top n.right) c.parts-first.ensures.right in
    joined_numbers c.apply-first.result c.parts-first.result.1 c.greater.result c.of.result c.apply-first.new.node n.right c.greater.ensures c.of.ensures
    ∙ ap₂ (λ (xs ys : List (Option ℕ)). xs ++ ys) first second
    ∙ made_left c.args.change c.args.top c.args.node.now b c.args.position is c.requires.shaped c.if-position-middle.true

pub returns-else-position-middle-clause-under : goal.returns-else-position-middle-clause-under
returns-else-position-middle-clause-under g t c =
    let n = c.deref_mut.result.now in
    let b = boxed c.in-Fork.fork n in
    let is = fork_of c.args.node.now c.in-Fork.fork n c.in-Fork.is c.deref_mut.ensures.value in
    let both = takes_right c.args.change c.args.top c.args.node.now b c.args.position is c.requires.shaped c.if-position-middle.false c.requires.numbers in
    let top_is = ap (before c.args.change) (sym c.parts-first.ensures.left) ∙ sym c.before-first.ensures in
    let first = subst (λ (top : Option ℕ). IsUnder top n.left) top_is (before_under c.args.change _ n.left (left_under c.args.top c.args.node.now b is c.requires.under) both.0) in
    joined_under c.before-first.result c.apply-second.result c.greater-else-position-middle.result c.of-else-position-middle.result n.left c.apply-second.new.node c.greater-else-position-middle.ensures c.of-else-position-middle.ensures first c.apply-second.ensures.under

pub returns-else-position-middle-clause-numbers : goal.returns-else-position-middle-clause-numbers
returns-else-position-middle-clause-numbers g t c =
    let n = c.deref_mut.result.now in
    let b = boxed c.in-Fork.fork n in
    let is = fork_of c.args.node.now c.in-Fork.fork n c.in-Fork.is c.deref_mut.ensures.value in
    let both = takes_right c.args.change c.args.top c.args.node.now b c.args.position is c.requires.shaped c.if-position-middle.false c.requires.numbers in
    let first = ap (λ (top : Option ℕ). numbers top n.left) (c.before-first.ensures ∙ ap (before c.args.change) c.parts-first.ensures.left) in
    let second = c.apply-second.ensures.numbers ∙ ap (λ (top : Option ℕ). changed c.args.change (c.args.position - n.middle) (numbers top n.right)) c.parts-first.ensures.right in
    joined_numbers c.before-first.result c.apply-second.result c.greater-else-position-middle.result c.of-else-position-middle.result n.left c.apply-second.new.node c.greater-else-position-middle.ensures c.of-else-position-middle.ensures
    ∙ ap₂ (λ (xs ys : List (Option ℕ)). xs ++ ys) first second
    ∙ made_right c.args.change c.args.top c.args.node.now b c.args.position is c.requires.shaped c.requires.under c.if-position-middle.false both.0
