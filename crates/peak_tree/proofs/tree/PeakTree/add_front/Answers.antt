use Rattle.std.proofs.Common.{◌+◌, ◌-◌, ap, take, length, subst, sym, ◌∙◌, arith, All, Option, List, ℕ, ℤ, to_z-of_z}
use Rattle.std.specs.List.{AllByRecursion}
use Rattle.peak_tree.specs.Numbers.{add_front, StaysInRange}
use Rattle.peak_tree.specs.Change.{CanTake, changed}
use Rattle.peak_tree.specs.Node.{numbers}
use Rattle.peak_tree.specs.declared.change.Change.TheVariants.{Add}
use Rattle.peak_tree.proofs.NodeLemmas.{length-numbers}
use Rattle.peak_tree.proofs.TreeLemmas.{add_is, takes_add, few_on_the_way}
use Rattle.peak_tree.proofs.tree.PeakTree.add_front.Goals as goal

pub apply-self-inside-requires-clause-position : goal.apply-self-inside-requires-clause-position
apply-self-inside-requires-clause-position g c = omega (arith, c.requires.count, c.if-count-gt0.true, ap length c.self.view_is, length-numbers c.self.inside.greatest c.self.inside.root)

pub apply-self-inside-requires-clause-numbers : goal.apply-self-inside-requires-clause-numbers
apply-self-inside-requires-clause-numbers g c =
    let xs = numbers c.self.inside.greatest c.self.inside.root in
    let takes = takes_add c.args.count c.args.delta xs c.if-count-gt0.true (subst (λ (ys : List (Option ℕ)). All (StaysInRange c.args.delta) (take c.args.count ys)) (sym c.self.view_is) c.requires.range) in
    subst (λ (d : ℤ). AllByRecursion (CanTake (Add d)) (take (c.args.count - 1 + 1) xs)) (sym (to_z-of_z c.ranges.delta)) takes

pub returns-then-count-gt0-clause-numbers : goal.returns-then-count-gt0-clause-numbers
returns-then-count-gt0-clause-numbers g c =
    let xs = numbers c.self.inside.greatest c.self.inside.root in
    c.apply-self-inside.ensures.numbers ∙ ap (λ (d : ℤ). changed (Add d) (c.args.count - 1) xs) (to_z-of_z c.ranges.delta)
    ∙ add_is c.args.count c.args.delta xs c.if-count-gt0.true ∙ ap (add_front c.args.count c.args.delta) c.self.view_is

pub returns-then-count-gt0-clause-few : goal.returns-then-count-gt0-clause-few
returns-then-count-gt0-clause-few g c d long =
    few_on_the_way c.self.inside (c.args.count - 1) d c.args.steps.now c.apply-self-inside.new.steps c.self.invariant (omega (arith, long, ap length c.self.view_is)) c.apply-self-inside.ensures.steps
