use Rattle.std.proofs.Common.{◌≡◌, ℕ, ◌+◌, ◌*◌, ◌/◌, ◌&&◌, ◌<◌, nat_eq, cond, length, sym, ap, ◌∙◌, arith}
use Rattle.std.specs.Prelude.{Option}
use Rattle.tournament_tree.specs.declared.tree.Key.{Key}
use Rattle.tournament_tree.specs.Tree.{better, entry, halved}
use Rattle.tournament_tree.proofs.TreeLemmas.{IsWritten, but_more, but_same, elsewhere, halved_next}
use Rattle.tournament_tree.proofs.tree.Tree.set.Goals as goal

pub loop-below-preserved : goal.loop-below-preserved
loop-below-preserved c =
    let rs = c.loop-below.self.rows.items in
    let new = c.write-in-loop-below.new.rows.items in
    let h = c.loop-below.below in
    let place : c.loop-below.place / 2 ≡ halved h c.args.at / 2 = ap (λ (n : ℕ). n / 2) c.loop-below.invariant.1 in
    let one = rw c.as_slice.ensures.value at c.entry_of-one.ensures in
    let two = rw c.as_slice-in-loop-below.ensures.value at c.entry_of-two.ensures in
    let key : c.lesser-least.result ≡ better (entry rs h (2 * (halved h c.args.at / 2))) (entry rs h (2 * (halved h c.args.at / 2) + 1)) =
    c.lesser-least.ensures ∙ ap (λ (x : Option Key). better x c.entry_of-two.result) one ∙ ap (better (entry rs h (2 * (c.loop-below.place / 2)))) two
    ∙ ap (λ (n : ℕ). better (entry rs h (2 * n)) (entry rs h (2 * n + 1))) place in
    let written : IsWritten rs new (h + 1) (halved h c.args.at / 2) (better (entry rs h (2 * (halved h c.args.at / 2))) (entry rs h (2 * (halved h c.args.at / 2) + 1))) =
    λ k i. c.write-in-loop-below.ensures.each k i ∙ ap (λ (q : ℕ). cond (nat_eq k (h + 1) && nat_eq i q) c.lesser-least.result (entry rs k i)) place
    ∙ ap (λ (x : Option Key). cond (nat_eq k (h + 1) && nat_eq i (halved h c.args.at / 2)) x (entry rs k i)) key in
    let under : h + 1 < length rs = omega (arith, c.loop-below-test.true, c.len-below-end.ensures, c.loop-below.auto.below-end, c.loop-below.invariant.2, c.write.new.rows.ok) in (
      but_more rs new c.args.at h c.loop-below.invariant.0 under c.write-in-loop-below.ensures.long c.write-in-loop-below.ensures.wide written,
      place ∙ halved_next h c.args.at,
      c.write-in-loop-below.ensures.long ∙ c.loop-below.invariant.2,
      c.write-in-loop-below.ensures.wide 0 ∙ c.loop-below.invariant.3,
      λ i. elsewhere rs new (h + 1) (halved h c.args.at / 2) _ written 0 i (λ e. absurd (omega (arith, e))) ∙ c.loop-below.invariant.4 i,
    )

pub returns-then-are_same-clause-tree : goal.returns-then-are_same-clause-tree
returns-then-are_same-clause-tree c =
    let rs = c.loop-below.self.rows.items in
    let h = c.loop-below.below in
    let place : c.loop-below.place / 2 ≡ halved h c.args.at / 2 = ap (λ (n : ℕ). n / 2) c.loop-below.invariant.1 in
    let one = rw c.as_slice.ensures.value at c.entry_of-one.ensures in
    let two = rw c.as_slice-in-loop-below.ensures.value at c.entry_of-two.ensures in
    let over = rw c.as_slice-in-loop-below-2.ensures.value at c.entry_of.ensures in
    let key : c.lesser-least.result ≡ better (entry rs h (2 * (halved h c.args.at / 2))) (entry rs h (2 * (halved h c.args.at / 2) + 1)) =
    c.lesser-least.ensures ∙ ap (λ (x : Option Key). better x c.entry_of-two.result) one ∙ ap (better (entry rs h (2 * (c.loop-below.place / 2)))) two
    ∙ ap (λ (n : ℕ). better (entry rs h (2 * n)) (entry rs h (2 * n + 1))) place in
    but_same rs c.args.at h c.loop-below.invariant.0
    (ap (entry rs (h + 1)) (sym place) ∙ sym over ∙ sym (c.are_same.ensures c.if-are_same.true) ∙ key)
