use Rattle.std.proofs.Common.{◌≡◌, ℕ, ◌+◌, ◌/◌, length, sym, ap, subst, ◌∙◌, arith}
use Rattle.std.specs.Prelude.{Option}
use Rattle.tournament_tree.specs.declared.tree.Key.{Key}
use Rattle.tournament_tree.specs.Tree.{IsLeast, better, entry, halved, least_from, row, with_first, with_last}
use Rattle.tournament_tree.proofs.TreeLemmas.{between_end, between_more, halved_end, halved_next, halved_same}
use Rattle.tournament_tree.proofs.LeastLemmas.{between_means}
use Rattle.tournament_tree.proofs.tree.Tree.least_between.Goals as goal

pub loop-height-preserved : goal.loop-height-preserved
loop-height-preserved c =
    let rs = c.args.self.now.rows.items in
    let h = c.loop-height.height in
    let next : c.loop-height.high / 2 ≡ halved (h + 1) c.args.to = ap (λ (n : ℕ). n / 2) c.loop-height.invariant.0 ∙ halved_next h c.args.to in
    let one : c.with_first-first.result ≡ with_first (entry rs h) c.loop-height.low c.loop-height.high c.loop-height.first = rw c.as_slice.ensures.value at c.with_first-first.ensures in
    let two : c.with_last-last.result ≡ with_last (entry rs h) c.loop-height.low c.loop-height.high c.loop-height.last = rw c.as_slice-in-loop-height.ensures.value at c.with_last-last.ensures in
    let more = between_more rs h c.loop-height.low c.loop-height.high c.loop-height.first c.loop-height.last (least_from (entry rs 0) c.args.from c.args.to) c.requires.tree (omega (arith, c.loop-height-test.true, c.len-height-end.ensures, c.args.self.now.rows.ok))
    (λ e. next ∙ halved_same (h + 1) (length rs) c.args.to e ∙ halved_end (length rs) c.args.to (length (row rs 0)) c.requires.to c.requires.tree.covers) c.loop-height.invariant.2 in (
      next,
      (let l = c.loop-height.invariant.1 in omega (arith, l)),
      more ∙ ap (λ (x : Option Key). better x (better (least_from (entry rs (h + 1)) ((c.loop-height.low + 1) / 2) (c.loop-height.high / 2)) (with_last (entry rs h) c.loop-height.low c.loop-height.high c.loop-height.last))) (sym one)
          ∙ ap (λ (x : Option Key). better c.with_first-first.result (better (least_from (entry rs (h + 1)) ((c.loop-height.low + 1) / 2) (c.loop-height.high / 2)) x)) (sym two),
    )

pub returns : goal.returns
returns c =
    let rs = c.args.self.now.rows.items in
    let none = c.loop-height.invariant.0 ∙ halved_same c.loop-height.height (length rs) c.args.to (omega (arith, c.loop-height-test.false, c.loop-height.auto.height-end, c.len-height-end.ensures, c.args.self.now.rows.ok)) ∙ halved_end (length rs) c.args.to (length (row rs 0)) c.requires.to c.requires.tree.covers in
    subst (IsLeast (entry rs 0) c.args.from c.args.to) (c.loop-height.invariant.2 ∙ between_end (entry rs c.loop-height.height) c.loop-height.low c.loop-height.high c.loop-height.first c.loop-height.last none ∙ sym c.lesser.ensures) (between_means (entry rs 0) c.args.from c.args.to)
