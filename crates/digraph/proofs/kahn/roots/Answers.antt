use Rattle.std.proofs.Common.{◌+◌, ◌∙◌, ℕ, true, false, nat_eq, List, refl, sym, ap, subst}
use Rattle.std.proofs.lemmas.Bool.{ne_eqb}
use Rattle.digraph.proofs.KahnLemmas.{Rooted, waits_for_at, rooted_more}
use Rattle.digraph.specs.code.Kahn.{waits_for}
use Rattle.digraph.proofs.kahn.roots.Goals as goal
use Rattle.digraph.proofs.kahn.roots.Goals.{then-count-eq0+in_ok-push, else-count-eq0}

pub loop-i-preserved : goal.loop-i-preserved
loop-i-preserved c =
    let node : ℕ = c.loop-i.i in
    elim c.if-count-eq0.branch [
      | then-count-eq0+in_ok-push w ↦
          subst (λ (js : List ℕ). Rooted c.args.counts.now (c.loop-i.i + 1) js) (sym (ap (λ v. v.items) w.nodes-is ∙ w.in_ok-push.ensures.items))
          (rooted_more c.args.counts.now c.loop-i.i c.loop-i.nodes.items node refl c.loop-i-test.true c.loop-i.invariant true (ap (λ (n : ℕ). nat_eq n 0) (waits_for_at c.args.counts.now c.loop-i.i 0 c.loop-i-test.true ∙ w.if-count-eq0.true)))
      | else-count-eq0 w ↦
          subst (λ (js : List ℕ). Rooted c.args.counts.now (c.loop-i.i + 1) js) (sym (ap (λ v. v.items) w.nodes-is))
          (rooted_more c.args.counts.now c.loop-i.i c.loop-i.nodes.items node refl c.loop-i-test.true c.loop-i.invariant false (ne_eqb (waits_for c.args.counts.now c.loop-i.i) 0 (λ e. w.if-count-eq0.false (sym (waits_for_at c.args.counts.now c.loop-i.i 0 c.loop-i-test.true) ∙ e))))
    ]
