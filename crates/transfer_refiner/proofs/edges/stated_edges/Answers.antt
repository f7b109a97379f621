use Rattle.std.proofs.Common.{◌∙◌, ◌&&◌, ◌||◌, ◌+◌, not, ap, sym, drop, nat_eq, ℕ, List, Bool}
use Rattle.std.specs.Prelude.{slice_index_or}
use Rattle.std.specs.List.{list_any}
use Rattle.std.proofs.lemmas.List.{at_drop_more}
use Rattle.values.specs.declared.numbers.JobId.{JobId}
use Rattle.workflow_core.specs.WellFormed.{parent_of, child_of}
use Rattle.plan_core.specs.Numbers.{has}
use Rattle.transfer_refiner.specs.Tasks.{part_of}
use Rattle.transfer_refiner.specs.code.View.{draft_of}
use Rattle.transfer_refiner.proofs.EdgesLemmas.{is_edge, stated_none, stated_more}
use Rattle.transfer_refiner.proofs.edges.stated_edges.Goals as goal

pub loop-pair-init : goal.loop-pair-init
loop-pair-init c = λ u t.
    ap (λ (es : List (ℕ × ℕ)). list_any (is_edge u t) es || (not (nat_eq t u) && list_any (λ (pair : JobId × JobId). has (part_of (draft_of c.args.view.now) u) (parent_of pair) && has (part_of (draft_of c.args.view.now) t) (child_of pair)) c.as_slice-pair-items.result.now)) c.new-edges.ensures.items
    ∙ ap (λ (ps : List (JobId × JobId)). not (nat_eq t u) && list_any (λ (pair : JobId × JobId). has (part_of (draft_of c.args.view.now) u) (parent_of pair) && has (part_of (draft_of c.args.view.now) t) (child_of pair)) ps) c.as_slice-pair-items.ensures ∙ stated_none (draft_of c.args.view.now) u t

pub loop-pair-preserved : goal.loop-pair-preserved
loop-pair-preserved c = λ u t.
    let d = draft_of c.args.view.now in
    let xs = c.as_slice-pair-items.result.now in
    let i = c.loop-pair.pair-index in
    let none : JobId × JobId = (record { 0 = 0 }, record { 0 = 0 }) in
    let p = slice_index_or xs i none in
    let old = c.loop-pair.edges.items in
    let rest : Bool = list_any (λ (pair : JobId × JobId). has (part_of d u) (parent_of pair) && has (part_of d t) (child_of pair)) (drop (i + 1) xs) in
    ap (λ (b : Bool). b || (not (nat_eq t u) && rest)) (c.in_ok-push_stated.ensures u t)
    ∙ stated_more (list_any (is_edge u t) old) (not (nat_eq t u)) (has (part_of d u) (parent_of p) && has (part_of d t) (child_of p)) rest
    ∙ sym (at_drop_more (λ (ps : List (JobId × JobId)). list_any (is_edge u t) old || (not (nat_eq t u) && list_any (λ (pair : JobId × JobId). has (part_of d u) (parent_of pair) && has (part_of d t) (child_of pair)) ps)) xs i none c.loop-pair-test.true)
    ∙ c.loop-pair.invariant u t
