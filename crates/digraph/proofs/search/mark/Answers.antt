use Rattle.std.proofs.Common.{◌≡◌, ◌+◌, ◌<◌, ◌++◌, ◌∷◌, [], ◌∙◌, ℕ, not, length, take, get_or, sym, ap, arith}
use Rattle.std.specs.Prelude.{Option, Some, None, slice_set, Vec}
use Rattle.std.specs.declared.alloc.Global.{Global}
use Rattle.std.proofs.lemmas.List.{take_more, length-set, get_or_default}
use Rattle.digraph.proofs.NearestLemmas.{no_value, some_value}
use Rattle.digraph.proofs.SearchLemmas.{mark_more, mark_skip}
use Rattle.digraph.specs.code.Distances.{distance_at}
use Rattle.digraph.proofs.search.mark.Goals as goal
use Rattle.digraph.proofs.search.mark.Goals.{then-is_none+in_ok-push, else-is_none}

pub loop-node-preserved : goal.loop-node-preserved
loop-node-preserved c =
    let node : ℕ = get_or c.args.nodes.now c.loop-node.node-index 0 in
    let low : node < length c.args.table.now.items = c.requires c.loop-node.node-index 0 c.loop-node-test.true in
    let within : node < length c.loop-node.table.items = omega (arith, low, c.loop-node.invariant.0) in
    let same : c.index.result.now ≡ distance_at c.loop-node.table.items node = c.index.ensures ∙ get_or_default c.loop-node.table.items node c.index.result.now None within in
    let more : take (c.loop-node.node-index + 1) c.args.nodes.now ≡ take c.loop-node.node-index c.args.nodes.now ++ node ∷ [] = take_more c.args.nodes.now c.loop-node.node-index 0 c.loop-node-test.true in
    elim c.if-is_none.branch [
      | then-is_none+in_ok-push w ↦
          (let none : distance_at c.loop-node.table.items node ≡ None = sym same ∙ no_value c.index.result.now (c.is_none.ensures ∙ ap not w.if-is_none.true) in
          let new : c.if-is_none.table.items ≡ slice_set c.loop-node.table.items node (Some c.args.distance) = ap (λ (v : Vec (Option ℕ) Global). v.items) w.table-is in
          let longer : c.if-is_none.next.items ≡ c.loop-node.next.items ++ node ∷ [] = ap (λ (v : Vec ℕ Global). v.items) w.next-is ∙ w.in_ok-push.ensures.items in (
            ap length new ∙ length-set c.loop-node.table.items node (Some c.args.distance) ∙ c.loop-node.invariant.0,
            rw (new, longer, more) (mark_more c.args.table.now.items c.loop-node.table.items c.args.next.now.items c.loop-node.next.items (take c.loop-node.node-index c.args.nodes.now) c.args.distance node c.loop-node.invariant.1 within none),
          ))
      | else-is_none w ↦
          (let some = some_value c.index.result.now (c.is_none.ensures ∙ ap not w.if-is_none.false) in
          let known : distance_at c.loop-node.table.items node ≡ Some some.0 = sym same ∙ some.1 in
          let new : c.if-is_none.table.items ≡ c.loop-node.table.items = ap (λ (v : Vec (Option ℕ) Global). v.items) w.table-is in
          let longer : c.if-is_none.next.items ≡ c.loop-node.next.items = ap (λ (v : Vec ℕ Global). v.items) w.next-is in (
            ap length new ∙ c.loop-node.invariant.0,
            rw (new, longer, more) (mark_skip c.args.table.now.items c.loop-node.table.items c.args.next.now.items c.loop-node.next.items (take c.loop-node.node-index c.args.nodes.now) c.args.distance some.0 node c.loop-node.invariant.1 known),
          ))
    ]
