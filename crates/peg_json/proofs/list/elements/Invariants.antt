use Rattle.std.proofs.Common.{drop, ◌≡◌, map}
use Rattle.serde_json.specs.View.{view as tree_view}
use Rattle.peg_json.specs.Tree.{each_from}
use Rattle.peg_json.specs.code.Tree.{with_front}
use Rattle.peg_json.proofs.list.elements.Given as goal

abbrev pub invariant-loop-item : goal.invariant-loop-item
invariant-loop-item g l =
    let f = g.T.FromTree.reads in
    (l.index ≡ l.item-index) × (with_front (map g.T.FromTree.seen l.out.items) (each_from f l.path l.item-index (map tree_view (drop l.item-index l.items))) ≡ each_from f l.path 0 (map tree_view l.items))
