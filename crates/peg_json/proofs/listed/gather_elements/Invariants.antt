use Rattle.std.proofs.Common.{drop, ◌≡◌, ◌++◌, map}
use Rattle.serde_json.specs.View.{view as tree_view}
use Rattle.peg_json.specs.code.Unknown.{unknown_from}
use Rattle.peg_json.proofs.listed.gather_elements.Given as goal

abbrev pub invariant-loop-item : goal.invariant-loop-item
invariant-loop-item g l =
    let f = g.T.Listed.unknown in
    (l.index ≡ l.item-index) × (l.into.items ++ unknown_from f l.path l.item-index (map tree_view (drop l.item-index l.items)) ≡ l.fn.into.items ++ unknown_from f l.path 0 (map tree_view l.items))
