use Rattle.std.proofs.Common.{◌≡◌, drop}
use Rattle.serde_json.specs.View.{view as tree_view}
use Rattle.peg_json.specs.code.Table.{rows_of, rows_checked}
use Rattle.peg_json.proofs.member.check_rows.Given as goal

abbrev pub invariant-loop-row : goal.invariant-loop-row
invariant-loop-row l =
    rows_checked l.path (tree_view l.value) (rows_of (drop l.row-index l.rows)) ≡ rows_checked l.path (tree_view l.value) (rows_of l.rows)
