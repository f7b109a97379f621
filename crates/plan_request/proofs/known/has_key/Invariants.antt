use Rattle.std.proofs.Common.{drop, ◌≡◌}
use Rattle.peg_json.specs.Table.{is_key}
use Rattle.peg_json.specs.code.Table.{rows_of}
use Rattle.plan_request.proofs.known.has_key.Given as goal

abbrev pub invariant-loop-row : goal.invariant-loop-row
invariant-loop-row l = is_key (rows_of (drop l.row-index l.rows)) l.key ≡ is_key (rows_of l.rows) l.key
