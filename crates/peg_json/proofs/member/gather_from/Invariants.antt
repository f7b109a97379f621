use Rattle.std.proofs.Common.{◌≡◌, ◌++◌, map, string_bytes}
use Rattle.std.specs.BTreeMap.{keys}
use Rattle.peg_json.specs.code.Unknown.{unknown_paths}
use Rattle.peg_json.specs.code.Table.{rows_of}
use Rattle.peg_json.proofs.member.gather_from.Given as goal

abbrev pub invariant-loop-key : goal.invariant-loop-key
invariant-loop-key l = l.into.items ++ unknown_paths l.path (rows_of l.rows) (map string_bytes l.key-iterator) ≡ l.fn.into.items ++ unknown_paths l.path (rows_of l.rows) (map string_bytes (keys l.members))
