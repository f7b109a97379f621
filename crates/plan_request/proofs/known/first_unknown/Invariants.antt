use Rattle.std.proofs.Common.{◌≡◌, map, not, filter, string_bytes}
use Rattle.std.specs.Prelude.{option_map}
use Rattle.std.specs.BTreeMap.{keys}
use Rattle.peg_json.specs.Table.{is_key}
use Rattle.peg_json.specs.code.Table.{rows_of}
use Rattle.plan_request.specs.Request.{first_unknown_key}
use Rattle.plan_request.proofs.KnownLemmas.{first_from}
use Rattle.plan_request.proofs.known.first_unknown.Given as goal

abbrev pub invariant-loop-key : goal.invariant-loop-key
invariant-loop-key l =
    first_from l.path (option_map (λ k. k.now) l.first) (filter (λ k. not (is_key (rows_of l.rows) k)) (map string_bytes l.key-iterator))
    ≡ first_unknown_key l.path (rows_of l.rows) (map string_bytes (keys l.members))
