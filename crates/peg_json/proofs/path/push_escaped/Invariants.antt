use Rattle.std.proofs.Common.{◌≡◌, ◌++◌, string_bytes, encode_utf8_all}
use Rattle.std.specs.List.{flat_map}
use Rattle.peg_json.specs.Path.{escaped_char}
use Rattle.peg_json.proofs.path.push_escaped.Given as goal

abbrev pub invariant-loop-c : goal.invariant-loop-c
invariant-loop-c l = (string_bytes l.out ≡ string_bytes l.fn.out ++ flat_map escaped_char l.yielded) × (encode_utf8_all l.yielded ++ l.c-iterator.rest.now ≡ l.key)
