use Rattle.std.proofs.Common.{◌≡◌, ◌++◌, string_bytes, encode_utf8_all}
use Rattle.std.specs.List.{flat_map}
use Rattle.host_files.specs.FileName.{escaped_char}
use Rattle.host_files.proofs.file_name.push_text.Given as goal

abbrev pub invariant-loop-c : goal.invariant-loop-c
invariant-loop-c l = (string_bytes l.path ≡ string_bytes l.fn.path ++ flat_map escaped_char l.yielded) × (encode_utf8_all l.yielded ++ l.c-iterator.rest.now ≡ l.text)
