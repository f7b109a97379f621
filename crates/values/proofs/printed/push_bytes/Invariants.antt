use Rattle.std.proofs.Common.{◌≡◌, ◌++◌, drop}
use Rattle.values.specs.Printed.{printed_bytes}
use Rattle.values.proofs.printed.push_bytes.Given as goal

abbrev pub invariant-loop-byte : goal.invariant-loop-byte
invariant-loop-byte l = l.text.items ++ printed_bytes (drop l.byte-index l.bytes) ≡ l.fn.text.items ++ printed_bytes l.bytes
