use Rattle.std.proofs.Common.{◌≡◌, ◌+◌, drop}
use Rattle.run_record.specs.code.Lines.{line_length}
use Rattle.record_audit.proofs.part.line_length.Given as goal

abbrev pub invariant-loop-k : goal.invariant-loop-k
invariant-loop-k l = l.k + line_length (drop l.k l.text) ≡ line_length l.text
