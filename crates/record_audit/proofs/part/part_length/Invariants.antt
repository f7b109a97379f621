use Rattle.std.proofs.Common.{◌≤◌, ◌-◌, length}
use Rattle.record_audit.proofs.PartLemmas.{HasCome}
use Rattle.record_audit.proofs.part.part_length.Given as goal

abbrev pub invariant-loop-length : goal.invariant-loop-length
invariant-loop-length l = record {
  within : l.length ≤ length l.text;
  come : HasCome l.text l.length;
}

abbrev pub decreases-loop-length : goal.decreases-loop-length
decreases-loop-length l = length l.text - l.length
