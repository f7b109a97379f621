use Rattle.std.proofs.Common.{◌-◌}
use Rattle.task_work.proofs.PieceLemmas.{ReadSo}
use Rattle.task_work.proofs.pieces.read_by.Given as goal

abbrev pub invariant-loop-bytes : goal.invariant-loop-bytes
invariant-loop-bytes g l = ReadSo (g.I.ReadPart.state l.fn.reading) (g.I.ReadPart.state l.reading) l.bytes.items

abbrev pub decreases-loop-bytes : goal.decreases-loop-bytes
decreases-loop-bytes g l = (g.I.ReadPart.state l.reading).size - (g.I.ReadPart.state l.reading).given
