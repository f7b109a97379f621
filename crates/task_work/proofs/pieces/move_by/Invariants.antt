use Rattle.std.proofs.Common.{◌-◌}
use Rattle.task_work.proofs.PieceLemmas.{MovedSo}
use Rattle.task_work.proofs.pieces.move_by.Given as goal

abbrev pub invariant-loop-draft : goal.invariant-loop-draft
invariant-loop-draft g l = MovedSo (g.I.ReadPart.state l.fn.reading) (g.I.ReadPart.state l.reading) (g.O.WritePart.state l.fn.draft) (g.O.WritePart.state l.draft) l.hasher

abbrev pub decreases-loop-draft : goal.decreases-loop-draft
decreases-loop-draft g l = (g.I.ReadPart.state l.reading).size - (g.I.ReadPart.state l.reading).given
