use Rattle.std.proofs.Common.{refl, subst, sym, take}
use Rattle.task_work.proofs.PieceLemmas.{ReadSo, read_fault, read_more}
use Rattle.task_work.proofs.pieces.read_by.Goals as goal

pub returns-in-Err-clause-reading : goal.returns-in-Err-clause-reading
returns-in-Err-clause-reading g c =
    (read_fault (g.I.ReadPart.state c.args.reading.now) (g.I.ReadPart.state c.loop-bytes.reading) (g.I.ReadPart.state c.read.new.self) c.loop-bytes.bytes.items c.loop-bytes.piece c.read.new.into c.in-Err.fault c.loop-bytes.invariant c.in-Err.ensures.answer).1

pub loop-bytes-preserved : goal.loop-bytes-preserved
loop-bytes-preserved g c =
    subst (ReadSo (g.I.ReadPart.state c.args.reading.now) (g.I.ReadPart.state c.read.new.self)) (sym c.in-Ok-push_piece.ensures)
    (read_more (g.I.ReadPart.state c.args.reading.now) (g.I.ReadPart.state c.loop-bytes.reading) (g.I.ReadPart.state c.read.new.self) c.loop-bytes.bytes.items (take c.in-Ok.count c.read.new.into) c.loop-bytes.piece c.read.new.into c.in-Ok.count c.loop-bytes.invariant c.in-Ok.ensures.answer refl)
