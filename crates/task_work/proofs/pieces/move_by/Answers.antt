use Rattle.std.proofs.Common.{arith, refl, take}
use Rattle.task_work.proofs.PieceLemmas.{append_fault, moved_more, piece_long, read_fault}
use Rattle.task_work.proofs.pieces.move_by.Goals as goal

pub returns-in-Err-clause-reading : goal.returns-in-Err-clause-reading
returns-in-Err-clause-reading g c =
    (read_fault (g.I.ReadPart.state c.args.reading.now) (g.I.ReadPart.state c.loop-draft.reading) (g.I.ReadPart.state c.read.new.self) c.loop-draft.invariant.bytes c.loop-draft.piece c.read.new.into c.in-Err.fault c.loop-draft.invariant.read c.in-Err.ensures.answer).1

pub loop-draft-preserved : goal.loop-draft-preserved
loop-draft-preserved g c =
    let next = c.in-Ok.ensures.answer in
    let room = next.room in
    let long = next.long in
    moved_more (g.I.ReadPart.state c.args.reading.now) (g.I.ReadPart.state c.loop-draft.reading) (g.I.ReadPart.state c.read.new.self) (g.O.WritePart.state c.args.draft.now) (g.O.WritePart.state c.loop-draft.draft) (g.O.WritePart.state c.append.new.self) c.loop-draft.hasher c.update.new.self (take c.in-Ok.count c.read.new.into) c.loop-draft.piece c.read.new.into c.in-Ok.count c.loop-draft.invariant next refl (piece_long c.read.new.into c.in-Ok.count (omega (arith, room, long))) c.update.ensures c.in-Ok-append.ensures.answer

pub returns-in-Err-append-clause-draft : goal.returns-in-Err-append-clause-draft
returns-in-Err-append-clause-draft g c =
    let next = c.in-Ok.ensures.answer in
    let room = next.room in
    let long = next.long in
    (append_fault (g.I.ReadPart.state c.args.reading.now) (g.I.ReadPart.state c.loop-draft.reading) (g.I.ReadPart.state c.read.new.self) (g.O.WritePart.state c.args.draft.now) (g.O.WritePart.state c.loop-draft.draft) (g.O.WritePart.state c.append.new.self) c.loop-draft.hasher c.in-Ok.count (take c.in-Ok.count c.read.new.into) c.loop-draft.piece c.read.new.into c.in-Err-append.fault c.requires.empty c.requires.limit c.loop-draft.invariant next (piece_long c.read.new.into c.in-Ok.count (omega (arith, room, long))) c.in-Err-append.ensures.answer).1
