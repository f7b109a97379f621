use Rattle.std.proofs.Common.{◌≡◌, ◌≤◌, map, take, drop}
use Rattle.task_work.specs.Making.{Each}
use Rattle.outside.specs.code.Parts.{reading_faults}
use Rattle.task_work.specs.Pieces.{HasRead, IsSteadyReading}
use Rattle.task_work.proofs.making.read_all.Given as goal

abbrev pub invariant-loop-reading : goal.invariant-loop-reading
invariant-loop-reading g l =
    Each HasRead (take l.reading-index (map g.I.ReadPart.state l.initial.readings)) l.blobs.items
    × Each IsSteadyReading (map g.I.ReadPart.state l.initial.readings) (map g.I.ReadPart.state l.readings)
    × (drop l.reading-index (map g.I.ReadPart.state l.readings) ≡ drop l.reading-index (map g.I.ReadPart.state l.initial.readings))
    × (reading_faults (map g.I.ReadPart.state l.readings) ≤ reading_faults (map g.I.ReadPart.state l.initial.readings))
