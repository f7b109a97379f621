use Rattle.std.proofs.Common.{◌≡◌, ◌≤◌, map, take, drop}
use Rattle.task_work.specs.Making.{AreWritten, Each}
use Rattle.outside.specs.code.Parts.{draft_faults}
use Rattle.task_work.specs.Pieces.{IsSteadyDraft}
use Rattle.task_work.proofs.making.write_all.Given as goal

abbrev pub invariant-loop-k : goal.invariant-loop-k
invariant-loop-k g l =
    AreWritten (take l.k (map g.O.WritePart.state l.initial.drafts)) (take l.k (map g.O.WritePart.state l.drafts)) (take l.k l.outputs)
    × Each IsSteadyDraft (map g.O.WritePart.state l.initial.drafts) (map g.O.WritePart.state l.drafts)
    × (drop l.k (map g.O.WritePart.state l.drafts) ≡ drop l.k (map g.O.WritePart.state l.initial.drafts))
    × (draft_faults (map g.O.WritePart.state l.drafts) ≤ draft_faults (map g.O.WritePart.state l.initial.drafts))
