use Rattle.std.proofs.Common.{◌≡◌, ap, arith, length, map, sym, subst, ◌∙◌}
use Rattle.std.proofs.lemmas.List.{length-map}
use Rattle.plan_core.specs.Words.{writes}
use Rattle.lease_rules.specs.code.Storing.{pair_limit}
use Rattle.task_work.specs.Making.{AreWritten, Each, Fits, IsShown, limit_of}
use Rattle.outside.specs.code.Parts.{draft_faults, part_faults, reading_faults}
use Rattle.task_work.specs.Pieces.{HasRead, IsSteadyDraft}
use Rattle.task_work.proofs.MakingLemmas.{all_fit, each_long, each_same, readings_later, same_draft}
use Rattle.task_work.proofs.RunLemmas.{draft_shown, is_stored, makes_many, reading_shown, run_cause, run_shown}
use Rattle.task_work.proofs.making.make_files.Goals as goal

pub returns-in-Err-clause-shown : goal.returns-in-Err-clause-shown
returns-in-Err-clause-shown g c =
    let rs0 = map g.I.ReadPart.state c.args.readings.now in
    let rs1 = map g.I.ReadPart.state c.read_all.new.readings in
    let ds0 = map g.O.WritePart.state c.args.drafts.now in
    let t0 = g.T.Tool.faults c.args.tool.now in
    subst (IsShown (part_faults rs0 ds0) (part_faults rs1 ds0) t0 t0) (sym c.part_cause.ensures) (reading_shown (reading_faults rs0) (reading_faults rs1) (draft_faults ds0) t0 t0 c.in-Err.fault c.in-Err.ensures.fault)

pub returns-in-Err-clause-drafts : goal.returns-in-Err-clause-drafts
returns-in-Err-clause-drafts g c = each_same IsSteadyDraft same_draft (map g.O.WritePart.state c.args.drafts.now)

pub returns-in-Err-make_outputs-clause-cause : goal.returns-in-Err-make_outputs-clause-cause
returns-in-Err-make_outputs-clause-cause g c =
    let rs0 = map g.I.ReadPart.state c.args.readings.now in
    let read = c.in-Ok.ensures.read in
    run_cause g.T.Tool.apply c.args.plan.now c.args.task.0 rs0 c.in-Ok.blobs.items (g.T.Tool.faults c.args.tool.now) (g.T.Tool.faults c.make_outputs.new.tool) c.in-Err-make_outputs.cause read (sym (each_long HasRead rs0 c.in-Ok.blobs.items read) ∙ c.requires.many) c.in-Err-make_outputs.ensures.makes

pub returns-in-Err-make_outputs-clause-shown : goal.returns-in-Err-make_outputs-clause-shown
returns-in-Err-make_outputs-clause-shown g c =
    let rs0 = map g.I.ReadPart.state c.args.readings.now in
    let rs1 = map g.I.ReadPart.state c.read_all.new.readings in
    let ds0 = map g.O.WritePart.state c.args.drafts.now in
    run_shown g.T.Tool.apply c.args.plan.now c.args.task.0 c.in-Ok.blobs.items (g.T.Tool.faults c.args.tool.now) (g.T.Tool.faults c.make_outputs.new.tool) (part_faults rs0 ds0) (part_faults rs1 ds0) c.in-Err-make_outputs.cause c.in-Err-make_outputs.ensures.makes

pub returns-in-Err-make_outputs-clause-drafts : goal.returns-in-Err-make_outputs-clause-drafts
returns-in-Err-make_outputs-clause-drafts g c = each_same IsSteadyDraft same_draft (map g.O.WritePart.state c.args.drafts.now)

pub store-requires-clause-fit : goal.store-requires-clause-fit
store-requires-clause-fit g c =
    let p = c.args.plan.now in
    let outs = c.in-Ok-make_outputs.outputs.items in
    let made = c.in-Ok-make_outputs.ensures.makes in
    let ds0 = map g.O.WritePart.state c.args.drafts.now in
    subst (Each Fits ds0) (sym c.deref.ensures.value)
    (all_fit p _ ds0 outs c.requires.limits (makes_many g.T.Tool.apply p c.args.task.0 c.in-Ok.blobs.items outs made.0) made.1)

pub returns-clause-shown : goal.returns-clause-shown
returns-clause-shown g c =
    let rs0 = map g.I.ReadPart.state c.args.readings.now in
    let rs1 = map g.I.ReadPart.state c.read_all.new.readings in
    let ds0 = map g.O.WritePart.state c.args.drafts.now in
    let ds1 = map g.O.WritePart.state c.store.new.drafts in
    let t0 = g.T.Tool.faults c.args.tool.now in
    let t1 = g.T.Tool.faults c.make_outputs.new.tool in
    subst (IsShown (part_faults rs0 ds0) (part_faults rs1 ds1) t0 t1) (sym c.part_cause-in-Err-store.ensures)
    (draft_shown (reading_faults rs0) (reading_faults rs1) (draft_faults ds0) (draft_faults ds1) t0 t1 c.in-Err-store.fault (readings_later rs0 rs1 c.in-Ok.ensures.steady) c.in-Err-store.ensures.fault)

pub returns-in-Ok-store-clause-made : goal.returns-in-Ok-store-clause-made
returns-in-Ok-store-clause-made g c =
    let rs0 = map g.I.ReadPart.state c.args.readings.now in
    let ds0 = map g.O.WritePart.state c.args.drafts.now in
    let ds1 = map g.O.WritePart.state c.store.new.drafts in
    let outs = c.in-Ok-make_outputs.outputs.items in
    let read = c.in-Ok.ensures.read in
    let made = c.in-Ok-make_outputs.ensures.makes in
    is_stored g.T.Tool.apply c.args.plan.now c.args.task.0 rs0 ds0 ds1 c.in-Ok.blobs.items outs c.in-Ok-store.sizes.items read (sym (each_long HasRead rs0 c.in-Ok.blobs.items read) ∙ c.requires.many) made.0 made.1
    (subst (AreWritten ds0 ds1) c.deref.ensures.value c.in-Ok-store.ensures.written)
    (c.in-Ok-store.ensures.sizes ∙ ap (map length) c.deref.ensures.value)

pub store-requires-clause-many : goal.store-requires-clause-many
store-requires-clause-many g c =
    let p = c.args.plan.now in
    let outs = c.in-Ok-make_outputs.outputs.items in
    let made = c.in-Ok-make_outputs.ensures.makes in
    let same : length c.deref.result.now ≡ length outs = ap length c.deref.ensures.value in
    let many : length outs ≡ length (writes p c.args.task.0) = makes_many g.T.Tool.apply p c.args.task.0 c.in-Ok.blobs.items outs made.0 in
    let drafts = length-map c.args.drafts.now g.O.WritePart.state in
    let limits = ap length c.requires.limits in
    let left = length-map (map g.O.WritePart.state c.args.drafts.now) limit_of in
    let right = length-map (writes p c.args.task.0) (pair_limit p) in
    omega (arith, same, many, drafts, limits, left, right)
