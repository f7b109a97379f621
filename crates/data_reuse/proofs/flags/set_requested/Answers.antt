use Rattle.std.proofs.Common.{◌≡◌, ◌∙◌, ◌<◌, ◌||◌, ◌&&◌, ◌+◌, ℕ, Bool, true, false, List, length, drop, refl, ap, sym, slice_index_or, nat_eq, arith}
use Rattle.std.specs.List.{list_any}
use Rattle.std.proofs.lemmas.List.{length-set}
use Rattle.workflow_core.specs.declared.workflow.Output.{Output}
use Rattle.workflow_core.specs.Requested.{requests}
use Rattle.data_reuse.specs.code.Flags.{is_set}
use Rattle.data_reuse.proofs.TestsLemmas.{number_in, rest_more, rest_none}
use Rattle.data_reuse.proofs.FlagsLemmas.{flag_true}
use Rattle.data_reuse.proofs.flags.set_requested.Goals as goal
use Rattle.data_reuse.proofs.flags.set_requested.Goals.{then-output, else-output}

pub loop-output-init : goal.loop-output-init
loop-output-init c = (refl, λ f. ap (λ (os : List Output). list_any (λ (o : Output). o.stage_out && nat_eq o.file.0 f) os || is_set c.args.flags.now.items f) c.as_slice-output-items.ensures)

pub index_mut-requires : goal.index_mut-requires
index_mut-requires c =
    let below : (slice_index_or c.as_slice-output-items.result.now c.loop-output.output-index (record { file = record { 0 = 0 }; stage_out = false; register = false })).file.0 < length c.args.flags.now.items =
    number_in (λ (o : Output). o.file.0) (length c.args.flags.now.items) c.as_slice-output-items.result.now c.loop-output.output-index (record { file = record { 0 = 0 }; stage_out = false; register = false }) (rw c.as_slice-output-items.ensures c.requires.outputs) c.loop-output-test.true in
    omega (arith, c.loop-output.flags.ok, c.loop-output.invariant.0, below)

pub loop-output-preserved : goal.loop-output-preserved
loop-output-preserved c =
    let d : Output = record { file = record { 0 = 0 }; stage_out = false; register = false } in
    let o : Output = slice_index_or c.as_slice-output-items.result.now c.loop-output.output-index d in
    let old : List Bool = c.loop-output.flags.items in
    let below : o.file.0 < length c.args.flags.now.items = number_in (λ (o : Output). o.file.0) (length c.args.flags.now.items) c.as_slice-output-items.result.now c.loop-output.output-index d (rw c.as_slice-output-items.ensures c.requires.outputs) c.loop-output-test.true in
    let more : (new : List Bool) → length new ≡ length old → ((f : ℕ) → is_set new f ≡ ((o.stage_out && nat_eq o.file.0 f) || is_set old f))
    → (length new ≡ length c.args.flags.now.items) × ((f : ℕ) → (list_any (λ (o : Output). o.stage_out && nat_eq o.file.0 f) (drop (c.loop-output.output-index + 1) c.as_slice-output-items.result.now) || is_set new f) ≡ (requests f c.args.job.now || is_set c.args.flags.now.items f)) =
    λ new long each. (long ∙ c.loop-output.invariant.0, rest_more (λ (f : ℕ) (o : Output). o.stage_out && nat_eq o.file.0 f) (is_set new) (is_set old) (λ f. requests f c.args.job.now || is_set c.args.flags.now.items f) c.as_slice-output-items.result.now c.loop-output.output-index d c.loop-output-test.true each c.loop-output.invariant.1) in
    elim c.if-output.branch [
      | then-output w ↦ more c.if-output.flags.items (ap (λ v. length v.items) w.flags-is ∙ length-set old o.file.0 true) (λ f. ap (λ v. is_set v.items f) w.flags-is ∙ flag_true old o.file.0 f (omega (arith, below, c.loop-output.invariant.0)) ∙ ap (λ (b : Bool). (b && nat_eq o.file.0 f) || is_set old f) (sym w.if-output.true))
      | else-output w ↦ more c.if-output.flags.items (ap (λ v. length v.items) w.flags-is) (λ f. ap (λ v. is_set v.items f) w.flags-is ∙ ap (λ (b : Bool). (b && nat_eq o.file.0 f) || is_set old f) (sym w.if-output.false))
    ]

pub returns-clause-each : goal.returns-clause-each
returns-clause-each c = rest_none (λ (f : ℕ) (o : Output). o.stage_out && nat_eq o.file.0 f) (is_set c.loop-output.flags.items) (λ f. requests f c.args.job.now || is_set c.args.flags.now.items f) c.as_slice-output-items.result.now c.loop-output.output-index c.loop-output-test.false c.loop-output.invariant.1
