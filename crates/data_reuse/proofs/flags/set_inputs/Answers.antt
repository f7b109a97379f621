use Rattle.std.proofs.Common.{◌∙◌, ◌<◌, ◌||◌, ℕ, true, List, length, refl, ap, slice_index_or, slice_set, nat_eq, arith}
use Rattle.std.specs.List.{list_any}
use Rattle.std.proofs.lemmas.List.{length-set}
use Rattle.values.specs.declared.numbers.FileId.{FileId}
use Rattle.data_reuse.specs.code.Flags.{is_set, reads}
use Rattle.data_reuse.proofs.TestsLemmas.{number_in, rest_more, rest_none}
use Rattle.data_reuse.proofs.FlagsLemmas.{flag_true}
use Rattle.data_reuse.proofs.flags.set_inputs.Goals as goal

pub loop-file-init : goal.loop-file-init
loop-file-init c = (refl, λ f. ap (λ (gs : List FileId). list_any (λ (g : FileId). nat_eq g.0 f) gs || is_set c.args.flags.now.items f) c.as_slice-file-items.ensures)

pub index_mut-requires : goal.index_mut-requires
index_mut-requires c =
    let below : (slice_index_or c.as_slice-file-items.result.now c.loop-file.file-index (record { 0 = 0 })).0 < length c.args.flags.now.items =
    number_in (λ (g : FileId). g.0) (length c.args.flags.now.items) c.as_slice-file-items.result.now c.loop-file.file-index (record { 0 = 0 }) (rw c.as_slice-file-items.ensures c.requires.inputs) c.loop-file-test.true in
    omega (arith, c.loop-file.flags.ok, c.loop-file.invariant.0, below)

pub loop-file-preserved : goal.loop-file-preserved
loop-file-preserved c =
    let g : ℕ = (slice_index_or c.as_slice-file-items.result.now c.loop-file.file-index (record { 0 = 0 })).0 in
    let below : g < length c.args.flags.now.items =
    number_in (λ (g : FileId). g.0) (length c.args.flags.now.items) c.as_slice-file-items.result.now c.loop-file.file-index (record { 0 = 0 }) (rw c.as_slice-file-items.ensures c.requires.inputs) c.loop-file-test.true in (
      length-set c.loop-file.flags.items g true ∙ c.loop-file.invariant.0,
      rest_more (λ (f : ℕ) (g : FileId). nat_eq g.0 f) (is_set (slice_set c.loop-file.flags.items g true)) (is_set c.loop-file.flags.items) (λ f. reads f c.args.job.now || is_set c.args.flags.now.items f) c.as_slice-file-items.result.now c.loop-file.file-index (record { 0 = 0 }) c.loop-file-test.true
          (λ f. flag_true c.loop-file.flags.items g f (omega (arith, below, c.loop-file.invariant.0))) c.loop-file.invariant.1,
    )

pub returns-clause-each : goal.returns-clause-each
returns-clause-each c = rest_none (λ (f : ℕ) (g : FileId). nat_eq g.0 f) (is_set c.loop-file.flags.items) (λ f. reads f c.args.job.now || is_set c.args.flags.now.items f) c.as_slice-file-items.result.now c.loop-file.file-index c.loop-file-test.false c.loop-file.invariant.1
