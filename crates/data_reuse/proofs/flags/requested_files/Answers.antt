use Rattle.std.proofs.Common.{◌≡◌, ◌∙◌, ◌||◌, ℕ, Bool, false, List, length, ap, subst, sym}
use Rattle.std.specs.Prelude.{replicate}
use Rattle.std.specs.List.{list_any, AllByRecursion}
use Rattle.std.proofs.lemmas.List.{length-replicate}
use Rattle.workflow_core.specs.declared.workflow.Job.{Job}
use Rattle.workflow_core.specs.code.WellFormed.{IsJobOver}
use Rattle.workflow_core.specs.Requested.{requests, is_requested}
use Rattle.data_reuse.specs.code.Flags.{is_set}
use Rattle.data_reuse.proofs.TestsLemmas.{all_at, or_false, rest_more, rest_none}
use Rattle.data_reuse.proofs.FlagsLemmas.{none_set}
use Rattle.data_reuse.proofs.flags.requested_files.Goals as goal

pub loop-job-init : goal.loop-job-init
loop-job-init c =
    let zeros : c.in_ok-flags.flags.items ≡ replicate (length c.as_slice.result.now) false = c.in_ok-flags.ensures.items_if_clones_equal (λ y h. h) in (
      ap (λ (bs : List Bool). length bs) zeros ∙ length-replicate (length c.as_slice.result.now) false ∙ ap (λ (ns : List (List ℕ)). length ns) c.as_slice.ensures,
      λ f. ap (λ (js : List Job). list_any (requests f) js || is_set c.in_ok-flags.flags.items f) c.as_slice-job-items.ensures
          ∙ ap (λ (b : Bool). is_requested c.args.workflow.now f || b) (ap (λ (bs : List Bool). is_set bs f) zeros ∙ none_set (length c.as_slice.result.now) f) ∙ or_false (is_requested c.args.workflow.now f),
    )

pub set_requested-requires : goal.set_requested-requires
set_requested-requires c =
    subst (λ (n : ℕ). IsJobOver n c.job-item.result) (sym c.loop-job.invariant.0) (subst (IsJobOver (length c.args.workflow.now.files)) (sym c.job-item.is)
    (all_at (IsJobOver (length c.args.workflow.now.files)) c.as_slice-job-items.result.now c.loop-job.job-index c.job-item.result (subst (AllByRecursion (IsJobOver (length c.args.workflow.now.files))) (sym c.as_slice-job-items.ensures) c.requires.jobs) c.loop-job-test.true))

pub loop-job-preserved : goal.loop-job-preserved
loop-job-preserved c = (
  c.set_requested.ensures.long ∙ c.loop-job.invariant.0,
  rest_more (λ (f : ℕ) (j : Job). requests f j) (is_set c.set_requested.new.flags.items) (is_set c.loop-job.flags.items) (is_requested c.args.workflow.now) c.as_slice-job-items.result.now c.loop-job.job-index c.job-item.result c.loop-job-test.true
      (λ f. c.set_requested.ensures.each f ∙ ap (λ (j : Job). requests f j || is_set c.loop-job.flags.items f) c.job-item.is) c.loop-job.invariant.1,
)

pub returns-clause-each : goal.returns-clause-each
returns-clause-each c = rest_none (λ (f : ℕ) (j : Job). requests f j) (is_set c.loop-job.flags.items) (is_requested c.args.workflow.now) c.as_slice-job-items.result.now c.loop-job.job-index c.loop-job-test.false c.loop-job.invariant.1
