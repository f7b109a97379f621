use Rattle.std.proofs.Common.{◌≤◌, ◌∙◌, sym, length, arith}
use Rattle.transfer_refiner.specs.code.View.{draft_of}
use Rattle.transfer_refiner.specs.Tasks.{kinds_of}
use Rattle.transfer_refiner.proofs.TogetherLemmas.{count_small}
use Rattle.transfer_refiner.proofs.refining.plan_or_fault.Goals as goal

pub plan_without_fault-requires-clause-few : goal.plan_without_fault-requires-clause-few
plan_without_fault-requires-clause-few c = let small : length (kinds_of (draft_of c.args.view.now)) ≤ c.args.limit = count_small (draft_of c.args.view.now) c.args.limit (sym c.in-Ok-None.ensures ∙ c.in-Ok-None.field-0-is) in omega (arith, small, c.requires.few)
