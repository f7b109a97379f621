use Rattle.std.proofs.Common.{◌∙◌}
use Rattle.workflow_core.specs.WellFormed.{parent_of, child_of}
use Rattle.transfer_refiner.specs.code.View.{draft_of}
use Rattle.transfer_refiner.proofs.EdgesLemmas.{stated_pair}
use Rattle.transfer_refiner.proofs.edges.push_stated.Goals as goal

pub returns : goal.returns
returns c = λ u t. stated_pair (draft_of c.args.view.now) c.args.edges.now.items c.push_all_apart.new.edges.items c.before-firsts.result.now c.before-seconds.result.now c.args.pair.now u t c.in_ok-push_all_apart.ensures (λ x. c.before-firsts.ensures.same x ∙ c.requires.held x (parent_of c.args.pair.now)) (λ x. c.before-seconds.ensures.same x ∙ c.requires.held x (child_of c.args.pair.now))
