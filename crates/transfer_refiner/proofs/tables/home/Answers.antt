use Rattle.std.proofs.Common.{◌∙◌}
use Rattle.transfer_refiner.specs.code.View.{draft_of}
use Rattle.transfer_refiner.proofs.MovingLemmas.{home_found, home_missing}
use Rattle.transfer_refiner.proofs.tables.home.Goals as goal

pub returns-in-Some : goal.returns-in-Some
returns-in-Some c = home_found (draft_of c.args.view.now) c.args.view.now.graph.now c.args.file.0 c.producer.result c.in-Some.job c.before-in-Some.result.now _ c.requires.draft c.requires.graph c.requires.in_range c.producer.ensures c.in-Some.is (λ x. c.before-in-Some.ensures.same x ∙ c.requires.tables.held x c.in-Some.job.0) c.first_site.ensures

pub returns-in-None : goal.returns-in-None
returns-in-None c = home_missing (draft_of c.args.view.now) c.args.view.now.graph.now c.args.file.0 c.producer.result c.requires.graph c.requires.in_range c.producer.ensures c.in-None.is
