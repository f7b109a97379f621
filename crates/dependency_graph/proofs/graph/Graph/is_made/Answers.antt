use Rattle.std.proofs.Common.{◌∙◌, sym}
use Rattle.dependency_graph.proofs.GraphLemmas.{known_maker}
use Rattle.dependency_graph.proofs.graph.Graph.is_made.Goals as goal

pub returns : goal.returns
returns c = λ w graph. c.is_some.ensures ∙ sym (known_maker w c.args.self.now graph c.args.file.0 c.requires c.producer.result (sym c.producer.ensures))
