use Rattle.toolbox.proofs.DealLemmas.{added_at}
use Rattle.toolbox.proofs.transformation.deal.add.Goals as goal

pub returns-clause-added : goal.returns-clause-added
returns-clause-added c = λ k. added_at c.args.texts.now.items c.args.place k c.index_mut.result.now c.push_line.new.text c.args.line.now c.requires c.index_mut.ensures.value c.in_ok-push_line.ensures
