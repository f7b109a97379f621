use Rattle.digraph.proofs.AdjacencyLemmas.{pushed_at}
use Rattle.digraph.proofs.adjacency.add.Goals as goal

pub returns-clause-added : goal.returns-clause-added
returns-clause-added c = λ k. pushed_at c.args.lists.now.items c.args.at k c.index_mut.result.now c.push.new.self c.args.node c.requires c.index_mut.ensures.value c.in_ok-push.ensures.items
