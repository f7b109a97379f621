use Rattle.digraph.specs.code.Digraph.{edge}
use Rattle.plan_core.specs.Words.{pair_numbers, task_numbers}
use Rattle.transfer_refiner.proofs.ParentsLemmas.{awaited_are}
use Rattle.transfer_refiner.proofs.waiting.parents_at.Goals as goal

pub returns : goal.returns
returns c = awaited_are c.args.tasks.now (edge c.args.writers.now) (edge c.args.stated.now) c.args.t (pair_numbers c.reads_at-reads.result.now) (task_numbers c.in_ok-ids.ids) c.reads_at-reads.ensures c.requires.no_cleans c.requires.writers c.requires.stated c.in_ok-ids.ensures
