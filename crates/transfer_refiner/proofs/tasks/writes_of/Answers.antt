use Rattle.std.specs.Prelude.{Some}
use Rattle.std.proofs.lemmas.Result.{IfOk-weaker}
use Rattle.plan_core.specs.Kinds.{kind_writes}
use Rattle.transfer_refiner.proofs.tasks.writes_of.Goals as goal

pub returns : goal.returns
returns c = IfOk-weaker c.pairs_at-pairs.result _ _ (λ ids are. are (kind_writes c.args.jobs.now (Some c.args.kind.now)) c.in_ok-files.ensures) c.pairs_at-pairs.ensures
