use Rattle.std.proofs.Common.{sym}
use Rattle.site_yard.specs.code.Loan.{pair_target}
use Rattle.site_yard.proofs.lending.draft_pair.Goals as goal

pub returns-clause-answer : goal.returns-clause-answer
returns-clause-answer g c = c.draft_at.ensures.answer (pair_target c.args.plan.now c.args.pair.0) (sym c.in-Ok.ensures) (sym c.pair_limit.ensures)
