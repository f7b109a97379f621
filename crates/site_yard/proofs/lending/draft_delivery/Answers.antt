use Rattle.std.proofs.Common.{sym}
use Rattle.site_yard.specs.code.Loan.{delivery_target}
use Rattle.site_yard.proofs.lending.draft_delivery.Goals as goal

pub returns-clause-answer : goal.returns-clause-answer
returns-clause-answer g c = c.draft_at.ensures.answer (delivery_target c.args.plan.now c.args.file.0) (let name = c.in-Ok.ensures in let file = c.file_name.ensures in cc) (sym c.declared_size.ensures)
