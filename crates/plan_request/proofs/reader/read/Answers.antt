use Rattle.std.proofs.Common.{sym, subst}
use Rattle.plan_request.specs.code.Limits.{IsWithinLimits}
use Rattle.plan_request.proofs.LimitsLemmas.{request_small}
use Rattle.plan_request.proofs.reader.read.Goals as goal

pub returns-clause-limits : goal.returns-clause-limits
returns-clause-limits c = subst IsWithinLimits (sym c.in_ok-request-2.ensures.request) (request_small _ _ _ c.in_ok-request.ensures)
