use Rattle.std.proofs.Common.{arith}
use Rattle.integration_tests.proofs.StorageLemmas.{few_places}
use Rattle.integration_tests.proofs.storage.is_within.Goals as goal

pub returns : goal.returns
returns c = λ h s l. c.loop-place.invariant s (let few = few_places c.args.plan.now c.requires.limits in omega (arith, l, few))
