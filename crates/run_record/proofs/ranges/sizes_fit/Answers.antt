use Rattle.std.proofs.Common.{arith}
use Rattle.run_record.proofs.RecordTextLemmas.{sizes_fit}
use Rattle.run_record.proofs.ranges.sizes_fit.Goals as goal

pub returns : goal.returns
returns c = sizes_fit c.args.sizes.now (λ i. let h = c.type_inv.sizes i in omega (arith, h))
