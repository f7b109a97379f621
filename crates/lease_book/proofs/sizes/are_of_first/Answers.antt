use Rattle.std.proofs.Common.{arith}
use Rattle.storage_simulation.specs.Goods.{makes}
use Rattle.lease_book.proofs.SizeLemmas.{first_short}
use Rattle.lease_book.proofs.sizes.are_of_first.Goals as goal

pub returns-then-sizes-count_made : goal.returns-then-sizes-count_made
returns-then-sizes-count_made c = (λ h. absurd cc, λ are. absurd (let short = first_short c.args.plan.now (makes c.args.plan.now c.args.task.0) c.args.sizes.now are in omega (arith, short)))
