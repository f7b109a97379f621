use Rattle.std.proofs.Common.{arith}
use Rattle.storage_simulation.specs.Goods.{makes}
use Rattle.lease_book.proofs.SizeLemmas.{declared_of, first_of_declared}
use Rattle.place_peaks.proofs.Offered.{declared_long}
use Rattle.lease_book.proofs.sizes.are_declared.Goals as goal

pub returns-then-sizes-count_made : goal.returns-then-sizes-count_made
returns-then-sizes-count_made c = (λ h. absurd cc, λ are. absurd (let same = declared_long c.args.plan.now (makes c.args.plan.now c.args.task.0) c.args.sizes.now are in omega (arith, same)))

pub returns : goal.returns
returns c = (
  λ h. declared_of c.args.plan.now (makes c.args.plan.now c.args.task.0) c.args.sizes.now (omega arith) (c.are_of_first.ensures.0 h),
  λ are. c.are_of_first.ensures.1 (first_of_declared c.args.plan.now (makes c.args.plan.now c.args.task.0) c.args.sizes.now are),
)
