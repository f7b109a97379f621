use Rattle.std.proofs.Common.{◌≡◌, ◌+◌, ◌<◌, ℕ, suc, length, take, ap, ◌∙◌, arith}
use Rattle.storage_simulation.specs.code.Change.{size_part}
use Rattle.storage_simulation.specs.Goods.{makes}
use Rattle.storage_simulation.specs.Usage.{sum_of}
use Rattle.place_peaks.proofs.SizingLemmas.{sum_take, sum_take_less}
use Rattle.place_peaks.proofs.goods.made_size.Goals as goal

pub overflow_add-sum : goal.overflow_add-sum
overflow_add-sum c =
    let below : c.loop-k.k < length (makes c.args.plan.now c.args.task) = omega arith in
    let next = sum_take (size_part c.args.plan.now c.args.place) (makes c.args.plan.now c.args.task) c.loop-k.k below in
    let less = sum_take_less (size_part c.args.plan.now c.args.place) (makes c.args.plan.now c.args.task) (suc c.loop-k.k) in
    let one = c.size_at-sum.ensures ∙ ap (size_part c.args.plan.now c.args.place) c.made_at.ensures in
    omega (arith, next, less, one, c.loop-k.invariant, c.requires.few)

pub loop-k-preserved : goal.loop-k-preserved
loop-k-preserved c =
    let below : c.loop-k.k < length (makes c.args.plan.now c.args.task) = omega arith in
    let next = sum_take (size_part c.args.plan.now c.args.place) (makes c.args.plan.now c.args.task) c.loop-k.k below in
    let one = c.size_at-sum.ensures ∙ ap (size_part c.args.plan.now c.args.place) c.made_at.ensures in
    let e : suc c.loop-k.k ≡ c.loop-k.k + 1 = omega arith in
    let same = ap (λ (n : ℕ). sum_of (size_part c.args.plan.now c.args.place) (take n (makes c.args.plan.now c.args.task))) e in
    omega (arith, next, one, same, c.loop-k.invariant)
