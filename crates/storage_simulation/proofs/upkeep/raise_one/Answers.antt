use Rattle.std.proofs.Common.{◌≡◌, ℕ, ◌+◌, ◌<◌, ◌^◌, length, get_or, ◌∙◌, arith}
use Rattle.std.proofs.lemmas.List.{get_or_default}
use Rattle.storage_simulation.specs.code.Ordering.{progress}
use Rattle.storage_simulation.proofs.ScoringLemmas.{frees_small}
use Rattle.storage_simulation.proofs.UpkeepLemmas.{set_most}
use Rattle.storage_simulation.proofs.upkeep.raise_one.Goals as goal

pub overflow_add-index_mut : goal.overflow_add-index_mut
overflow_add-index_mut c =
    let u : ℕ = c.last_parent-last.result in
    let below = c.requires.set.orderable.parents_below c.args.task u c.last_parent-last.ensures.parent in
    let within : u < length c.args.table.now.items = omega (arith, c.requires.long, below) in
    let same : c.index_mut.result.now ≡ get_or c.args.table.now.items u 0 = c.index_mut.ensures.value ∙ get_or_default c.args.table.now.items u c.index_mut.result.now 0 within in
    let small = frees_small c.args.plan.now (progress c.args.standing.now) c.args.task c.requires.set.limits c.requires.set.standing.small in
    omega (arith, same, c.requires.small u, small, c.frees.ensures)

pub returns-then-missing-eq1-clause-small : goal.returns-then-missing-eq1-clause-small
returns-then-missing-eq1-clause-small c =
    let u : ℕ = c.last_parent-last.result in
    let below = c.requires.set.orderable.parents_below c.args.task u c.last_parent-last.ensures.parent in
    let within : u < length c.args.table.now.items = omega (arith, c.requires.long, below) in
    let same : c.index_mut.result.now ≡ get_or c.args.table.now.items u 0 = c.index_mut.ensures.value ∙ get_or_default c.args.table.now.items u c.index_mut.result.now 0 within in
    let small = frees_small c.args.plan.now (progress c.args.standing.now) c.args.task c.requires.set.limits c.requires.set.standing.small in
    λ v. set_most c.args.table.now.items u v (c.index_mut.result.now + c.frees.result) (2 ^ 40) within (omega (arith, same, small, c.frees.ensures))
