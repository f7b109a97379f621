use Rattle.std.proofs.Common.{◌<◌, ℕ, [], get_or, sym, subst}
use Rattle.storage_simulation.specs.code.Front.{front_of}
use Rattle.storage_simulation.specs.Goods.{places}
use Rattle.storage_simulation.specs.code.Ordering.{IsExceeds, IsOrder, IsPeak}
use Rattle.storage_simulation.specs.Ordering.{Progress, size}
use Rattle.storage_simulation.specs.Usage.{IsWithin}
use Rattle.storage_simulation.proofs.StartLemmas.{start_is, start_within}
use Rattle.storage_simulation.proofs.ordered.order_of.Goals as goal

pub order_from-requires-clause-start : goal.order_from-requires-clause-start
order_from-requires-clause-start c =
    let is = start_is c.in_ok-standing.standing c.in_ok-standing.ensures.held c.in_ok-standing.ensures.tasks in
    subst (λ (st : Progress). IsWithin c.args.plan.now (size st) []) (sym is) (start_within c.args.plan.now)

pub returns-clause-fault : goal.returns-clause-fault
returns-clause-fault c =
    let is = start_is c.in_ok-standing.standing c.in_ok-standing.ensures.held c.in_ok-standing.ensures.tasks in
    subst (λ (st : Progress). IsExceeds c.args.plan.now st c.in-Err.exceeds) is c.in-Err.ensures.exceeds

pub returns-in-Ok-clause-order : goal.returns-in-Ok-clause-order
returns-in-Ok-clause-order c =
    let is = start_is c.in_ok-standing.standing c.in_ok-standing.ensures.held c.in_ok-standing.ensures.tasks in
    subst (λ (st : Progress). IsOrder c.args.plan.now st (front_of c.order_from.new.bench.front)) is c.in-Ok.ensures.order

pub returns-in-Ok-clause-peaks : goal.returns-in-Ok-clause-peaks
returns-in-Ok-clause-peaks c =
    let is = start_is c.in_ok-standing.standing c.in_ok-standing.ensures.held c.in_ok-standing.ensures.tasks in
    subst (λ (st : Progress). (s : ℕ) → s < places c.args.plan.now → IsPeak c.args.plan.now st (front_of c.order_from.new.bench.front) s (get_or c.order_from.new.bench.front.peaks.items s 0)) is c.in-Ok.ensures.peaks
