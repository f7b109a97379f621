use Rattle.std.proofs.Common.{◌≡◌, ◌≤◌, ◌*◌, ◌^◌, cond}
use Rattle.storage_simulation.specs.Goods.{lies_at}
use Rattle.storage_simulation.specs.code.Standings.{held_of}
use Rattle.values.specs.Numbers.{total}
use Rattle.lease_rules.specs.State.{stored_size}
use Rattle.lease_book.proofs.sums.stored_at.Given as goal

abbrev pub invariant-loop-good : goal.invariant-loop-good
invariant-loop-good l = record {
  sum : l.sum ≡ total l.good (λ g. cond (lies_at l.plan g l.place) (stored_size (held_of l.standing g)) 0);
  small : l.sum ≤ l.good * 2 ^ 40;
}
