use Rattle.std.proofs.Common.{◌<◌, ◌≡◌, length}
use Rattle.std.specs.List.{All}
use Rattle.digraph.proofs.finishing.finishing_order.Given as goal

abbrev pub invariant-loop : goal.invariant-loop
invariant-loop l = (length l.met.items ≡ length l.successors) × (length l.left.items ≡ length l.successors) × All (λ n. n < length l.successors) l.ordered.items
