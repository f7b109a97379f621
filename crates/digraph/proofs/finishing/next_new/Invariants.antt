use Rattle.std.proofs.Common.{◌<◌, ◌≡◌, length, vec_len}
use Rattle.std.specs.List.{All}
use Rattle.digraph.proofs.finishing.next_new.Given as goal

abbrev pub invariant-loop-node : goal.invariant-loop-node
invariant-loop-node l = (length l.left.items ≡ length l.initial.left.items) × All (λ n. n < length l.initial.left.items) l.ordered.items

abbrev pub decreases-loop-node : goal.decreases-loop-node
decreases-loop-node l = vec_len l.stack
