use Rattle.std.proofs.Common.{◌≡◌, length, take}
use Rattle.digraph.specs.code.Kahn.{IsReleased}
use Rattle.digraph.proofs.kahn.release.Given as goal

abbrev pub invariant-loop-successor : goal.invariant-loop-successor
invariant-loop-successor l = (length l.counts.items ≡ length l.initial.counts.items) × IsReleased l.initial.counts.items l.counts.items l.initial.ordered.items l.ordered.items (take l.successor-index l.successors)
