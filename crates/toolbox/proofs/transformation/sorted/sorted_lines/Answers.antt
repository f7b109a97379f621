use Rattle.toolbox.proofs.SortedLemmas.{sorted_is}
use Rattle.toolbox.proofs.transformation.sorted.sorted_lines.Goals as goal

pub returns : goal.returns
returns c = sorted_is c.in_ok-lines.lines.items c.sort.new.self.items _ c.in_ok-lines.ensures c.sort.ensures.permutation c.in_ok-sort.ensures.sorted
