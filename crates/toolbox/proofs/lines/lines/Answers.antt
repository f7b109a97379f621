use Rattle.std.proofs.Common.{sym}
use Rattle.toolbox.specs.Lines.{lines}
use Rattle.toolbox.proofs.LinesLemmas.{kept, left}
use Rattle.toolbox.proofs.lines.lines.Goals as goal

pub returns-then-is_empty : goal.returns-then-is_empty
unfolding lines
returns-then-is_empty c = left c.in_ok-lines.lines.items c.pop.new.self.items c.in-Some.last _ c.in_ok-lines.ensures c.in-Some.ensures.items (sym c.if-is_empty.ensures)

pub returns-in_ok-push-in-Some : goal.returns-in_ok-push-in-Some
unfolding lines
returns-in_ok-push-in-Some c = kept c.in_ok-lines.lines.items c.pop.new.self.items c.push.new.self.items c.in-Some.last _ c.in_ok-lines.ensures c.in-Some.ensures.items c.in_ok-push-in-Some.ensures.items (sym c.if-is_empty.ensures)
