use Rattle.std.proofs.Common.{◌∙◌}
use Rattle.run_record.specs.code.Events.{event}
use Rattle.run_record.proofs.ParserLemmas.{none_read, other_read}
use Rattle.run_record.proofs.lines.read_line.Goals as goal

pub returns-in_default-entry-clause-none : goal.returns-in_default-entry-clause-none
returns-in_default-entry-clause-none c = λ _.
    none_read c.args.second c.in-Some.text.now c.args.line.now c.deref.result.now c.in-Some.ensures.text
    (c.deref.ensures.value ∙ rw c.in_ok-read_sizes.was at c.read_sizes.ensures) c.in_default-entry.ensures

pub returns-then-not-branch-clause-none : goal.returns-then-not-branch-clause-none
returns-then-not-branch-clause-none c = λ _.
    other_read c.args.second c.in-Some.text.now c.args.line.now c.deref.result.now (event c.in-Some-entry.entry) c.in-Some.ensures.text
    (c.deref.ensures.value ∙ rw c.in_ok-read_sizes.was at c.read_sizes.ensures) c.in-Some-entry.ensures
    (c.in_ok-is_line_of.ensures.none c.if-not-branch.true)
