use Rattle.std.proofs.Common.{ℕ, ◌+◌, ◌∙◌, ap}
use Rattle.run_record.proofs.FaultLemmas.{next_malformed, more_malformed, text_of_all}
use Rattle.run_record.proofs.ParserLemmas.{more_left, none_left, some_left}
use Rattle.run_record.proofs.parser.malformed_line.Goals as goal

pub returns-then-not-is_last : goal.returns-then-not-is_last
returns-then-not-is_last c = λ text r.
    next_malformed text c.args.second c.args.history.now.events c.args.rest.now r c.requires
    (λ h v. c.is_last.ensures.none c.if-not-is_last.true (c.cut_line.ensures.line ∙ h) v)
    (c.len.result + 2) (ap (λ (n : ℕ). n + 2) c.len.ensures.events)

pub returns-then-not-is_empty : goal.returns-then-not-is_empty
returns-then-not-is_empty c = λ text r.
    more_malformed text c.args.second c.args.history.now.events c.cut_line.result.1.now
    (more_left text c.args.second c.args.history.now.events c.args.rest.now c.cut_line.result.0.now c.cut_line.result.1.now c.cut_line.ensures.line c.cut_line.ensures.rest
    (c.is_last.ensures.closed c.if-not-is_last.false) r)
    (c.is_last.ensures.version c.if-not-is_last.false)
    (some_left c.cut_line.result.1.now c.is_empty.result c.is_empty.ensures c.if-not-is_empty.true)
    (c.len-then-not-is_empty.result + 3) (ap (λ (n : ℕ). n + 3) c.len-then-not-is_empty.ensures.events)

pub returns-else-not-is_empty : goal.returns-else-not-is_empty
returns-else-not-is_empty c = λ text r.
    text_of_all text c.args.second c.args.history.now.events
    (rw (none_left c.cut_line.result.1.now c.is_empty.result c.is_empty.ensures c.if-not-is_empty.false) at
    (more_left text c.args.second c.args.history.now.events c.args.rest.now c.cut_line.result.0.now c.cut_line.result.1.now c.cut_line.ensures.line c.cut_line.ensures.rest
    (c.is_last.ensures.closed c.if-not-is_last.false) r))
    (c.is_last.ensures.version c.if-not-is_last.false)
