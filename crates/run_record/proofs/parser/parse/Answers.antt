use Rattle.std.proofs.Common.{◌∙◌, sym}
use Rattle.run_record.proofs.FaultLemmas.{no_malformed, version_malformed}
use Rattle.run_record.proofs.OneTextLemmas.{one_text}
use Rattle.run_record.proofs.ParserLemmas.{is_read}
use Rattle.run_record.proofs.parser.parse.Goals as goal

pub returns-in_default-clause-fault : goal.returns-in_default-clause-fault
returns-in_default-clause-fault c = version_malformed c.args.bytes.now (λ second h. c.in_default.ensures.none second (h ∙ sym c.cut_line.ensures.line))

pub returns-in-None-clause-text : goal.returns-in-None-clause-text
returns-in-None-clause-text c =
    c.in-None.ensures c.args.bytes.now
    (is_read c.args.bytes.now c.cut_line.result.0.now c.cut_line.result.1.now c.in_ok-rest.rest.now c.in-Some.second c.read_entries.new.history.events
    c.cut_line.ensures.line c.cut_line.ensures.rest c.in-Some.ensures.some c.in_ok-rest.ensures.lines c.has_entries.ensures c.in_ok-rest.ensures.versions)

pub returns-in-Some-malformed_line-clause-fault : goal.returns-in-Some-malformed_line-clause-fault
returns-in-Some-malformed_line-clause-fault c =
    c.in-Some-malformed_line.ensures c.args.bytes.now
    (is_read c.args.bytes.now c.cut_line.result.0.now c.cut_line.result.1.now c.in_ok-rest.rest.now c.in-Some.second c.read_entries.new.history.events
    c.cut_line.ensures.line c.cut_line.ensures.rest c.in-Some.ensures.some c.in_ok-rest.ensures.lines c.has_entries.ensures c.in_ok-rest.ensures.versions)

pub returns-in_default-clause-back : goal.returns-in_default-clause-back
returns-in_default-clause-back c = λ es p h. absurd (no_malformed es c.args.bytes.now 1 p h (returns-in_default-clause-fault c))

pub returns-in-None-clause-back : goal.returns-in-None-clause-back
returns-in-None-clause-back c = λ es p h. one_text c.read_entries.new.history.events es c.has_entries.ensures p (returns-in-None-clause-text c ∙ sym h)

pub returns-in-Some-malformed_line-clause-back : goal.returns-in-Some-malformed_line-clause-back
returns-in-Some-malformed_line-clause-back c = λ es p h.
    absurd (no_malformed es c.args.bytes.now c.in-Some-malformed_line.line p h (returns-in-Some-malformed_line-clause-fault c))
