use Rattle.std.proofs.Common.{map}
use Rattle.serde_json.specs.View.{view}
use Rattle.replica_writer.specs.Writer.{catalogue_text, registrations}
use Rattle.replica_writer.proofs.WriterLemmas.{line_read, result_read, text_is, text_utf8}
use Rattle.replica_writer.proofs.writer.catalogue.Goals as goal

pub returns-clause-text : goal.returns-clause-text
returns-clause-text c =
    text_is (registrations c.args.plan.now c.args.delivered.now) (map view c.in_ok-entries.entries.items) (view c.in_ok-document.document) c.in_ok-bytes.bytes.items c.new.result
    c.new.ensures c.in_ok-document.ensures c.in_ok-entries.ensures.entries c.in_ok-bytes.ensures.text

pub returns-clause-reads_back : goal.returns-clause-reads_back
returns-clause-reads_back c =
    result_read c.args.plan.now c.args.delivered.now c.new.result c.requires.apart c.requires.named c.in_ok-entries.ensures.digests (returns-clause-text c)
    (text_utf8 c.in_ok-bytes.bytes.items c.new.result (catalogue_text c.args.plan.now c.args.delivered.now) c.new.ensures (returns-clause-text c) c.in_ok-bytes.ensures.utf8)

pub returns-clause-line : goal.returns-clause-line
returns-clause-line c =
    line_read c.args.plan.now c.args.delivered.now c.requires.apart c.requires.named c.in_ok-entries.ensures.digests
    (text_utf8 c.in_ok-bytes.bytes.items c.new.result (catalogue_text c.args.plan.now c.args.delivered.now) c.new.ensures (returns-clause-text c) c.in_ok-bytes.ensures.utf8)
