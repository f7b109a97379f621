use Rattle.replica_writer.proofs.RegistrationsLemmas.{added, left_out}
use Rattle.replica_writer.proofs.writer.add_entry.Goals as goal

pub returns-in_ok-push-clause-entries : goal.returns-in_ok-push-clause-entries
returns-in_ok-push-clause-entries c =
    added c.args.plan.now c.args.delivered.now c.as_slice.result.now c.index-as_slice-delivered.result c.args.entries.now.items c.push.new.self.items c.in_ok-entry.field-0
    c.as_slice.ensures c.requires c.index-as_slice-delivered.is c.if-file.true c.in_ok-entry.ensures c.in_ok-push.ensures.items

pub returns-else-file-clause-entries : goal.returns-else-file-clause-entries
returns-else-file-clause-entries c =
    left_out c.args.plan.now c.args.delivered.now c.as_slice.result.now c.index-as_slice-delivered.result c.args.entries.now.items
    c.as_slice.ensures c.requires c.index-as_slice-delivered.is c.if-file.false
