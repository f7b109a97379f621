use Rattle.std.proofs.Common.{[], map}
use Rattle.serde_json.specs.View.{view}
use Rattle.site_yard.specs.declared.delivered.Delivered.{Delivered}
use Rattle.replica_writer.proofs.RegistrationsLemmas.{digests_step, entries_step}
use Rattle.replica_writer.proofs.writer.entries.Goals as goal

abbrev none : Delivered
none = record { file = record { 0 = 0 }; length = 0; digest = [] }

pub loop-one-preserved : goal.loop-one-preserved
loop-one-preserved c = record {
  entries = entries_step c.args.plan.now c.args.delivered.now c.loop-one.one-index none (map view c.loop-one.entries.items) (map view c.add_entry.new.entries.items) c.loop-one-test.true c.in_ok-add_entry.ensures.entries c.loop-one.invariant.entries;
  digests = digests_step c.args.delivered.now c.loop-one.one-index none c.loop-one-test.true c.loop-one.invariant.digests c.in_ok-add_entry.ensures.digest;
}
