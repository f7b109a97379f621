use Rattle.std.proofs.Common.{◌≡◌, All, map, take}
use Rattle.serde_json.specs.View.{view}
use Rattle.replica_writer.specs.Document.{entry_tree}
use Rattle.replica_writer.specs.Writer.{IsDigest, registrations}
use Rattle.site_yard.specs.declared.delivered.Delivered.{Delivered}
use Rattle.replica_writer.proofs.writer.entries.Given as goal

abbrev pub invariant-loop-one : goal.invariant-loop-one
invariant-loop-one l = record {
  entries : map view l.entries.items ≡ map entry_tree (registrations l.plan (take l.one-index l.delivered));
  digests : All (λ (d : Delivered). IsDigest d.digest) (take l.one-index l.delivered);
}
