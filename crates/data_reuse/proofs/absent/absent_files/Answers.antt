use Rattle.std.proofs.Common.{◌∙◌, List, ap}
use Rattle.replica_catalog.specs.declared.catalog.Replica.{Replica}
use Rattle.data_reuse.specs.Absent.{is_absent}
use Rattle.data_reuse.proofs.AbsentLemmas.{map_more}
use Rattle.data_reuse.proofs.absent.absent_files.Goals as goal

pub loop-file-preserved : goal.loop-file-preserved
loop-file-preserved c =
    c.in_ok-push.ensures.items ∙ map_more (is_absent c.args.catalog.now.entries c.args.force) c.loop-file.absent.items c.args.files.now c.loop-file.file-index c.file-item.result c.is_absent.result c.loop-file-test.true c.loop-file.invariant
    (c.is_absent.ensures ∙ ap (λ (es : List Replica). is_absent es c.args.force c.file-item.result) c.in_ok-replicas.ensures ∙ ap (is_absent c.args.catalog.now.entries c.args.force) c.file-item.is)
