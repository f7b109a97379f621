use Rattle.std.proofs.Common.{get_or}
use Rattle.values.specs.declared.numbers.FileId.{FileId}
use Rattle.task_work.proofs.TableLemmas.{next_file, once_rest, taken_more, there_rest}
use Rattle.task_work.proofs.table.Table.take_all.Goals as goal

pub loop-file-preserved : goal.loop-file-preserved
loop-file-preserved c =
    let i = c.loop-file.invariant in
    let k = c.loop-file.file-index in
    let zeroth : FileId = record { 0 = 0 } in
    let x = (get_or c.args.files.now k zeroth).0 in
    let cut = next_file c.args.files.now k zeroth c.loop-file-test.true in (
      taken_more c.loop-file.table c.take.new.self _ c.loop-file.blobs.items c.push.new.self.items c.in-Some.blob _ _ x cut i.1 c.in-Some.ensures.value c.in-Some.ensures.left c.in_ok-push-in-Some.ensures.items i.0,
      once_rest _ _ x cut i.1,
      there_rest c.loop-file.table c.take.new.self _ _ x cut i.1 c.in-Some.ensures.left i.2,
    )
