use Rattle.std.proofs.Common.{◌≡◌, ◌++◌}
use Rattle.plan_request.proofs.FileSizesLemmas.{each_by}
use Rattle.plan_request.proofs.file_sizes.each_size_by.Given as goal

abbrev pub invariant-loop-file : goal.invariant-loop-file
invariant-loop-file l = l.sizes.items ++ each_by l.index l.default l.file-iterator.a.rest.now l.file-iterator.b.rest.now ≡ each_by l.index l.default l.files l.stated
