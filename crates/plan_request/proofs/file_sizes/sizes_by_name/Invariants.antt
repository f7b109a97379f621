use Rattle.std.proofs.Common.{◌≡◌, [], map, drop}
use Rattle.plan_request.specs.code.Index.{with_entries}
use Rattle.plan_request.specs.FileSizes.{named_size}
use Rattle.plan_request.proofs.file_sizes.sizes_by_name.Given as goal

abbrev pub invariant-loop-entry : goal.invariant-loop-entry
invariant-loop-entry l = with_entries l.index (map named_size (drop l.entry-index l.sizes)) ≡ with_entries [] (map named_size l.sizes)
