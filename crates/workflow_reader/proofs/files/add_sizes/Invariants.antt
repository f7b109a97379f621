use Rattle.std.proofs.Common.{◌≡◌, drop}
use Rattle.workflow_reader.specs.code.Known.{with_sizes}
use Rattle.workflow_reader.proofs.files.add_sizes.Given as goal

abbrev pub invariant-loop-used : goal.invariant-loop-used
invariant-loop-used l = with_sizes l.files l.sizes.items (drop l.used-index l.used-items) ≡ with_sizes l.files l.fn.sizes.items l.used-items
