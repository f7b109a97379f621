use Rattle.std.proofs.Common.{◌≡◌, drop}
use Rattle.workflow_core.specs.code.Names.{with_names}
use Rattle.workflow_reader.specs.Linking.{lfns_of_uses}
use Rattle.workflow_reader.proofs.files.add_files.Given as goal

abbrev pub invariant-loop-used : goal.invariant-loop-used
invariant-loop-used l = with_names l.files (lfns_of_uses (drop l.used-index l.used-items)) ≡ with_names l.fn.files (lfns_of_uses l.used-items)
