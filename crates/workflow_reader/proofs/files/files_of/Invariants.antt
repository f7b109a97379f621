use Rattle.std.proofs.Common.{◌≡◌, [], drop}
use Rattle.std.specs.List.{flat_map}
use Rattle.workflow_core.specs.code.Names.{with_names}
use Rattle.workflow_reader.specs.Linking.{lfns_in}
use Rattle.workflow_reader.proofs.files.files_of.Given as goal

abbrev pub invariant-loop-job : goal.invariant-loop-job
invariant-loop-job l = with_names l.files (flat_map lfns_in (drop l.job-index l.jobs)) ≡ with_names [] (flat_map lfns_in l.jobs)
