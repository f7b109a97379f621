use Rattle.std.proofs.Common.{◌≡◌, ◌++◌, drop}
use Rattle.std.specs.Str.{bytes_eq}
use Rattle.peg_json.specs.Elements.{first_repeat}
use Rattle.workflow_reader.specs.Linking.{ids_of}
use Rattle.workflow_reader.proofs.duplicates.add_ids.Given as goal

abbrev pub invariant-loop-job : goal.invariant-loop-job
invariant-loop-job l =
    (first_repeat bytes_eq l.ids (ids_of (drop l.job-index l.jobs)) ≡ first_repeat bytes_eq l.fn.ids (ids_of l.jobs))
    × (l.ids ++ ids_of (drop l.job-index l.jobs) ≡ l.fn.ids ++ ids_of l.jobs)
