use Rattle.std.proofs.Common.{◌≡◌, drop}
use Rattle.evaluation.specs.Sources.{sources_from}
use Rattle.evaluation.proofs.RestLemmas.{front_then}
use Rattle.evaluation.proofs.sources.registered_sources.Given as goal

abbrev pub invariant-loop-number : goal.invariant-loop-number
invariant-loop-number l = front_then l.sources.items (sources_from l.workflow l.replicas l.number (drop l.number l.workflow.files)) ≡ sources_from l.workflow l.replicas 0 l.workflow.files
