-- What a reader gives, and what a call that takes a workflow asks.
use Rattle.std.specs.Prelude.{ℕ, List, map}
use Rattle.values.specs.declared.numbers.FileId.{FileId}
use Rattle.values.specs.declared.numbers.JobId.{JobId}
use Rattle.workflow_core.specs.declared.workflow.Job.{Job}
use Rattle.workflow_core.specs.declared.workflow.Output.{Output}

-- the numbers of the files that a job reads, and of those that it makes
abbrev pub inputs_of : Job → List ℕ
inputs_of j = map (λ (f : FileId). f.0) j.inputs

abbrev pub outputs_of : Job → List ℕ
outputs_of j = map (λ (o : Output). o.file.0) j.outputs

-- the number of the first job of a pair, and of the second
abbrev pub parent_of : JobId × JobId → ℕ
parent_of p = p.0.0

abbrev pub child_of : JobId × JobId → ℕ
child_of p = p.1.0
