use Rattle.std.proofs.Common.{◌≡◌, drop}
use Rattle.workflow_reader.specs.code.Known.{repeat_after}
use Rattle.workflow_reader.proofs.duplicates.repeated.Given as goal

abbrev pub invariant-loop-used : goal.invariant-loop-used
invariant-loop-used l = repeat_after l.inputs l.outputs (drop l.used-index l.uses) ≡ repeat_after l.fn.inputs l.fn.outputs l.uses
