use Rattle.std.proofs.Common.{◌≡◌, ◌++◌, drop}
use Rattle.plan_core.specs.Words.{file_numbers}
use Rattle.transfer_refiner.specs.code.Edges.{fan}
use Rattle.transfer_refiner.proofs.edges.push_files.Given as goal

abbrev pub invariant-loop-file : goal.invariant-loop-file
invariant-loop-file l = l.edges.items ++ fan l.from (file_numbers (drop l.file-index l.files)) ≡ l.fn.edges.items ++ fan l.from (file_numbers l.files)
