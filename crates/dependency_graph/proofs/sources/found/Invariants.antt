use Rattle.std.proofs.Common.{◌≡◌, ◌++◌, map, drop}
use Rattle.values.specs.declared.numbers.FileId.{FileId}
use Rattle.dependency_graph.specs.code.Sources.{found}
use Rattle.dependency_graph.proofs.sources.found.Given as goal

abbrev pub invariant-loop-file : goal.invariant-loop-file
invariant-loop-file l = l.jobs.items ++ found l.producers (map (λ (f : FileId). f.0) (drop l.file-index l.files)) ≡ found l.producers (map (λ (f : FileId). f.0) l.files)
