use Rattle.std.proofs.Common.{◌≡◌, drop, map, []}
use Rattle.plan_core.specs.code.Tables.{are_unknown}
use Rattle.plan_core.specs.declared.plan.PlanFile.{PlanFile}
use Rattle.plan_core.proofs.tables.are_files_distinct.Given as goal

abbrev pub invariant-loop-file : goal.invariant-loop-file
invariant-loop-file l = are_unknown l.known.keys (map (λ (f : PlanFile). f.lfn) (drop l.file-index l.files)) ≡ are_unknown [] (map (λ (f : PlanFile). f.lfn) l.files)
