use Rattle.std.proofs.Common.{◌≡◌, drop}
use Rattle.plan_core.specs.code.Files.{are_pairs}
use Rattle.plan_core.specs.Words.{pair_numbers}
use Rattle.plan_core.proofs.files.are_pairs.Given as goal

abbrev pub invariant-loop-pair : goal.invariant-loop-pair
invariant-loop-pair l = are_pairs l.pairs l.found.site.0 (pair_numbers (drop l.pair-index l.listed)) l.left ≡ are_pairs l.pairs l.found.site.0 (pair_numbers l.listed) l.found.files.items
