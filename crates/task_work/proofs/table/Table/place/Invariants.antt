use Rattle.std.proofs.Common.{◌≡◌, ℕ, ◌≤◌, drop, take, length}
use Rattle.values.specs.Apply.{part}
use Rattle.plan_core.specs.Numbers.{or_else}
use Rattle.plan_core.specs.Words.{file_numbers}
use Rattle.task_work.specs.Table.{at}
use Rattle.task_work.proofs.table.Table.place.Given as goal

abbrev pub invariant-loop-k : goal.invariant-loop-k
invariant-loop-k l =
    (l.k ≤ length l.files)
    × (l.k ≤ length l.initial.blobs.items)
    × (l.blobs.items ≡ take l.k l.initial.blobs.items)
    × ((f : ℕ) → at l.self f ≡ or_else (part f (drop l.k (file_numbers l.files)) (drop l.k l.initial.blobs.items)) (at l.initial.self f))

abbrev pub decreases-loop-k : goal.decreases-loop-k
decreases-loop-k l = l.k
