-- The turns of the kept jobs, in order of (level, number).
use Rattle.std.specs.Prelude.{ℕ, ◌&&◌, Bool, cond, List, length}
use Rattle.values.specs.Numbers.{total}
use Rattle.dependency_graph.specs.Levels.{is_kept}
use Rattle.dependency_graph.specs.Ranking.{comes_before}

-- a job's turn: how many kept jobs come before it
abbrev pub turn_of : List Bool → List ℕ → ℕ → ℕ
turn_of kept levels a = total (length kept) (λ b. cond (is_kept kept b && comes_before levels b a) 1 0)
