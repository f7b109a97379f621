-- A tool that fails at some of its runs.
use Rattle.std.specs.Prelude.{ℕ, ◌+◌, ◌-◌, ◌^◌, min}
use Rattle.outside.specs.declared.failing.Failing.{Failing}
use Rattle.craft.specs.declared.faulty.Faulty.{Faulty}

-- the count of a tool with failures added; at its type's end it stands still
abbrev pub faults_with : ℕ → ℕ → ℕ
faults_with faults failed = min (faults + failed) (2 ^ 64 - 1)

-- the runs that are to fail
abbrev pub runs_to_fail : {T : Type 0} → Faulty T → Failing
runs_to_fail t = t.failing

-- the wrapped tool, and how many runs failed because they were listed
abbrev pub wrapped : {T : Type 0} → Faulty T → T
wrapped t = t.tool

abbrev pub runs_failed : {T : Type 0} → Faulty T → ℕ
runs_failed t = t.failed
