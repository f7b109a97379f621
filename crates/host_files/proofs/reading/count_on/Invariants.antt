use Rattle.std.proofs.Common.{◌≡◌, ◌+◌, ◌<◌, ℕ, length}
use Rattle.host_files.specs.Reading.{HasPassed}
use Rattle.host_files.proofs.reading.count_on.Given as goal

abbrev pub invariant-loop : goal.invariant-loop
invariant-loop g l = (n : ℕ) × HasPassed (g.F.Read.remaining l.initial.file) (g.F.Read.remaining l.file) n × (l.length ≡ l.read + n) × (0 < length l.piece)
