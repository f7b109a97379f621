use Rattle.std.proofs.Common.{◌≤◌, ◌<◌, length}
use Rattle.std.specs.Io.KnownBytes.{Consumes}
use Rattle.host_files.proofs.reading.read_front.Given as goal

abbrev pub invariant-loop : goal.invariant-loop
invariant-loop g l = Consumes (g.F.Read.remaining l.initial.file) (g.F.Read.remaining l.file) l.into.items × (length l.into.items ≤ l.limit) × (0 < length l.piece)
