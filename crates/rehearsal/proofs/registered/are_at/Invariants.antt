use Rattle.std.proofs.Common.{◌≡◌, drop}
use Rattle.rehearsal.specs.Registered.{are_at}
use Rattle.rehearsal.proofs.registered.are_at.Given as goal

abbrev pub invariant-loop-place : goal.invariant-loop-place
invariant-loop-place l = are_at (drop l.place l.images) (drop l.place l.entries) ≡ are_at l.images l.entries
