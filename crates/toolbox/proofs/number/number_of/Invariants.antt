use Rattle.std.proofs.Common.{◌≡◌, ◌<◌, ◌^◌, drop}
use Rattle.toolbox.specs.Number.{number_from}
use Rattle.toolbox.proofs.number.number_of.Given as goal

abbrev pub invariant-loop-byte : goal.invariant-loop-byte
invariant-loop-byte l = (number_from l.number (drop l.byte-index l.bytes) ≡ number_from 0 l.bytes) × (l.number < 10 ^ l.byte-index)
