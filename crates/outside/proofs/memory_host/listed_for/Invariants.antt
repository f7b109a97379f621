use Rattle.std.proofs.Common.{◌≡◌, ◌++◌}
use Rattle.std.specs.Prelude.{drop}
use Rattle.outside.specs.code.MemoryParts.{listed_for}
use Rattle.outside.proofs.memory_host.listed_for.Given as goal

abbrev pub invariant-loop-part : goal.invariant-loop-part
invariant-loop-part l = l.listed.items ++ listed_for (drop l.part-index l.parts) l.call ≡ listed_for l.parts l.call
