use Rattle.std.proofs.Common.{◌≡◌, ◌++◌, drop, map}
use Rattle.ensemble.specs.Prefix.{prefixed}
use Rattle.ensemble.proofs.prefix.add_names.Given as goal

abbrev pub invariant-loop-name : goal.invariant-loop-name
invariant-loop-name l = l.names.items ++ map (prefixed l.member) (drop l.name-index l.more) ≡ l.fn.names.items ++ map (prefixed l.member) l.more
