use Rattle.std.proofs.Common.{◌≡◌, ◌++◌}
use Rattle.ensemble.specs.Stated.{stated_sizes}
use Rattle.ensemble.proofs.stated.add_each.Given as goal

abbrev pub invariant-loop-file : goal.invariant-loop-file
invariant-loop-file l = l.sizes.items ++ stated_sizes l.member l.file-iterator.a.rest.now l.file-iterator.b.rest.now ≡ l.fn.sizes.items ++ stated_sizes l.member l.files l.declared
