use Rattle.std.proofs.Common.{◌≡◌, ◌++◌, length}
use Rattle.std.specs.Option.{option_copied}
use Rattle.run_record.specs.code.Reading.{sizes_of}
use Rattle.run_record.specs.code.Words.{words_in}
use Rattle.run_record.proofs.reading.push_sizes.Given as goal

-- the sizes so far and those of what is left are those of all
abbrev pub invariant-loop-rest : goal.invariant-loop-rest
invariant-loop-rest l = l.sizes.items ++ sizes_of (words_in (option_copied l.rest)) ≡ l.fn.sizes.items ++ sizes_of (words_in (option_copied l.text))

abbrev pub decreases-loop-rest : goal.decreases-loop-rest
decreases-loop-rest l = length (words_in (option_copied l.rest))
