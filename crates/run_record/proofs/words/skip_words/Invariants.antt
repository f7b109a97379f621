use Rattle.std.proofs.Common.{◌≡◌, drop}
use Rattle.std.specs.Option.{option_copied}
use Rattle.run_record.specs.code.Words.{words_in, words_of}
use Rattle.run_record.proofs.words.skip_words.Given as goal

abbrev pub invariant-loop : goal.invariant-loop
invariant-loop l = words_in (option_copied l.rest) ≡ drop l.counter (words_of l.text)
