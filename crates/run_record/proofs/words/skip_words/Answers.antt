use Rattle.std.proofs.Common.{◌∙◌, sym, arith}
use Rattle.std.specs.Option.{option_copied}
use Rattle.run_record.specs.code.Words.{words_of, words_in}
use Rattle.run_record.proofs.WordsLemmas.{one_more, none_more}
use Rattle.run_record.proofs.words.skip_words.Goals as goal

pub returns-in_default : goal.returns-in_default
returns-in_default c = sym (none_more (words_of c.args.text.now) c.loop.counter c.args.count (sym (rw c.in_default.is at c.loop.invariant)) (omega arith))

pub loop-preserved : goal.loop-preserved
loop-preserved c =
    sym (one_more (words_of c.args.text.now) c.loop.counter c.first_word.result.0.now (words_in (option_copied c.first_word.result.1))
    (sym (rw c.in-Some.is at c.loop.invariant) ∙ c.first_word.ensures))
