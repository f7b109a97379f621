use Rattle.std.proofs.Common.{◌∙◌}
use Rattle.std.specs.Option.{option_copied}
use Rattle.run_record.specs.code.Words.{words_in}
use Rattle.run_record.proofs.WordsLemmas.{size_read, size_skipped}
use Rattle.run_record.proofs.reading.push_sizes.Goals as goal

pub loop-rest-preserved-in_ok-push : goal.loop-rest-preserved-in_ok-push
loop-rest-preserved-in_ok-push c =
    size_read c.loop-rest.sizes.items c.push.new.self.items c.in-Some.text.now c.first_word.result.0.now (words_in (option_copied c.first_word.result.1)) c.in-Some-size_of.size
    (rw c.in_ok-push.was at c.push.ensures.items) c.first_word.ensures c.in-Some-size_of.ensures
    ∙ rw c.in-Some.is at c.loop-rest.invariant

pub loop-rest-preserved : goal.loop-rest-preserved
loop-rest-preserved c =
    size_skipped c.loop-rest.sizes.items c.in-Some.text.now c.first_word.result.0.now (words_in (option_copied c.first_word.result.1))
    c.first_word.ensures c.in_default-size_of.ensures
    ∙ rw c.in-Some.is at c.loop-rest.invariant
