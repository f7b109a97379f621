use Rattle.std.proofs.Common.{lit<}
use Rattle.std.proofs.lemmas.Str.Pattern.{split_once_first, split_parts}
use Rattle.run_record.proofs.WordsLemmas.{cut_word, no_space}
use Rattle.run_record.proofs.words.first_word.Goals as goal

pub returns-in-Some : goal.returns-in-Some
returns-in-Some c =
    let parts = rw c.in-Some.is at (split_once_first 32 c.args.text.now c.split_once.result c.split_once.ensures.cases (lit< tt)) in
    cut_word c.args.text.now c.in-Some.word.now c.in-Some.rest.now parts.0 parts.1 parts.2

pub returns-in-None : goal.returns-in-None
returns-in-None c = no_space c.args.text.now (rw c.in-None.is at (split_parts 32 c.args.text.now c.split_once.result c.split_once.ensures.cases (lit< tt)))
