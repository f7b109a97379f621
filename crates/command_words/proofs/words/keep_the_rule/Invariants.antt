use Rattle.std.proofs.Common.{◌≡◌, drop, map}
use Rattle.std.specs.Prelude.{string_bytes}
use Rattle.std.specs.List.{list_all}
use Rattle.command_words.specs.code.Words.{keeps_the_rule}
use Rattle.command_words.proofs.words.keep_the_rule.Given as goal

abbrev pub invariant-loop-word : goal.invariant-loop-word
invariant-loop-word l = list_all keeps_the_rule (map string_bytes (drop l.word-index l.words)) ≡ list_all keeps_the_rule (map string_bytes l.words)
