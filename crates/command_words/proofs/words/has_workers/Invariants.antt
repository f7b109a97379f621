use Rattle.std.proofs.Common.{◌≡◌, drop, map}
use Rattle.std.specs.Prelude.{string_bytes}
use Rattle.std.specs.List.{list_any}
use Rattle.command_words.specs.Words.{begins_with, workers_option}
use Rattle.command_words.proofs.words.has_workers.Given as goal

abbrev pub invariant-loop-word : goal.invariant-loop-word
invariant-loop-word l = list_any (begins_with workers_option) (map string_bytes (drop l.word-index l.words)) ≡ list_any (begins_with workers_option) (map string_bytes l.words)
